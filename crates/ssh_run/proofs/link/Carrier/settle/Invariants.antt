use Rattle.std.proofs.Common.{◌≡◌, ◌-◌, ◌≤◌}
use Rattle.ssh_run.specs.Asking.{SideAsks}
use Rattle.ssh_run.specs.LinkEnds.{LeavesBoth, link_of}
use Rattle.ssh_run.specs.RefusedCarrying.{settle_turns}
use Rattle.ssh_run.proofs.LinkSoFar.{TurnsSoFar}
use Rattle.ssh_run.proofs.link.Carrier.settle.Given as goal
use Rattle.ssh_kex.specs.Members.{AgreementKept, GroupsKept, HostsKept}
use Rattle.ssh_kex.specs.Stepping.{says_of}
use Rattle.ssh_rules.specs.Answering.{tests_by}
use Rattle.ssh_rules.specs.Asking.{counted_by}

abbrev pub invariant-loop-self : goal.invariant-loop-self
invariant-loop-self g l = record {
  room : l.turns ≤ settle_turns l.fn.self.bound;
  bound : l.self.bound ≡ l.fn.self.bound;
  turns : TurnsSoFar
      (says_of g.A.Agreement g.H.HostKeys g.G.GroupLookup l.fn.self.client.transport.config l.fn.client_parts.agreement l.fn.client_parts.hosts l.fn.client_parts.groups)
      (says_of g.A.Agreement g.H.HostKeys g.G.GroupLookup l.fn.self.server.transport.config l.fn.server_parts.agreement l.fn.server_parts.hosts l.fn.server_parts.groups)
      (settle_turns l.fn.self.bound - l.turns) (link_of l.fn.self) (link_of l.self);
  asks_client : SideAsks l.fn.self.client.transport l.self.client.transport (counted_by g.A.Agreement g.H.HostKeys g.G.GroupLookup l.fn.client_parts.agreement l.fn.client_parts.hosts l.fn.client_parts.groups) (counted_by g.A.Agreement g.H.HostKeys g.G.GroupLookup l.client_parts.agreement l.client_parts.hosts l.client_parts.groups);
  asks_server : SideAsks l.fn.self.server.transport l.self.server.transport (counted_by g.A.Agreement g.H.HostKeys g.G.GroupLookup l.fn.server_parts.agreement l.fn.server_parts.hosts l.fn.server_parts.groups) (counted_by g.A.Agreement g.H.HostKeys g.G.GroupLookup l.server_parts.agreement l.server_parts.hosts l.server_parts.groups);
  client_agreement : AgreementKept g.A.Agreement l.fn.client_parts.agreement l.client_parts.agreement;
  client_hosts : HostsKept g.H.HostKeys l.fn.client_parts.hosts l.client_parts.hosts;
  client_groups : GroupsKept g.G.GroupLookup l.fn.client_parts.groups l.client_parts.groups;
  server_agreement : AgreementKept g.A.Agreement l.fn.server_parts.agreement l.server_parts.agreement;
  server_hosts : HostsKept g.H.HostKeys l.fn.server_parts.hosts l.server_parts.hosts;
  server_groups : GroupsKept g.G.GroupLookup l.fn.server_parts.groups l.server_parts.groups;
  leaves : LeavesBoth (link_of l.fn.self) (link_of l.self) (record { stream = g.R.Rng.stream l.fn.client_parts.rng; tests = tests_by g.A.Agreement g.H.HostKeys g.G.GroupLookup l.fn.client_parts.agreement l.fn.client_parts.hosts l.fn.client_parts.groups }) (record { stream = g.R.Rng.stream l.client_parts.rng; tests = tests_by g.A.Agreement g.H.HostKeys g.G.GroupLookup l.client_parts.agreement l.client_parts.hosts l.client_parts.groups }) (record { stream = g.R.Rng.stream l.fn.server_parts.rng; tests = tests_by g.A.Agreement g.H.HostKeys g.G.GroupLookup l.fn.server_parts.agreement l.fn.server_parts.hosts l.fn.server_parts.groups }) (record { stream = g.R.Rng.stream l.server_parts.rng; tests = tests_by g.A.Agreement g.H.HostKeys g.G.GroupLookup l.server_parts.agreement l.server_parts.hosts l.server_parts.groups });
}

abbrev pub decreases-loop-self : goal.decreases-loop-self
decreases-loop-self g l = l.turns
