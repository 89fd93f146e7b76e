use Rattle.std.proofs.Common.{◌≡◌, ◌≤◌, ◌<◌, ◌^◌, length, take}
use Rattle.ssh_rules.specs.Headline.{bound_of}
use Rattle.ssh_run.specs.Asking.{SideAsks}
use Rattle.ssh_run.specs.Carrying.{bound_after}
use Rattle.ssh_run.specs.LinkEnds.{LeavesBoth, link_of}
use Rattle.ssh_run.proofs.LinkSoFar.{RunsSoFar}
use Rattle.ssh_run.proofs.link.Carrier.run.Given as goal
use Rattle.ssh_kex.specs.Members.{AgreementKept, GroupsKept, HostsKept}
use Rattle.ssh_kex.specs.Stepping.{says_of}
use Rattle.ssh_rules.specs.Answering.{tests_by}
use Rattle.ssh_rules.specs.Asking.{counted_by}

abbrev pub invariant-loop-step : goal.invariant-loop-step
invariant-loop-step g l = record {
  within : l.step-index ≤ length l.steps;
  few : length l.steps < 2 ^ 64;
  bound : l.fn.self.bound ≡ 1 → l.self.bound ≡ bound_of (take l.step-index l.steps);
  now : l.self.bound ≡ bound_after l.fn.self.bound (take l.step-index l.steps);
  runs : RunsSoFar
      (says_of g.A.Agreement g.H.HostKeys g.G.GroupLookup l.fn.self.client.transport.config l.fn.client_parts.agreement l.fn.client_parts.hosts l.fn.client_parts.groups)
      (says_of g.A.Agreement g.H.HostKeys g.G.GroupLookup l.fn.self.server.transport.config l.fn.server_parts.agreement l.fn.server_parts.hosts l.fn.server_parts.groups)
      l.fn.self.bound (take l.step-index l.steps) (link_of l.fn.self) (link_of l.self) l.marks.items;
  asks_client : SideAsks l.fn.self.client.transport l.self.client.transport (counted_by g.A.Agreement g.H.HostKeys g.G.GroupLookup l.fn.client_parts.agreement l.fn.client_parts.hosts l.fn.client_parts.groups) (counted_by g.A.Agreement g.H.HostKeys g.G.GroupLookup l.client_parts.agreement l.client_parts.hosts l.client_parts.groups);
  asks_server : SideAsks l.fn.self.server.transport l.self.server.transport (counted_by g.A.Agreement g.H.HostKeys g.G.GroupLookup l.fn.server_parts.agreement l.fn.server_parts.hosts l.fn.server_parts.groups) (counted_by g.A.Agreement g.H.HostKeys g.G.GroupLookup l.server_parts.agreement l.server_parts.hosts l.server_parts.groups);
  client_agreement : AgreementKept g.A.Agreement l.fn.client_parts.agreement l.client_parts.agreement;
  client_hosts : HostsKept g.H.HostKeys l.fn.client_parts.hosts l.client_parts.hosts;
  client_groups : GroupsKept g.G.GroupLookup l.fn.client_parts.groups l.client_parts.groups;
  server_agreement : AgreementKept g.A.Agreement l.fn.server_parts.agreement l.server_parts.agreement;
  server_hosts : HostsKept g.H.HostKeys l.fn.server_parts.hosts l.server_parts.hosts;
  server_groups : GroupsKept g.G.GroupLookup l.fn.server_parts.groups l.server_parts.groups;
  leaves : LeavesBoth (link_of l.fn.self) (link_of l.self) (record { stream = g.R.Rng.stream l.fn.client_parts.rng; tests = tests_by g.A.Agreement g.H.HostKeys g.G.GroupLookup l.fn.client_parts.agreement l.fn.client_parts.hosts l.fn.client_parts.groups }) (record { stream = g.R.Rng.stream l.client_parts.rng; tests = tests_by g.A.Agreement g.H.HostKeys g.G.GroupLookup l.client_parts.agreement l.client_parts.hosts l.client_parts.groups }) (record { stream = g.R.Rng.stream l.fn.server_parts.rng; tests = tests_by g.A.Agreement g.H.HostKeys g.G.GroupLookup l.fn.server_parts.agreement l.fn.server_parts.hosts l.fn.server_parts.groups }) (record { stream = g.R.Rng.stream l.server_parts.rng; tests = tests_by g.A.Agreement g.H.HostKeys g.G.GroupLookup l.server_parts.agreement l.server_parts.hosts l.server_parts.groups });
}
