use Rattle.std.proofs.Common.{◌≡◌, ◌≤◌, length, take}
use Rattle.ssh_wire.specs.declared.side.Side.TheVariants.{Client, Server}
use Rattle.ssh_rules.specs.Attacking.{AttacksSide, tells_by}
use Rattle.ssh_attack.specs.AttackEnds.{LeavesEnd, attacked_end}
use Rattle.ssh_attack.proofs.attack.Attack.run.Given as goal
use Rattle.ssh_kex.specs.Members.{AgreementKept, GroupsKept, HostsKept}
use Rattle.ssh_rules.specs.Answering.{tests_by}
use Rattle.ssh_rules.specs.Asking.{counted_by}

abbrev pub invariant-loop-step : goal.invariant-loop-step
invariant-loop-step g l = record {
  within : l.step-index ≤ length l.steps;
  client_config : l.self.client.transport.config ≡ l.fn.self.client.transport.config;
  client : AttacksSide (tells_by g.A.Agreement g.H.HostKeys g.G.GroupLookup l.fn.self.client.transport.config l.fn.client_parts.agreement l.client_parts.agreement l.fn.client_parts.hosts l.client_parts.hosts l.fn.client_parts.groups l.client_parts.groups) Client (take l.step-index l.steps) l.answers.items (attacked_end l.fn.self.client (counted_by g.A.Agreement g.H.HostKeys g.G.GroupLookup l.fn.client_parts.agreement l.fn.client_parts.hosts l.fn.client_parts.groups)) (attacked_end l.self.client (counted_by g.A.Agreement g.H.HostKeys g.G.GroupLookup l.client_parts.agreement l.client_parts.hosts l.client_parts.groups));
  client_agreement : AgreementKept g.A.Agreement l.fn.client_parts.agreement l.client_parts.agreement;
  client_hosts : HostsKept g.H.HostKeys l.fn.client_parts.hosts l.client_parts.hosts;
  client_groups : GroupsKept g.G.GroupLookup l.fn.client_parts.groups l.client_parts.groups;
  server_config : l.self.server.transport.config ≡ l.fn.self.server.transport.config;
  server : AttacksSide (tells_by g.A.Agreement g.H.HostKeys g.G.GroupLookup l.fn.self.server.transport.config l.fn.server_parts.agreement l.server_parts.agreement l.fn.server_parts.hosts l.server_parts.hosts l.fn.server_parts.groups l.server_parts.groups) Server (take l.step-index l.steps) l.answers.items (attacked_end l.fn.self.server (counted_by g.A.Agreement g.H.HostKeys g.G.GroupLookup l.fn.server_parts.agreement l.fn.server_parts.hosts l.fn.server_parts.groups)) (attacked_end l.self.server (counted_by g.A.Agreement g.H.HostKeys g.G.GroupLookup l.server_parts.agreement l.server_parts.hosts l.server_parts.groups));
  server_agreement : AgreementKept g.A.Agreement l.fn.server_parts.agreement l.server_parts.agreement;
  server_hosts : HostsKept g.H.HostKeys l.fn.server_parts.hosts l.server_parts.hosts;
  server_groups : GroupsKept g.G.GroupLookup l.fn.server_parts.groups l.server_parts.groups;
  client_leaves : LeavesEnd l.fn.self.client.transport l.self.client.transport (record { stream = g.R.Rng.stream l.fn.client_parts.rng; tests = tests_by g.A.Agreement g.H.HostKeys g.G.GroupLookup l.fn.client_parts.agreement l.fn.client_parts.hosts l.fn.client_parts.groups }) (record { stream = g.R.Rng.stream l.client_parts.rng; tests = tests_by g.A.Agreement g.H.HostKeys g.G.GroupLookup l.client_parts.agreement l.client_parts.hosts l.client_parts.groups });
  server_leaves : LeavesEnd l.fn.self.server.transport l.self.server.transport (record { stream = g.R.Rng.stream l.fn.server_parts.rng; tests = tests_by g.A.Agreement g.H.HostKeys g.G.GroupLookup l.fn.server_parts.agreement l.fn.server_parts.hosts l.fn.server_parts.groups }) (record { stream = g.R.Rng.stream l.server_parts.rng; tests = tests_by g.A.Agreement g.H.HostKeys g.G.GroupLookup l.server_parts.agreement l.server_parts.hosts l.server_parts.groups });
}
