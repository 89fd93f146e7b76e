use Rattle.std.proofs.Common.{◌≡◌, ℕ, List, ◌++◌, length}
use Rattle.ssh_rules.specs.Standing.{unfinished}
use Rattle.uses.specs.Streams.{LentSoFar}
use Rattle.uses.proofs.streams.read_kept.Given as goal
use Rattle.ssh_kex.specs.Members.{AgreementKept, GroupsKept, HostsKept}
use Rattle.ssh_kex.specs.Stepping.{says_of}

abbrev pub invariant-payloads : goal.invariant-payloads
invariant-payloads g l = record {
  so_far : (more : List (List ℕ)) × (l.lent.items ≡ l.fn.lent.items ++ more) × LentSoFar (says_of g.A.Agreement g.H.HostKeys g.G.GroupLookup l.fn.transport.config l.fn.parts.agreement l.fn.parts.hosts l.fn.parts.groups) l.fn.transport more l.transport;
  config : l.transport.config ≡ l.fn.transport.config;
  agreement : AgreementKept g.A.Agreement l.fn.parts.agreement l.parts.agreement;
  hosts : HostsKept g.H.HostKeys l.fn.parts.hosts l.parts.hosts;
  groups : GroupsKept g.G.GroupLookup l.fn.parts.groups l.parts.groups;
}

abbrev pub decreases-payloads : goal.decreases-payloads
decreases-payloads g l = length (unfinished l.transport)
