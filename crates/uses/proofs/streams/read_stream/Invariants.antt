use Rattle.std.proofs.Common.{◌≡◌, ◌≤◌, ◌-◌, length, take}
use Rattle.uses.specs.Streams.{FedLent}
use Rattle.uses.proofs.streams.read_stream.Given as goal
use Rattle.ssh_kex.specs.Members.{AgreementKept, GroupsKept, HostsKept}
use Rattle.ssh_kex.specs.Stepping.{says_of}

abbrev pub invariant-pieces : goal.invariant-pieces
invariant-pieces g l = record {
  read : FedLent (says_of g.A.Agreement g.H.HostKeys g.G.GroupLookup l.fn.transport.config l.fn.parts.agreement l.fn.parts.hosts l.fn.parts.groups) l.fn.transport (take l.taken l.fn.bytes) l.lent.items l.transport;
  within : l.taken ≤ length l.fn.bytes;
  config : l.transport.config ≡ l.fn.transport.config;
  agreement : AgreementKept g.A.Agreement l.fn.parts.agreement l.parts.agreement;
  hosts : HostsKept g.H.HostKeys l.fn.parts.hosts l.parts.hosts;
  groups : GroupsKept g.G.GroupLookup l.fn.parts.groups l.parts.groups;
}

abbrev pub decreases-pieces : goal.decreases-pieces
decreases-pieces g l = length l.fn.bytes - l.taken
