use Rattle.std.proofs.Common.{length}
use Rattle.ssh_transport.specs.Calls.{ReadSome, call_of}
use Rattle.ssh_transport.specs.declared.connection.PacketRead.TheVariants.{Packet}
use Rattle.ssh_transport.proofs.connection.Connection.read_on.Given as goal

abbrev pub invariant-packets : goal.invariant-packets
invariant-packets g l = ReadSome l.queues (call_of g.A.Agreement g.H.HostKeys g.G.GroupLookup g.R.Rng l.fn.parts
    l.parts)
    l.fn.self Packet l.self

abbrev pub decreases-packets : goal.decreases-packets
decreases-packets g l = length l.self.reader.waiting
