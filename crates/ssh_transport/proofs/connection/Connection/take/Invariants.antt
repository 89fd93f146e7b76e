use Rattle.std.proofs.Common.{◌-◌, length}
use Rattle.ssh_transport.specs.Calls.{call_of}
use Rattle.ssh_transport.proofs.Turning.{TakesTo}
use Rattle.ssh_transport.proofs.connection.Connection.take.Given as goal

abbrev pub invariant-turns : goal.invariant-turns
invariant-turns g l = TakesTo (call_of g.A.Agreement g.H.HostKeys g.G.GroupLookup g.R.Rng l.fn.parts l.parts) l.fn.self
    l.piece l.taken l.self

abbrev pub decreases-turns : goal.decreases-turns
decreases-turns g l = length l.piece - l.taken
