use Rattle.ssh_channels.specs.Asking.{ReceivesAll}
use Rattle.std.proofs.Common.{take}
use Rattle.ssh_mux.proofs.pair.receive_new.Given as goal

abbrev pub invariant-loop-payload : goal.invariant-loop-payload
invariant-loop-payload l = ReceivesAll (take l.payload-index l.new) l.fn.side.mux l.side.mux
