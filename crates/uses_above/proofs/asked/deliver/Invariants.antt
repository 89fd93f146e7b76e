use Rattle.std.proofs.Common.{take}
use Rattle.ssh_channels.specs.Asking.{ReceivesAll}
use Rattle.uses_above.proofs.asked.deliver.Given as goal

abbrev pub invariant-loop-payload : goal.invariant-loop-payload
invariant-loop-payload l = ReceivesAll (take l.payload-index l.payload-items) l.fn.to l.to
