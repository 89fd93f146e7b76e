use Rattle.std.proofs.Common.{length}
use Rattle.ssh_run.proofs.ReadLoop.{HasRead}
use Rattle.ssh_run.proofs.receiver.Receiver.read.Given as goal

abbrev pub invariant-loop : goal.invariant-loop
invariant-loop l = HasRead l.fn.self l.bytes l.self

abbrev pub decreases-loop : goal.decreases-loop
decreases-loop l = length l.self.reader.waiting
