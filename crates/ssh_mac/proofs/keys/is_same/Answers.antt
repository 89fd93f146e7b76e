-- Nothing is gathered exactly where the texts are equal.
use Rattle.std.proofs.Common.{arith}
use Rattle.ssh_mac.proofs.Differing.{gathered_more, gathered_all}
use Rattle.ssh_mac.proofs.keys.is_same.Goals as goal

pub loop-i-preserved : goal.loop-i-preserved
loop-i-preserved c =
    gathered_more c.loop-i.difference c.args.tag.now c.args.given.now c.loop-i.i (omega arith) (omega arith) c.loop-i.invariant

pub returns : goal.returns
returns c = gathered_all c.loop-i.difference c.args.tag.now c.args.given.now c.loop-i.i (omega arith) (omega arith) c.loop-i.invariant
