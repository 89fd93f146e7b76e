use Rattle.std.proofs.Common.{arith}
use Rattle.ssh_aes.proofs.Differing.{gathered_more, gathered_all, none_gathered}
use Rattle.ssh_aes.proofs.blocks.is_same.Goals as goal

pub loop-i-preserved : goal.loop-i-preserved
loop-i-preserved c =
    gathered_more c.loop-i.difference c.args.one.now c.args.other.now c.loop-i.i (omega arith) (omega arith) c.loop-i.invariant

pub returns : goal.returns
returns c = (
  λ e. gathered_all c.loop-i.difference c.args.one.now c.args.other.now c.loop-i.i (omega arith) (omega arith) c.loop-i.invariant e,
  λ e. none_gathered c.loop-i.difference c.args.one.now c.args.other.now c.loop-i.i c.loop-i.invariant e,
)
