-- One more byte is combined.
use Rattle.std.proofs.Common.{refl, arith}
use Rattle.ssh_mac.specs.Hmac.{bytes_xor}
use Rattle.ssh_mac.proofs.BlockKey.{combined_more}
use Rattle.ssh_mac.proofs.hmac.combine.Goals as goal

pub loop-b-init : goal.loop-b-init
unfolding bytes_xor
loop-b-init c = refl

pub loop-b-preserved : goal.loop-b-preserved
loop-b-preserved c =
    combined_more c.args.byte c.args.block.now c.loop-b.block c.loop-b.b-index (omega arith) (omega arith) c.loop-b.invariant
