use Rattle.std.proofs.Common.{◌≡◌, refl, arith}
use Rattle.ssh_aes.proofs.Written.{IsWritten-all}
use Rattle.ssh_aes.proofs.hash.zero_filled_block.Goals as goal

pub returns : goal.returns
returns c = IsWritten-all _ _ _ 16 refl (let e : c.loop-i.i ≡ 16 = omega arith in rw e at c.loop-i.invariant)
