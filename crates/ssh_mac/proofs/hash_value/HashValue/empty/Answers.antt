-- Sixty-four zeros stand behind no byte.
use Rattle.std.proofs.Common.{refl, arith}
use Rattle.ssh_mac.specs.Zeros.{zeros}
use Rattle.ssh_mac.proofs.hash_value.HashValue.empty.Goals as goal

pub invariant_of-result : goal.invariant_of-result
unfolding zeros
invariant_of-result c = (omega arith, refl, refl)
