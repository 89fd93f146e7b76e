-- What stands behind the bytes that were copied are the zeros that were there.
use Rattle.ssh_mac.specs.Zeros.{zeros}
use Rattle.ssh_mac.proofs.Filling.{filled}
use Rattle.ssh_mac.proofs.hash_value.HashValue.of.Goals as goal

pub invariant_of-result : goal.invariant_of-result
unfolding zeros
invariant_of-result c = filled 64 _ _ c.copy_from_slice.ensures.after c.requires
