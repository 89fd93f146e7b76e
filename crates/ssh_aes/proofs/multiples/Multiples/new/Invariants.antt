use Rattle.std.proofs.Common.{◌*◌, ◌/◌, ◌%◌, slice_index}
use Rattle.ssh_aes.specs.Field.{polynomial_product}
use Rattle.ssh_aes.proofs.Written.{IsWritten}
use Rattle.ssh_aes.proofs.multiples.Multiples.new.Given as goal

abbrev pub invariant-loop-i : goal.invariant-loop-i
invariant-loop-i l = IsWritten (λ k. polynomial_product 8 (k % 16) (slice_index l.halves (k / 16))) l.rows l.initial.rows (16 * l.i)
