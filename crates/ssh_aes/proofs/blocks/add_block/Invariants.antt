use Rattle.std.proofs.Common.{slice_index}
use Rattle.std.specs.Prelude.{bit_xor}
use Rattle.ssh_aes.proofs.Written.{IsWritten}
use Rattle.ssh_aes.proofs.blocks.add_block.Given as goal

abbrev pub invariant-loop-i : goal.invariant-loop-i
invariant-loop-i l = IsWritten (λ k. bit_xor (slice_index l.initial.sum k) (slice_index l.other k)) l.sum l.initial.sum l.i
