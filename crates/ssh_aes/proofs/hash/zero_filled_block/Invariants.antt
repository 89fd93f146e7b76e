use Rattle.std.proofs.Common.{◌+◌, slice_index}
use Rattle.ssh_aes.proofs.Written.{IsWritten}
use Rattle.ssh_aes.proofs.hash.zero_filled_block.Given as goal

abbrev pub invariant-loop-i : goal.invariant-loop-i
invariant-loop-i l = IsWritten (λ k. slice_index l.bytes (l.at + k)) l.cut l.initial.cut l.i
