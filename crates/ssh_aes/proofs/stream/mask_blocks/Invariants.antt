use Rattle.std.proofs.Common.{◌*◌}
use Rattle.ssh_aes.proofs.Streams.{masked_byte}
use Rattle.ssh_aes.proofs.Written.{IsWritten}
use Rattle.ssh_aes.proofs.stream.mask_blocks.Given as goal

abbrev pub invariant-loop-k : goal.invariant-loop-k
invariant-loop-k l = IsWritten (masked_byte l.aes l.iv l.place l.initial.bytes) l.bytes l.initial.bytes (16 * l.k)
