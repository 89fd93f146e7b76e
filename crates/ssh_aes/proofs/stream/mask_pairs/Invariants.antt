use Rattle.std.proofs.Common.{◌*◌}
use Rattle.ssh_aes.proofs.Streams.{masked_byte}
use Rattle.ssh_aes.proofs.Written.{IsWritten}
use Rattle.ssh_aes.proofs.stream.mask_pairs.Given as goal

abbrev pub invariant-loop-pair : goal.invariant-loop-pair
invariant-loop-pair l = IsWritten (masked_byte l.aes l.iv l.place l.initial.bytes) l.bytes l.initial.bytes (16 * (2 * l.pair))
