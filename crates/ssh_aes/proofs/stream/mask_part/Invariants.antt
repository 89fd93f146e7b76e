use Rattle.ssh_aes.proofs.Streams.{masked_byte}
use Rattle.ssh_aes.proofs.Written.{IsWritten}
use Rattle.ssh_aes.proofs.stream.mask_part.Given as goal

abbrev pub invariant-loop-i : goal.invariant-loop-i
invariant-loop-i l = IsWritten (masked_byte l.aes l.iv l.place l.initial.bytes) l.bytes l.initial.bytes l.i
