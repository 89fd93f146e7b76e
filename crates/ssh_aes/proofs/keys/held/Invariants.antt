use Rattle.std.proofs.Common.{◌*◌, slice_index}
use Rattle.ssh_aes.specs.Held.{key_byte}
use Rattle.ssh_aes.proofs.Holding.{IsHeld}
use Rattle.ssh_aes.proofs.keys.held.Given as goal

abbrev pub invariant-loop-round : goal.invariant-loop-round
invariant-loop-round l = IsHeld key_byte (slice_index l.keys) l.all (16 * l.round)
