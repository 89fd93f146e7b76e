use Rattle.std.proofs.Common.{◌*◌}
use Rattle.ssh_aes.proofs.Equivalent.{unmixed_byte}
use Rattle.ssh_aes.specs.Held.{inverse_byte, keys_left}
use Rattle.ssh_aes.proofs.Holding.{IsHeld}
use Rattle.ssh_aes.proofs.keys.inverse_keys_of.Given as goal

abbrev pub invariant-loop-round : goal.invariant-loop-round
invariant-loop-round l = IsHeld inverse_byte (unmixed_byte (keys_left l.keys)) l.inverse_keys (16 * l.round)
