use Rattle.std.proofs.Common.{◌≡◌, ◌*◌, ◌-◌, ◌+◌, take}
use Rattle.ssh_aes.specs.Aes.{rounds}
use Rattle.ssh_aes.specs.Held.{left, keys_left}
use Rattle.ssh_aes.proofs.encryption.encrypt.Given as goal

abbrev pub invariant-loop-round : goal.invariant-loop-round
invariant-loop-round l = left l.state ≡ rounds (take (16 * (l.words + 7)) (keys_left l.keys)) (l.round - 1) l.fn.block
