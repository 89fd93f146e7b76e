use Rattle.std.proofs.Common.{◌≡◌, ◌*◌, ◌-◌, ◌+◌, take}
use Rattle.ssh_aes.specs.Aes.{rounds}
use Rattle.ssh_aes.specs.Held.{left, keys_left}
use Rattle.ssh_aes.proofs.encryption.Encryption.encrypt_two.Given as goal

abbrev pub invariant-loop-round : goal.invariant-loop-round
invariant-loop-round l = record {
  one : left l.one ≡ rounds (take (16 * (l.self-inside.words + 7)) (keys_left l.self-inside.keys)) (l.round - 1) l.fn.first;
  two : left l.two ≡ rounds (take (16 * (l.self-inside.words + 7)) (keys_left l.self-inside.keys)) (l.round - 1) l.fn.second;
}
