use Rattle.std.proofs.Common.{◌≡◌, ◌*◌, ◌-◌, ◌+◌, take}
use Rattle.ssh_aes.specs.Aes.{inverse_rounds, inverse_cipher}
use Rattle.ssh_aes.specs.Held.{inverse_left, keys_left}
use Rattle.ssh_aes.proofs.aes.Aes.decrypt_block.Given as goal

abbrev pub invariant-loop-done : goal.invariant-loop-done
invariant-loop-done l =
    let w = take (16 * (l.self-inside.words + 7)) (keys_left l.self-inside.keys) in
    inverse_rounds w (l.self-inside.words + 5 - l.done) (inverse_left l.state) ≡ inverse_cipher w (l.self-inside.words + 5) l.fn.block
