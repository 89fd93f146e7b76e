-- The rounds of encryption, one after another.
use Rattle.std.proofs.Common.{◌≡◌, ℕ, suc, ◌+◌, ◌-◌, ◌*◌, ◌<◌, ◌≤◌, List, length, take, arith, sym, ap, ◌∙◌}
use Rattle.ssh_aes.specs.Aes.{rounds, cipher, aes, add_round_key, mix_columns, shift_rows, sub_bytes}
use Rattle.ssh_aes.specs.Held.{left, keys_left}
use Rattle.ssh_aes.specs.Keys.{IsExpanded, key_in}
use Rattle.ssh_aes.specs.Laws.{AreOctets}
use Rattle.ssh_aes.proofs.Rounding.{length-keys_left}
use Rattle.ssh_aes.proofs.Schedules.{add_round_key-take, encrypted}

pub rounds_begun : (n : ℕ) (held block state : List ℕ) → left state ≡ add_round_key (keys_left held) 0 block → left state ≡ rounds (take (16 * (n + 7)) (keys_left held)) 0 block
unfolding rounds
rounds_begun n held block state e = e ∙ sym (add_round_key-take (keys_left held) (16 * (n + 7)) 0 block (omega arith))

pub rounds_more : (n round : ℕ) (held block old new : List ℕ) → 1 ≤ round → round < n + 6 → left old ≡ rounds (take (16 * (n + 7)) (keys_left held)) (round - 1) block
    → left new ≡ add_round_key (keys_left held) round (mix_columns (shift_rows (sub_bytes (left old)))) → left new ≡ rounds (take (16 * (n + 7)) (keys_left held)) (round + 1 - 1) block
unfolding rounds
rounds_more n round held block old new l h i e =
    let keys = keys_left held in
    let w = take (16 * (n + 7)) keys in
    let a : suc (round - 1) ≡ round + 1 - 1 = omega arith in
    let f : round ≡ suc (round - 1) = omega arith in
    let t = mix_columns (shift_rows (sub_bytes (rounds w (round - 1) block))) in
    e ∙ ap (λ x. add_round_key keys round (mix_columns (shift_rows (sub_bytes x)))) i
    ∙ sym (add_round_key-take keys (16 * (n + 7)) round t (omega arith))
    ∙ ap (λ r. add_round_key w r t) f
    ∙ ap (λ k. rounds w k block) a

pub rounds_ended : (n round : ℕ) (held key block old new : List ℕ) → round - 1 ≡ n + 5 → IsExpanded n (keys_left held) → key_in n (keys_left held) ≡ key → length block ≡ 16 → AreOctets block
    → left old ≡ rounds (take (16 * (n + 7)) (keys_left held)) (round - 1) block → new ≡ add_round_key (keys_left held) (n + 6) (shift_rows (sub_bytes (left old))) → new ≡ aes key block
unfolding cipher
rounds_ended n round held key block old new e x v m b i r =
    let keys = keys_left held in
    let w = take (16 * (n + 7)) keys in
    let f : n + 6 ≡ n + 5 + 1 = omega arith in
    let s = shift_rows (sub_bytes (rounds w (n + 5) block)) in
    r ∙ ap (λ z. add_round_key keys (n + 6) (shift_rows (sub_bytes z))) (i ∙ ap (λ k. rounds w k block) e)
    ∙ sym (add_round_key-take keys (16 * (n + 7)) (n + 6) s (omega arith))
    ∙ ap (λ k. add_round_key w k s) f
    ∙ encrypted n keys key block x (length-keys_left held) v m b
