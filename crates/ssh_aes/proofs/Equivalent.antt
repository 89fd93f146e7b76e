-- The equivalent inverse cipher: a round's key may come after InvMixColumns, once it is unmixed too.
use Rattle.std.proofs.Common.{◌≡◌, ℕ, ◌<◌, ◌≤◌, ◌+◌, ◌*◌, ◌/◌, ◌%◌, List, length, take, drop, slice_index, arith, refl, sym, ap, ◌∙◌}
use Rattle.std.proofs.lemmas.List.{get_or-take, get_or-drop, length-drop, length-take-le}
use Rattle.std.proofs.lemmas.List.FromFn.{fill_by_all}
use Rattle.std.specs.Prelude.{bit_xor}
use Rattle.ssh_aes.specs.Field.{byte_product}
use Rattle.ssh_aes.specs.Aes.{mixed_byte, unmixed_column, inverse_mix_columns, add_round_key}
use Rattle.ssh_aes.specs.Columns.{round_key, AreUnmixed}
use Rattle.ssh_aes.specs.Modes.{block_sum}
use Rattle.ssh_aes.proofs.Polynomials.{product_modulo-sum}
use Rattle.ssh_aes.proofs.Inverses.{four_across}
use Rattle.ssh_aes.proofs.Schedules.{bytes_by-same}
use Rattle.ssh_aes.proofs.Words.{sum_of_four, four-same}
use Rattle.ssh_aes.proofs.Written.{sixteen-elements}

row-sum : (j k l m a b c d e f g h : ℕ) → mixed_byte j k l m (bit_xor a e) (bit_xor b f) (bit_xor c g) (bit_xor d h) ≡ bit_xor (mixed_byte j k l m a b c d) (mixed_byte j k l m e f g h)
row-sum j k l m a b c d e f g h =
    let P : ℕ → ℕ → ℕ = byte_product in
    rw (product_modulo-sum 8 0x11b j a e, product_modulo-sum 8 0x11b k b f, product_modulo-sum 8 0x11b l c g, product_modulo-sum 8 0x11b m d h)
    (sym (four_across (P j a) (P k b) (P l c) (P m d) (P j e) (P k f) (P l g) (P m h)))

column-sum : (a b c d e f g h : ℕ) → unmixed_column (bit_xor a e) (bit_xor b f) (bit_xor c g) (bit_xor d h) ≡ sum_of_four (unmixed_column a b c d) (unmixed_column e f g h)
unfolding unmixed_column
column-sum a b c d e f g h = rw (row-sum 14 11 13 9 a b c d e f g h, row-sum 9 14 11 13 a b c d e f g h, row-sum 13 9 14 11 a b c d e f g h, row-sum 11 13 9 14 a b c d e f g h) refl

-- InvMixColumns of a sum
unmixed-sum : (s t : List ℕ) → inverse_mix_columns (block_sum s t) ≡ block_sum (inverse_mix_columns s) (inverse_mix_columns t)
unfolding inverse_mix_columns unmixed_column
unmixed-sum s t =
    let a = λ (i : ℕ). slice_index s i in
    let b = λ (i : ℕ). slice_index t i in
    four-same _ _ _ _ _ _ _ _
    (column-sum (a 0) (a 1) (a 2) (a 3) (b 0) (b 1) (b 2) (b 3))
    (column-sum (a 4) (a 5) (a 6) (a 7) (b 4) (b 5) (b 6) (b 7))
    (column-sum (a 8) (a 9) (a 10) (a 11) (b 8) (b 9) (b 10) (b 11))
    (column-sum (a 12) (a 13) (a 14) (a 15) (b 12) (b 13) (b 14) (b 15))

key-sum : (w : List ℕ) (round : ℕ) (s : List ℕ) → add_round_key w round s ≡ block_sum s (round_key w round)
unfolding add_round_key
key-sum w round s = refl

pub key_unmixed : (n : ℕ) (w u : List ℕ) (round : ℕ) (s : List ℕ) → AreUnmixed n w u → round < n → inverse_mix_columns (add_round_key w round s) ≡ add_round_key u round (inverse_mix_columns s)
key_unmixed n w u round s h l =
    ap inverse_mix_columns (key-sum w round s)
    ∙ unmixed-sum s (round_key w round)
    ∙ ap (block_sum (inverse_mix_columns s)) (sym (h round l))
    ∙ sym (key-sum u round (inverse_mix_columns s))

-- ---- the keys of decryption, made

-- the key of a round, cut out of a schedule
pub round_key-cut : (w : List ℕ) (round : ℕ) → 16 * round + 16 ≤ length w → take 16 (drop (16 * round) w) ≡ round_key w round
round_key-cut w round h =
    fill_by_all (λ i. slice_index w (16 * round + i)) (take 16 (drop (16 * round) w)) 16 0 (length-take-le 16 (drop (16 * round) w) (omega (arith, length-drop (16 * round) w)))
    (λ i l. get_or-take 16 (drop (16 * round) w) i 0 l ∙ get_or-drop (16 * round) w i 0)

-- byte k of the keys of decryption for the schedule w
abbrev pub unmixed_byte : List ℕ → ℕ → ℕ
unmixed_byte w k = slice_index (inverse_mix_columns (round_key w (k / 16))) (k % 16)

pub unmixed_byte-in : (w : List ℕ) (round j : ℕ) → j < 16 → slice_index (inverse_mix_columns (round_key w round)) j ≡ unmixed_byte w (16 * round + j)
unmixed_byte-in w round j h =
    let e : round ≡ (16 * round + j) / 16 = omega arith in
    let f : j ≡ (16 * round + j) % 16 = omega arith in
    ap (λ r. slice_index (inverse_mix_columns (round_key w r)) j) e ∙ ap (slice_index (inverse_mix_columns (round_key w ((16 * round + j) / 16)))) f

length-unmixed : (s : List ℕ) → length (inverse_mix_columns s) ≡ 16
unfolding inverse_mix_columns unmixed_column
length-unmixed s = refl

pub unmixed_all : (n : ℕ) (w u : List ℕ) → ((k : ℕ) → k < 16 * n → slice_index u k ≡ unmixed_byte w k) → AreUnmixed n w u
unmixed_all n w u h round l =
    bytes_by-same 16 _ (slice_index (inverse_mix_columns (round_key w round))) (λ i g. h (16 * round + i) (omega arith) ∙ sym (unmixed_byte-in w round i g))
    ∙ sixteen-elements _ (length-unmixed (round_key w round))
