-- The bits of bytes in the other order, by the halves of each byte.
use Rattle.std.proofs.Common.{[], ◌∷◌, ◌≡◌, ℕ, ◌+◌, ◌*◌, ◌/◌, ◌%◌, ◌<◌, List, length, map, slice_index, true, eqb, refl, sym, ◌∙◌, ap, arith}
use Rattle.std.specs.Prelude.{bit_xor}
use Rattle.std.specs.Int.{w8, reverse_bits, reverse_bits_onto}
use Rattle.std.proofs.lemmas.Bool.{eqb-true}
use Rattle.std.proofs.lemmas.List.{length-map, get_or-map}
use Rattle.std.proofs.lemmas.List.FromFn.{fill_by_all}
use Rattle.std.proofs.lemmas.Simd.{swz_l, get_or-swz_l_below, length-swz_l, length-zip2, get_or-zip2}
use lib.Lanes.{zip2}
use Rattle.ssh_aes.specs.Aes.{bytes_by}
use Rattle.ssh_aes.specs.Laws.{AreOctets}
use Rattle.ssh_aes.proofs.Below.{all_below, all_below-at}
use Rattle.ssh_aes.proofs.Parts.{low_of, high_of}

abbrev to_high : List ℕ
to_high = 0x00 ∷ 0x80 ∷ 0x40 ∷ 0xc0 ∷ 0x20 ∷ 0xa0 ∷ 0x60 ∷ 0xe0 ∷ 0x10 ∷ 0x90 ∷ 0x50 ∷ 0xd0 ∷ 0x30 ∷ 0xb0 ∷ 0x70 ∷ 0xf0 ∷ []

abbrev to_low : List ℕ
to_low = 0x00 ∷ 0x08 ∷ 0x04 ∷ 0x0c ∷ 0x02 ∷ 0x0a ∷ 0x06 ∷ 0x0e ∷ 0x01 ∷ 0x09 ∷ 0x05 ∷ 0x0d ∷ 0x03 ∷ 0x0b ∷ 0x07 ∷ 0x0f ∷ []

reversed_test : all_below 256 (λ b. eqb (bit_xor (slice_index to_high (b % 16)) (slice_index to_low (b / 16))) (reverse_bits w8 b)) ≡ true
unfolding reverse_bits_onto
reversed_test = refl

reversed_is : (b : ℕ) → b < 256 → bit_xor (slice_index to_high (b % 16)) (slice_index to_low (b / 16)) ≡ reverse_bits w8 b
reversed_is b h = eqb-true _ _ (all_below-at 256 (λ b. eqb (bit_xor (slice_index to_high (b % 16)) (slice_index to_low (b / 16))) (reverse_bits w8 b)) reversed_test b h)

-- a table of sixteen at halves
looked_up : (t : List ℕ) (g : ℕ → ℕ) (s : List ℕ) (m : ℕ) → length s ≡ 16 → m < 16 → g (slice_index s m) < 16 → slice_index (swz_l w8 16 t 0 (map g s)) m ≡ slice_index t (g (slice_index s m))
looked_up t g s m e h l =
    let v : slice_index (map g s) m ≡ g (slice_index s m) = get_or-map g s m 0 0 (rw e h) in
    let k : m < length (map g s) = rw (length-map s g, e) h in
    let n : 16 * ((0 + m) / 16) + slice_index (map g s) m ≡ slice_index (map g s) m = omega arith in
    get_or-swz_l_below w8 16 t 0 (map g s) m k (rw v l) ∙ ap (λ (j : ℕ). slice_index t j) (n ∙ v)

pub reversed-lanes : (s : List ℕ) → length s ≡ 16 → AreOctets s → zip2 bit_xor (swz_l w8 16 to_high 0 (low_of s)) (swz_l w8 16 to_low 0 (high_of s)) ≡ bytes_by 16 (λ i. reverse_bits w8 (slice_index s i))
reversed-lanes s e b =
    let x = swz_l w8 16 to_high 0 (low_of s) in
    let y = swz_l w8 16 to_low 0 (high_of s) in
    let lx : length x ≡ 16 = length-swz_l w8 16 to_high 0 (low_of s) ∙ length-map s (λ b. b % 16) ∙ e in
    let ly : length y ≡ 16 = length-swz_l w8 16 to_low 0 (high_of s) ∙ length-map s (λ b. b / 16) ∙ e in
    fill_by_all (λ i. reverse_bits w8 (slice_index s i)) (zip2 bit_xor x y) 16 0 (length-zip2 bit_xor x y (lx ∙ sym ly) ∙ lx)
    (λ m h.
    let o : slice_index s m < 256 = b m in
    let p : m < length x = rw lx h in
    let q : m < length y = rw ly h in
    get_or-zip2 bit_xor x y m 0 0 0 p q
    ∙ ap (λ u. bit_xor u (slice_index y m)) (looked_up to_high (λ b. b % 16) s m e h (omega arith))
    ∙ ap (bit_xor (slice_index to_high (slice_index s m % 16))) (looked_up to_low (λ b. b / 16) s m e h (omega (arith, o)))
    ∙ reversed_is (slice_index s m) o)
