-- Two products added up before each shift.
use Rattle.std.proofs.Common.{◌≡◌, ℕ, suc, ◌+◌, ◌-◌, ◌*◌, ◌^◌, ◌<◌, List, length, drop, slice_index, refl, sym, subst, ◌∙◌, ap, arith}
use Rattle.std.specs.Prelude.{bit_xor}
use Rattle.std.specs.Int.{w8}
use Rattle.std.specs.Int.Bits.{xor_assoc}
use Rattle.std.proofs.lemmas.Nat.{xor_lt}
use Rattle.std.proofs.lemmas.List.{length-drop, get_or-drop}
use Rattle.std.proofs.lemmas.Simd.{length-swz_l, length-zip2, get_or-chunk}
use lib.Lanes.{zip2, chunk}
use Rattle.ssh_aes.specs.Field.{polynomial_product}
use Rattle.ssh_aes.specs.Laws.{AreOctets}
use Rattle.ssh_aes.proofs.Polynomials.{product_sum, xor_across}
use Rattle.ssh_aes.specs.Halves.{AreHalves, AreRows, number_of}
use Rattle.ssh_aes.proofs.Additive.{xor_parts, xor_shl}
use Rattle.ssh_aes.proofs.Products.{product-by_256, product-lt}
use Rattle.ssh_aes.proofs.Lanes.{number_of-sum, octets-sum}
use Rattle.ssh_aes.proofs.Shifted.{IsRow, number_of-drop, number_of-lt, shifted, shifted_low-bytes, row_at-product, row_at-bytes}
use Rattle.ssh_aes.proofs.Steps.{octets_from_halves, add_low, shifted_high, shifted_low, row_for}

pub sum-same : (a b c d : ℕ) → a ≡ c → b ≡ d → bit_xor a b ≡ bit_xor c d
sum-same a b c d p q = ap (λ n. bit_xor n b) p ∙ ap (bit_xor c) q

by_256 : (a b : ℕ) → 256 * bit_xor a b ≡ bit_xor (256 * a) (256 * b)
by_256 a b =
    let e : 256 * bit_xor a b ≡ bit_xor a b * 2 ^ 8 = omega arith in
    let x : a * 2 ^ 8 ≡ 256 * a = omega arith in
    let y : b * 2 ^ 8 ≡ 256 * b = omega arith in
    e ∙ xor_shl 8 a b ∙ ap (λ u. bit_xor u (b * 2 ^ 8)) x ∙ ap (bit_xor (256 * a)) y

-- ---- one row added

-- sixteen bytes
pub record AreLanes (s : List ℕ) : Type 0 where
  pub sixteen : length s ≡ 16
  pub octets : AreOctets s

pub lanes-sum : (s t : List ℕ) → AreLanes s → AreLanes t → AreLanes (zip2 bit_xor s t)
lanes-sum s t p q = record { sixteen = length-zip2 bit_xor s t (p.sixteen ∙ sym q.sixteen) ∙ p.sixteen; octets = octets-sum s t p.octets q.octets }

pub lanes-lt : (s : List ℕ) → AreLanes s → number_of s < 2 ^ 128
lanes-lt s p = number_of-lt 16 s (omega (arith, p.sixteen)) p.octets

pub row-lanes : (a : ℕ) (t hs : List ℕ) → a < 16 → IsRow a t → AreHalves hs → AreLanes (row_for hs t)
row-lanes a t hs h r b = record { sixteen = length-swz_l w8 16 t 0 hs ∙ b.sixteen; octets = row_at-bytes a t hs h r b }

row-added : (h : ℕ) (s t : List ℕ) → AreLanes s → AreLanes t → h * 2 ^ 128 + number_of (zip2 bit_xor s t) ≡ bit_xor (h * 2 ^ 128 + number_of s) (number_of t)
row-added h s t p q =
    ap (λ n. h * 2 ^ 128 + n) (number_of-sum s t (p.sixteen ∙ sym q.sixteen) p.octets q.octets) ∙ add_low h (number_of s) (number_of t) (lanes-lt s p) (lanes-lt t q)

rows-added : (h : ℕ) (s a b : List ℕ) → AreLanes s → AreLanes a → AreLanes b
    → h * 2 ^ 128 + number_of (zip2 bit_xor (zip2 bit_xor s a) b) ≡ bit_xor (h * 2 ^ 128 + number_of s) (bit_xor (number_of a) (number_of b))
rows-added h s a b ps pa pb =
    row-added h (zip2 bit_xor s a) b (lanes-sum s a ps pa) pb
    ∙ ap (λ n. bit_xor n (number_of b)) (row-added h s a ps pa)
    ∙ xor_assoc (h * 2 ^ 128 + number_of s) (number_of a) (number_of b)

-- one product with one half more
grown : (hs ks t : List ℕ) (i : ℕ) → i < 16 → IsRow (slice_index ks (15 - i)) t → AreHalves hs → AreHalves ks
    → bit_xor (256 * polynomial_product 128 (number_of hs) (number_of (drop (16 - i) ks))) (number_of (row_for hs t)) ≡ polynomial_product 128 (number_of hs) (number_of (drop (16 - (i + 1)) ks))
grown hs ks t i h r bh bk =
    let x = number_of hs in
    let q = number_of (drop (16 - i) ks) in
    let a = slice_index ks (15 - i) in
    let ha : a < 16 = bk.small (15 - i) in
    let e1 : 256 * q ≡ q * 256 = omega arith in
    let e2 : suc (15 - i) ≡ 16 - i = omega arith in
    let e3 : 15 - i ≡ 16 - (i + 1) = omega arith in
    ap (λ n. bit_xor n (number_of (row_for hs t))) (sym (product-by_256 128 x q))
    ∙ ap (bit_xor (polynomial_product 128 x (256 * q))) (row_at-product a t hs ha r bh)
    ∙ sym (product_sum 128 x (256 * q) a)
    ∙ ap (polynomial_product 128 x)
    (ap (λ n. bit_xor n a) e1 ∙ xor_parts 8 q a (omega (arith, ha))
    ∙ ap (λ (n : ℕ). number_of (drop n ks) * 256 + a) (sym e2)
    ∙ sym (number_of-drop ks (15 - i) (omega (arith, bk.sixteen)))
    ∙ ap (λ (n : ℕ). number_of (drop n ks)) e3)

-- so far, a product has no more than 248 coefficients
so_far-lt : (hs ks : List ℕ) (i : ℕ) → i < 16 → AreHalves ks → polynomial_product 128 (number_of hs) (number_of (drop (16 - i) ks)) < 2 ^ 248
so_far-lt hs ks i h bk =
    let rest : AreOctets (drop (16 - i) ks) = λ j. subst (λ n. n < 256) (sym (get_or-drop (16 - i) ks j 0)) (octets_from_halves ks bk (16 - i + j)) in
    product-lt 128 120 (number_of hs) (number_of (drop (16 - i) ks)) (number_of-lt 15 (drop (16 - i) ks) (omega (arith, length-drop (16 - i) ks, bk.sixteen)) rest)

pub two-value : (low high w x ka kb ta tb : List ℕ) (i : ℕ) → i < 16
    → IsRow (slice_index ka (15 - i)) ta → IsRow (slice_index kb (15 - i)) tb
    → AreHalves w → AreHalves x → AreHalves ka → AreHalves kb
    → AreLanes low → AreLanes high
    → number_of high * 2 ^ 128 + number_of low ≡ bit_xor
    (polynomial_product 128 (number_of w) (number_of (drop (16 - i) ka))) (polynomial_product 128 (number_of x) (number_of (drop (16 - i) kb)))
    → number_of (shifted_high low high) * 2 ^ 128 + number_of (zip2 bit_xor (zip2 bit_xor (shifted_low low) (row_for w ta)) (row_for x tb)) ≡ bit_xor
    (polynomial_product 128 (number_of w) (number_of (drop (16 - (i + 1)) ka))) (polynomial_product 128 (number_of x) (number_of (drop (16 - (i + 1)) kb)))
two-value low high w x ka kb ta tb i h ra rb bw bx fa fb pl ph v =
    let a = polynomial_product 128 (number_of w) (number_of (drop (16 - i) ka)) in
    let b = polynomial_product 128 (number_of x) (number_of (drop (16 - i) kb)) in
    let sa = row_for w ta in
    let sb = row_for x tb in
    let s : bit_xor a b < 2 ^ 248 = xor_lt 248 a b (so_far-lt w ka i h fa) (so_far-lt x kb i h fb) in
    let top : number_of high < 2 ^ 120 = omega (arith, v, s) in
    let ps : AreLanes (shifted_low low) = record { sixteen = refl; octets = shifted_low-bytes low pl.octets } in
    rows-added (number_of (shifted_high low high)) (shifted_low low) sa sb ps
    (row-lanes (slice_index ka (15 - i)) ta w (fa.small (15 - i)) ra bw) (row-lanes (slice_index kb (15 - i)) tb x (fb.small (15 - i)) rb bx)
    ∙ ap (λ n. bit_xor n (bit_xor (number_of sa) (number_of sb))) (shifted low high pl.sixteen ph.sixteen top ∙ ap (λ n. 256 * n) v ∙ by_256 a b)
    ∙ xor_across (256 * a) (256 * b) (number_of sa) (number_of sb)
    ∙ sum-same _ _ _ _ (grown w ka ta i h ra bw fa) (grown x kb tb i h rb bx fb)

-- a row that was loaded
pub loaded_row : (halves rows t : List ℕ) (i : ℕ) → i < 16 → AreRows halves rows → t ≡ chunk (240 - 16 * i) 16 rows → IsRow (slice_index halves (15 - i)) t
loaded_row halves rows t i h r e = record {
  entry = λ x l.
      let f : 240 - 16 * i + x ≡ 16 * (15 - i) + x = omega arith in
      ap (λ s. slice_index s x) e ∙ get_or-chunk (240 - 16 * i) 16 rows x 0 l ∙ ap (λ (n : ℕ). slice_index rows n) f ∙ r.entries (15 - i) x (omega arith) l;
}
