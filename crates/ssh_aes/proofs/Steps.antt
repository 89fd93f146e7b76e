-- The product of halves with the halves of a key, from the highest of these down.
use Rattle.std.proofs.Common.{[], ◌∷◌, ◌++◌, ◌≡◌, ℕ, suc, ◌+◌, ◌-◌, ◌*◌, ◌^◌, ◌<◌, List, length, drop, slice_index, sym, subst, ◌∙◌, ap, arith, lit<}
use Rattle.std.specs.Prelude.{bit_xor}
use Rattle.std.specs.Int.{w8, w128, from_le_bytes}
use Rattle.std.specs.Int.Bits.{xor_zero_r}
use Rattle.std.proofs.lemmas.Nat.{xor_block}
use Rattle.std.proofs.lemmas.List.{length-drop, get_or-drop}
use Rattle.std.proofs.lemmas.Simd.{swz_l, length-swz_l}
use lib.Lanes.{zip2, pick_l}
use Rattle.ssh_aes.specs.Field.{polynomial_product}
use Rattle.ssh_aes.specs.Laws.{AreOctets}
use Rattle.ssh_aes.proofs.Written.{sixteen-elements}
use Rattle.ssh_aes.proofs.Numbers.{AreOctets-sixteen}
use Rattle.ssh_aes.proofs.Polynomials.{product_sum}
use Rattle.ssh_aes.specs.Halves.{AreHalves, number_of}
use Rattle.ssh_aes.proofs.Additive.{xor_parts}
use Rattle.ssh_aes.proofs.Products.{product-by_256, product-lt}
use Rattle.ssh_aes.proofs.Lanes.{number_of-sum}
use Rattle.ssh_aes.proofs.Shifted.{IsRow, number_of-drop, number_of-lt, shifted, shifted_low-bytes, row_at-product, row_at-bytes}

pub octets_from_halves : (hs : List ℕ) → AreHalves hs → AreOctets hs
octets_from_halves hs b i = let h = b.small i in omega (arith, h)

-- a sum within the lower half
pub add_low : (h l s : ℕ) → l < 2 ^ 128 → s < 2 ^ 128 → h * 2 ^ 128 + bit_xor l s ≡ bit_xor (h * 2 ^ 128 + l) s
add_low h l s a b =
    let z : 0 * 2 ^ 128 + s ≡ s = omega arith in
    ap (λ u. u * 2 ^ 128 + bit_xor l s) (sym (xor_zero_r h)) ∙ sym (xor_block 128 h 0 l s a b) ∙ ap (bit_xor (h * 2 ^ 128 + l)) z

abbrev pub shifted_high : List ℕ → List ℕ → List ℕ
shifted_high low high = pick_l 0 (low ++ high) (15 ∷ 16 ∷ 17 ∷ 18 ∷ 19 ∷ 20 ∷ 21 ∷ 22 ∷ 23 ∷ 24 ∷ 25 ∷ 26 ∷ 27 ∷ 28 ∷ 29 ∷ 30 ∷ [])

abbrev pub shifted_low : List ℕ → List ℕ
shifted_low low = pick_l 0 ((0 ∷ 0 ∷ 0 ∷ 0 ∷ 0 ∷ 0 ∷ 0 ∷ 0 ∷ 0 ∷ 0 ∷ 0 ∷ 0 ∷ 0 ∷ 0 ∷ 0 ∷ 0 ∷ []) ++ low) (0 ∷ 16 ∷ 17 ∷ 18 ∷ 19 ∷ 20 ∷ 21 ∷ 22 ∷ 23 ∷ 24 ∷ 25 ∷ 26 ∷ 27 ∷ 28 ∷ 29 ∷ 30 ∷ [])

abbrev pub row_for : List ℕ → List ℕ → List ℕ
row_for hs t = swz_l w8 16 t 0 hs

pub step-value : (low high hs ks t : List ℕ) (i : ℕ) → i < 16 → IsRow (slice_index ks (15 - i)) t → AreHalves hs → AreHalves ks → length low ≡ 16 → length high ≡ 16 → AreOctets low → AreOctets high
    → number_of high * 2 ^ 128 + number_of low ≡ polynomial_product 128 (number_of hs) (number_of (drop (16 - i) ks))
    → number_of (shifted_high low high) * 2 ^ 128 + number_of (zip2 bit_xor (shifted_low low) (row_for hs t))
    ≡ polynomial_product 128 (number_of hs) (number_of (drop (16 - (i + 1)) ks))
step-value low high hs ks t i h r bh bk el eh ol oh v =
    let x = number_of hs in
    let q = number_of (drop (16 - i) ks) in
    let a = slice_index ks (15 - i) in
    let s = row_for hs t in
    let hi = number_of (shifted_high low high) in
    let lo = number_of (shifted_low low) in
    let ha : a < 16 = bk.small (15 - i) in
    let rest : AreOctets (drop (16 - i) ks) = λ j. subst (λ n. n < 256) (sym (get_or-drop (16 - i) ks j 0)) (octets_from_halves ks bk (16 - i + j)) in
    let ql : q < 2 ^ 120 = number_of-lt 15 (drop (16 - i) ks) (omega (arith, length-drop (16 - i) ks, bk.sixteen)) rest in
    let w : polynomial_product 128 x q < 2 ^ 248 = product-lt 128 120 x q ql in
    let top : number_of high < 2 ^ 120 = omega (arith, v, w) in
    let os : AreOctets s = row_at-bytes a t hs ha r bh in
    let ls : length s ≡ 16 = length-swz_l w8 16 t 0 hs ∙ bh.sixteen in
    let os2 : number_of s < 2 ^ 128 = number_of-lt 16 s (omega (arith, ls)) os in
    let ol2 : lo < 2 ^ 128 = number_of-lt 16 (shifted_low low) (omega arith) (shifted_low-bytes low ol) in
    let e1 : 256 * q ≡ q * 256 = omega arith in
    let e2 : suc (15 - i) ≡ 16 - i = omega arith in
    let e3 : 15 - i ≡ 16 - (i + 1) = omega arith in
    ap (λ n. hi * 2 ^ 128 + n) (number_of-sum (shifted_low low) s (sym ls) (shifted_low-bytes low ol) os)
    ∙ add_low hi lo (number_of s) ol2 os2
    ∙ ap (λ n. bit_xor n (number_of s)) (shifted low high el eh top ∙ ap (λ n. 256 * n) v ∙ sym (product-by_256 128 x q))
    ∙ ap (bit_xor (polynomial_product 128 x (256 * q))) (row_at-product a t hs ha r bh)
    ∙ sym (product_sum 128 x (256 * q) a)
    ∙ ap (polynomial_product 128 x)
    (ap (λ n. bit_xor n a) e1 ∙ xor_parts 8 q a (omega (arith, ha))
    ∙ ap (λ (n : ℕ). number_of (drop n ks) * 256 + a) (sym e2)
    ∙ sym (number_of-drop ks (15 - i) (omega (arith, bk.sixteen)))
    ∙ ap (λ (n : ℕ). number_of (drop n ks)) e3)

pub zeros_are : AreOctets (0 ∷ 0 ∷ 0 ∷ 0 ∷ 0 ∷ 0 ∷ 0 ∷ 0 ∷ 0 ∷ 0 ∷ 0 ∷ 0 ∷ 0 ∷ 0 ∷ 0 ∷ 0 ∷ [])
zeros_are =
    AreOctets-sixteen _ _ _ _ _ _ _ _ _ _ _ _ _ _ _ _ (lit< tt) (lit< tt) (lit< tt) (lit< tt) (lit< tt) (lit< tt) (lit< tt) (lit< tt) (lit< tt) (lit< tt) (lit< tt) (lit< tt) (lit< tt) (lit< tt) (lit< tt) (lit< tt)

pub none_left : (ks : List ℕ) → AreHalves ks → number_of (drop 16 ks) ≡ 0
none_left ks bk =
    let rest : AreOctets (drop 16 ks) = λ j. subst (λ n. n < 256) (sym (get_or-drop 16 ks j 0)) (octets_from_halves ks bk (16 + j)) in
    let l : number_of (drop 16 ks) < 2 ^ (8 * 0) = number_of-lt 0 (drop 16 ks) (omega (arith, length-drop 16 ks, bk.sixteen)) rest in
    omega (arith, l)

read_lanes : (s0 s1 s2 s3 s4 s5 s6 s7 s8 s9 s10 s11 s12 s13 s14 s15 : ℕ) → s0 + s1 * 256 + s2 * 65536 + s3 * 16777216 + s4 * 4294967296 + s5 * 1099511627776 + s6 * 281474976710656 + s7 * 72057594037927936 + s8 * 18446744073709551616 + s9 * 4722366482869645213696 + s10 * 1208925819614629174706176 + s11 * 309485009821345068724781056 + s12 * 79228162514264337593543950336 + s13 * 20282409603651670423947251286016 + s14 * 5192296858534827628530496329220096 + s15 * 1329227995784915872903807060280344576 ≡ number_of (s0 ∷ s1 ∷ s2 ∷ s3 ∷ s4 ∷ s5 ∷ s6 ∷ s7 ∷ s8 ∷ s9 ∷ s10 ∷ s11 ∷ s12 ∷ s13 ∷ s14 ∷ s15 ∷ [])
unfolding number_of
read_lanes s0 s1 s2 s3 s4 s5 s6 s7 s8 s9 s10 s11 s12 s13 s14 s15 = omega arith

pub read : (s : List ℕ) → length s ≡ 16 → from_le_bytes w128 s ≡ number_of s
read s e =
    let f = λ (i : ℕ). slice_index s i in
    subst (λ l. from_le_bytes w128 l ≡ number_of l) (sixteen-elements s e) (read_lanes (f 0) (f 1) (f 2) (f 3) (f 4) (f 5) (f 6) (f 7) (f 8) (f 9) (f 10) (f 11) (f 12) (f 13) (f 14) (f 15))
