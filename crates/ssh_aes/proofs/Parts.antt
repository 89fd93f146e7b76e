-- A number in the low and the high halves of its bytes, and the product by three products of halves.
use Rattle.std.proofs.Common.{[], ◌∷◌, ◌≡◌, ℕ, zero, suc, ◌+◌, ◌*◌, ◌/◌, ◌%◌, ◌^◌, ◌<◌, List, length, map, slice_index, refl, sym, subst, ◌∙◌, ap, arith, lit<}
use Rattle.std.specs.Prelude.{bit_xor}
use Rattle.std.specs.Int.{w128, byte_at, to_le_bytes}
use Rattle.std.proofs.lemmas.Nat.{xor_block, xor_comm}
use Rattle.std.proofs.lemmas.List.{length-map}
use Rattle.ssh_aes.specs.Laws.{AreOctets}
use Rattle.ssh_aes.proofs.Numbers.{AreOctets-sixteen}
use Rattle.ssh_aes.proofs.Spelling.{number_spelled}
use Rattle.ssh_aes.proofs.Written.{sixteen-elements}
use Rattle.ssh_aes.specs.Halves.{AreHalves, number_of}
use Rattle.ssh_aes.proofs.Additive.{xor_parts}

abbrev pub low_of : List ℕ → List ℕ
low_of s = map (λ b. b % 16) s

abbrev pub high_of : List ℕ → List ℕ
high_of s = map (λ b. b / 16) s

low-small : (s : List ℕ) (i : ℕ) → slice_index (low_of s) i < 16
low-small [] i = lit< tt
low-small (x ∷ xs) zero = omega arith
low-small (x ∷ xs) (suc i) = low-small xs i

high-small : (s : List ℕ) → AreOctets s → (i : ℕ) → slice_index (high_of s) i < 16
high-small [] b i = lit< tt
high-small (x ∷ xs) b zero = let h : x < 256 = b 0 in omega (arith, h)
high-small (x ∷ xs) b (suc i) = high-small xs (λ j. b (suc j)) i

pub AreOctets-low : (e : ℕ) → AreOctets (to_le_bytes w128 e)
AreOctets-low e = AreOctets-sixteen (byte_at 0 e) (byte_at 1 e) (byte_at 2 e) (byte_at 3 e) (byte_at 4 e) (byte_at 5 e) (byte_at 6 e) (byte_at 7 e) (byte_at 8 e) (byte_at 9 e) (byte_at 10 e) (byte_at 11 e) (byte_at 12 e) (byte_at 13 e) (byte_at 14 e) (byte_at 15 e) (omega arith) (omega arith) (omega arith) (omega arith) (omega arith) (omega arith) (omega arith) (omega arith) (omega arith) (omega arith) (omega arith) (omega arith) (omega arith) (omega arith) (omega arith) (omega arith)

pub low-halves : (e : ℕ) → AreHalves (low_of (to_le_bytes w128 e))
low-halves e = record { sixteen = length-map (to_le_bytes w128 e) (λ b. b % 16); small = low-small (to_le_bytes w128 e) }

pub high-halves : (e : ℕ) → AreHalves (high_of (to_le_bytes w128 e))
high-halves e = record { sixteen = length-map (to_le_bytes w128 e) (λ b. b / 16); small = high-small (to_le_bytes w128 e) (AreOctets-low e) }

pub low_of-halves : (s : List ℕ) → length s ≡ 16 → AreHalves (low_of s)
low_of-halves s e = record { sixteen = length-map s (λ b. b % 16) ∙ e; small = low-small s }

pub high_of-halves : (s : List ℕ) → length s ≡ 16 → AreOctets s → AreHalves (high_of s)
high_of-halves s e b = record { sixteen = length-map s (λ b. b / 16) ∙ e; small = high-small s b }

halves-join : (s : List ℕ) → AreOctets s → bit_xor (number_of (low_of s)) (16 * number_of (high_of s)) ≡ number_of s
unfolding number_of
halves-join [] b = refl
halves-join (x ∷ xs) b =
    let a = number_of (low_of xs) in
    let c = number_of (high_of xs) in
    let l = x % 16 in
    let h = x / 16 in
    let o : x < 256 = b 0 in
    let e : 16 * (c * 256 + h) ≡ 16 * c * 256 + 16 * h = omega arith in
    let f : bit_xor l (16 * h) ≡ x = xor_comm l (16 * h) ∙ ap (λ u. bit_xor u l) (let g : 16 * h ≡ h * 16 = omega arith in g) ∙ xor_parts 4 h l (omega arith) ∙ omega arith in
    ap (bit_xor (a * 256 + l)) e
    ∙ xor_block 8 a (16 * c) l (16 * h) (omega arith) (omega (arith, o))
    ∙ ap (λ u. u * 256 + bit_xor l (16 * h)) (halves-join xs (λ i. b (suc i)))
    ∙ ap (λ u. number_of xs * 256 + u) f

spelled : (s0 s1 s2 s3 s4 s5 s6 s7 s8 s9 s10 s11 s12 s13 s14 s15 : ℕ) → s0 * 1329227995784915872903807060280344576 + s1 * 5192296858534827628530496329220096 + s2 * 20282409603651670423947251286016 + s3 * 79228162514264337593543950336 + s4 * 309485009821345068724781056 + s5 * 1208925819614629174706176 + s6 * 4722366482869645213696 + s7 * 18446744073709551616 + s8 * 72057594037927936 + s9 * 281474976710656 + s10 * 1099511627776 + s11 * 4294967296 + s12 * 16777216 + s13 * 65536 + s14 * 256 + s15 ≡ number_of (s15 ∷ s14 ∷ s13 ∷ s12 ∷ s11 ∷ s10 ∷ s9 ∷ s8 ∷ s7 ∷ s6 ∷ s5 ∷ s4 ∷ s3 ∷ s2 ∷ s1 ∷ s0 ∷ [])
unfolding number_of
spelled s0 s1 s2 s3 s4 s5 s6 s7 s8 s9 s10 s11 s12 s13 s14 s15 = omega arith

pub number_of-bytes : (e : ℕ) → e < 2 ^ 128 → number_of (to_le_bytes w128 e) ≡ e
number_of-bytes e h = sym (spelled (byte_at 15 e) (byte_at 14 e) (byte_at 13 e) (byte_at 12 e) (byte_at 11 e) (byte_at 10 e) (byte_at 9 e) (byte_at 8 e) (byte_at 7 e) (byte_at 6 e) (byte_at 5 e) (byte_at 4 e) (byte_at 3 e) (byte_at 2 e) (byte_at 1 e) (byte_at 0 e)) ∙ number_spelled e h

pub parts-join : (e : ℕ) → e < 2 ^ 128 → bit_xor (number_of (low_of (to_le_bytes w128 e))) (16 * number_of (high_of (to_le_bytes w128 e))) ≡ e
parts-join e h = halves-join (to_le_bytes w128 e) (AreOctets-low e) ∙ number_of-bytes e h

short_lanes : (s0 s1 s2 s3 s4 s5 s6 s7 s8 s9 s10 s11 s12 s13 s14 s15 : ℕ) → s0 < 16 → s1 < 16 → s2 < 16 → s3 < 16 → s4 < 16 → s5 < 16 → s6 < 16 → s7 < 16 → s8 < 16 → s9 < 16 → s10 < 16 → s11 < 16 → s12 < 16 → s13 < 16 → s14 < 16 → s15 < 16
    → number_of (s0 ∷ s1 ∷ s2 ∷ s3 ∷ s4 ∷ s5 ∷ s6 ∷ s7 ∷ s8 ∷ s9 ∷ s10 ∷ s11 ∷ s12 ∷ s13 ∷ s14 ∷ s15 ∷ []) < 2 ^ 124
unfolding number_of
short_lanes s0 s1 s2 s3 s4 s5 s6 s7 s8 s9 s10 s11 s12 s13 s14 s15 h0 h1 h2 h3 h4 h5 h6 h7 h8 h9 h10 h11 h12 h13 h14 h15 = omega arith

pub halves-short : (s : List ℕ) → AreHalves s → number_of s < 2 ^ 124
halves-short s b =
    let f = λ (i : ℕ). slice_index s i in
    let h = b.small in
    subst (λ l. number_of l < 2 ^ 124) (sixteen-elements s b.sixteen) (short_lanes (f 0) (f 1) (f 2) (f 3) (f 4) (f 5) (f 6) (f 7) (f 8) (f 9) (f 10) (f 11) (f 12) (f 13) (f 14) (f 15) (h 0) (h 1) (h 2) (h 3) (h 4) (h 5) (h 6) (h 7) (h 8) (h 9) (h 10) (h 11) (h 12) (h 13) (h 14) (h 15))

pub map-same : (f g : ℕ → ℕ) (s : List ℕ) → ((x : ℕ) → f x ≡ g x) → map f s ≡ map g s
map-same f g [] h = refl
map-same f g (x ∷ xs) h = ap (λ y. y ∷ map f xs) (h x) ∙ ap (λ ys. g x ∷ ys) (map-same f g xs h)
