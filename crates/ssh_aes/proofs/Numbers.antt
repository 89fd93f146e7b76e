-- Numbers put together of bytes from either end, and their bits in the other order.
use Rattle.std.proofs.Common.{[], ◌∷◌, ◌≡◌, ℕ, suc, ◌+◌, ◌*◌, ◌/◌, ◌%◌, ◌^◌, ◌<◌, List, length, map, arith, true, ltb, refl, sym, ap, ◌∙◌}
use Rattle.std.proofs.Math.Nat.{div-div-eq-div-mul, pow-suc}
use Rattle.std.specs.Int.{w128, byte_at, bytes_high_first, from_le_bytes, to_le_bytes, reverse_bits_onto}
use Rattle.std.specs.Prelude.{slice_index}
use Rattle.std.proofs.lemmas.Bool.{ltb-true}
use Rattle.ssh_aes.specs.Aes.{bytes_by}
use Rattle.ssh_aes.specs.Gcm.{element, element_block}
use Rattle.ssh_aes.proofs.Below.{all_below, all_below-at}
use Rattle.ssh_aes.proofs.Inverses.{AreOctets-append, AreOctets-cons, AreOctets-four}
use Rattle.ssh_aes.proofs.Spelling.{number_spelled}
use Rattle.ssh_aes.specs.Laws.{AreOctets}

-- the number of bytes after a, the highest first
abbrev pub from_high : ℕ → List ℕ → ℕ
from_high a [] = a
from_high a (x ∷ xs) = from_high (a * 256 + x) xs

-- the number of bytes, the lowest first
abbrev pub from_low : List ℕ → ℕ
from_low [] = 0
from_low (x ∷ xs) = from_low xs * 256 + x

-- ---- bytes of a number

high_part : (a : ℕ) (ys : List ℕ) → AreOctets ys → from_high a ys / 256 ^ length ys ≡ a
high_part a [] b = omega arith
high_part a (y ∷ ys) b =
    let h : y < 256 = b 0 in
    let e : (a * 256 + y) / 256 ≡ a = omega arith in
    ap (λ (p : ℕ). from_high (a * 256 + y) ys / p) (pow-suc 256 (length ys))
    ∙ sym (div-div-eq-div-mul (from_high (a * 256 + y) ys) (256 ^ length ys) 256)
    ∙ ap (λ (q : ℕ). q / 256) (high_part (a * 256 + y) ys (λ i. b (suc i)))
    ∙ e

byte-first : (a y : ℕ) (ys : List ℕ) → y < 256 → AreOctets ys → byte_at (length ys) (from_high (a * 256 + y) ys) ≡ y
byte-first a y [] h b = omega arith
byte-first a y (z ∷ zs) h b = ap (λ (q : ℕ). q % 256) (high_part (a * 256 + y) (z ∷ zs) b) ∙ omega arith

pub high_bytes : (a : ℕ) (ys : List ℕ) → AreOctets ys → bytes_high_first (length ys) (from_high a ys) ≡ ys
high_bytes a [] b = refl
high_bytes a (y ∷ ys) b =
    ap (λ x. x ∷ bytes_high_first (length ys) (from_high (a * 256 + y) ys)) (byte-first a y ys (b 0) (λ i. b (suc i)))
    ∙ ap (λ xs. y ∷ xs) (high_bytes (a * 256 + y) ys (λ i. b (suc i)))

-- ---- bits in the other order

abbrev pub reversed_byte : ℕ → ℕ
reversed_byte b = reverse_bits_onto 8 b 0

eight_bits : (a x0 x1 x2 x3 x4 x5 x6 x7 y0 y1 y2 y3 y4 y5 y6 y7 : ℕ) → x0 ≡ y0 → x1 ≡ y1 → x2 ≡ y2 → x3 ≡ y3 → x4 ≡ y4 → x5 ≡ y5 → x6 ≡ y6 → x7 ≡ y7 → (((((((a * 2 + x0) * 2 + x1) * 2 + x2) * 2 + x3) * 2 + x4) * 2 + x5) * 2 + x6) * 2 + x7 ≡ a * 256 + ((((((((0 * 2 + y0) * 2 + y1) * 2 + y2) * 2 + y3) * 2 + y4) * 2 + y5) * 2 + y6) * 2 + y7)
eight_bits a x0 x1 x2 x3 x4 x5 x6 x7 y0 y1 y2 y3 y4 y5 y6 y7 e0 e1 e2 e3 e4 e5 e6 e7 = omega arith

byte-reversed : (k r b a : ℕ) → b < 256 → reverse_bits_onto (suc (suc (suc (suc (suc (suc (suc (suc k)))))))) (r * 256 + b) a ≡ reverse_bits_onto k r (a * 256 + reversed_byte b)
unfolding reverse_bits_onto
byte-reversed k r b a h =
    let n = r * 256 + b in
    let e : n / 2 / 2 / 2 / 2 / 2 / 2 / 2 / 2 ≡ r = omega arith in
    let b0 : n % 2 ≡ b % 2 = omega arith in
    let b1 : n / 2 % 2 ≡ b / 2 % 2 = omega arith in
    let b2 : n / 2 / 2 % 2 ≡ b / 2 / 2 % 2 = omega arith in
    let b3 : n / 2 / 2 / 2 % 2 ≡ b / 2 / 2 / 2 % 2 = omega arith in
    let b4 : n / 2 / 2 / 2 / 2 % 2 ≡ b / 2 / 2 / 2 / 2 % 2 = omega arith in
    let b5 : n / 2 / 2 / 2 / 2 / 2 % 2 ≡ b / 2 / 2 / 2 / 2 / 2 % 2 = omega arith in
    let b6 : n / 2 / 2 / 2 / 2 / 2 / 2 % 2 ≡ b / 2 / 2 / 2 / 2 / 2 / 2 % 2 = omega arith in
    let b7 : n / 2 / 2 / 2 / 2 / 2 / 2 / 2 % 2 ≡ b / 2 / 2 / 2 / 2 / 2 / 2 / 2 % 2 = omega arith in
    ap (λ (q : ℕ). reverse_bits_onto k q (((((((((a * 2 + n % 2) * 2 + n / 2 % 2) * 2 + n / 2 / 2 % 2) * 2 + n / 2 / 2 / 2 % 2) * 2 + n / 2 / 2 / 2 / 2 % 2) * 2 + n / 2 / 2 / 2 / 2 / 2 % 2) * 2 + n / 2 / 2 / 2 / 2 / 2 / 2 % 2) * 2 + n / 2 / 2 / 2 / 2 / 2 / 2 / 2 % 2))) e
    ∙ ap (reverse_bits_onto k r) (eight_bits a _ _ _ _ _ _ _ _ _ _ _ _ _ _ _ _ b0 b1 b2 b3 b4 b5 b6 b7)

-- a number's bits in the other order: its bytes in the other order, each with its bits in the other order
pub bytes-reversed : (a : ℕ) (xs : List ℕ) → AreOctets xs → reverse_bits_onto (8 * length xs) (from_low xs) a ≡ from_high a (map reversed_byte xs)
unfolding reverse_bits_onto
bytes-reversed a [] b = refl
bytes-reversed a (x ∷ xs) b =
    let e : 8 * suc (length xs) ≡ suc (suc (suc (suc (suc (suc (suc (suc (8 * length xs)))))))) = omega arith in
    ap (λ (k : ℕ). reverse_bits_onto k (from_low xs * 256 + x) a) e
    ∙ byte-reversed (8 * length xs) (from_low xs) x a (b 0)
    ∙ bytes-reversed (a * 256 + reversed_byte x) xs (λ i. b (suc i))

-- ---- sixteen bytes

pub AreOctets-sixteen : (s0 s1 s2 s3 s4 s5 s6 s7 s8 s9 s10 s11 s12 s13 s14 s15 : ℕ) → s0 < 256 → s1 < 256 → s2 < 256 → s3 < 256 → s4 < 256 → s5 < 256 → s6 < 256 → s7 < 256 → s8 < 256 → s9 < 256 → s10 < 256 → s11 < 256 → s12 < 256 → s13 < 256 → s14 < 256 → s15 < 256 → AreOctets (s0 ∷ s1 ∷ s2 ∷ s3 ∷ s4 ∷ s5 ∷ s6 ∷ s7 ∷ s8 ∷ s9 ∷ s10 ∷ s11 ∷ s12 ∷ s13 ∷ s14 ∷ s15 ∷ [])
AreOctets-sixteen s0 s1 s2 s3 s4 s5 s6 s7 s8 s9 s10 s11 s12 s13 s14 s15 h0 h1 h2 h3 h4 h5 h6 h7 h8 h9 h10 h11 h12 h13 h14 h15 =
    AreOctets-append (s0 ∷ s1 ∷ s2 ∷ s3 ∷ s4 ∷ s5 ∷ s6 ∷ s7 ∷ s8 ∷ s9 ∷ s10 ∷ s11 ∷ []) (s12 ∷ s13 ∷ s14 ∷ s15 ∷ []) (AreOctets-append (s0 ∷ s1 ∷ s2 ∷ s3 ∷ s4 ∷ s5 ∷ s6 ∷ s7 ∷ []) (s8 ∷ s9 ∷ s10 ∷ s11 ∷ []) (AreOctets-append (s0 ∷ s1 ∷ s2 ∷ s3 ∷ []) (s4 ∷ s5 ∷ s6 ∷ s7 ∷ []) (AreOctets-four s0 s1 s2 s3 h0 h1 h2 h3) (AreOctets-four s4 s5 s6 s7 h4 h5 h6 h7)) (AreOctets-four s8 s9 s10 s11 h8 h9 h10 h11)) (AreOctets-four s12 s13 s14 s15 h12 h13 h14 h15)

-- the sum of bytes by their worth
from_high-sum : (s0 s1 s2 s3 s4 s5 s6 s7 s8 s9 s10 s11 s12 s13 s14 s15 : ℕ) → s0 * 1329227995784915872903807060280344576 + s1 * 5192296858534827628530496329220096 + s2 * 20282409603651670423947251286016 + s3 * 79228162514264337593543950336 + s4 * 309485009821345068724781056 + s5 * 1208925819614629174706176 + s6 * 4722366482869645213696 + s7 * 18446744073709551616 + s8 * 72057594037927936 + s9 * 281474976710656 + s10 * 1099511627776 + s11 * 4294967296 + s12 * 16777216 + s13 * 65536 + s14 * 256 + s15 ≡ from_low (s15 ∷ s14 ∷ s13 ∷ s12 ∷ s11 ∷ s10 ∷ s9 ∷ s8 ∷ s7 ∷ s6 ∷ s5 ∷ s4 ∷ s3 ∷ s2 ∷ s1 ∷ s0 ∷ [])
from_high-sum s0 s1 s2 s3 s4 s5 s6 s7 s8 s9 s10 s11 s12 s13 s14 s15 = omega arith

from_low-sum : (s0 s1 s2 s3 s4 s5 s6 s7 s8 s9 s10 s11 s12 s13 s14 s15 : ℕ) → s0 + s1 * 256 + s2 * 65536 + s3 * 16777216 + s4 * 4294967296 + s5 * 1099511627776 + s6 * 281474976710656 + s7 * 72057594037927936 + s8 * 18446744073709551616 + s9 * 4722366482869645213696 + s10 * 1208925819614629174706176 + s11 * 309485009821345068724781056 + s12 * 79228162514264337593543950336 + s13 * 20282409603651670423947251286016 + s14 * 5192296858534827628530496329220096 + s15 * 1329227995784915872903807060280344576 ≡ from_high 0 (s15 ∷ s14 ∷ s13 ∷ s12 ∷ s11 ∷ s10 ∷ s9 ∷ s8 ∷ s7 ∷ s6 ∷ s5 ∷ s4 ∷ s3 ∷ s2 ∷ s1 ∷ s0 ∷ [])
from_low-sum s0 s1 s2 s3 s4 s5 s6 s7 s8 s9 s10 s11 s12 s13 s14 s15 = omega arith

-- the bytes of a list from the last to the first
abbrev last_first : List ℕ → List ℕ
last_first s = slice_index s 15 ∷ slice_index s 14 ∷ slice_index s 13 ∷ slice_index s 12 ∷ slice_index s 11 ∷ slice_index s 10 ∷ slice_index s 9 ∷ slice_index s 8 ∷ slice_index s 7 ∷ slice_index s 6 ∷ slice_index s 5 ∷ slice_index s 4 ∷ slice_index s 3 ∷ slice_index s 2 ∷ slice_index s 1 ∷ slice_index s 0 ∷ []

pub element-is : (s : List ℕ) → AreOctets s → element s ≡ from_high 0 (map reversed_byte (last_first s))
unfolding element
element-is s b =
    ap (λ (n : ℕ). reverse_bits_onto 128 n 0) (from_high-sum (slice_index s 0) (slice_index s 1) (slice_index s 2) (slice_index s 3) (slice_index s 4) (slice_index s 5) (slice_index s 6) (slice_index s 7) (slice_index s 8) (slice_index s 9) (slice_index s 10) (slice_index s 11) (slice_index s 12) (slice_index s 13) (slice_index s 14) (slice_index s 15))
    ∙ bytes-reversed 0 (last_first s) (AreOctets-sixteen (slice_index s 15) (slice_index s 14) (slice_index s 13) (slice_index s 12) (slice_index s 11) (slice_index s 10) (slice_index s 9) (slice_index s 8) (slice_index s 7) (slice_index s 6) (slice_index s 5) (slice_index s 4) (slice_index s 3) (slice_index s 2) (slice_index s 1) (slice_index s 0) (b 15) (b 14) (b 13) (b 12) (b 11) (b 10) (b 9) (b 8) (b 7) (b 6) (b 5) (b 4) (b 3) (b 2) (b 1) (b 0))

-- what is read from a block with the bits of each byte in the other order
pub element-read : (s : List ℕ) (n : ℕ) → AreOctets s → n ≡ from_le_bytes w128 (bytes_by 16 (λ i. reversed_byte (slice_index s i))) → n ≡ element s
element-read s n b e = e ∙ from_low-sum (reversed_byte (slice_index s 0)) (reversed_byte (slice_index s 1)) (reversed_byte (slice_index s 2)) (reversed_byte (slice_index s 3)) (reversed_byte (slice_index s 4)) (reversed_byte (slice_index s 5)) (reversed_byte (slice_index s 6)) (reversed_byte (slice_index s 7)) (reversed_byte (slice_index s 8)) (reversed_byte (slice_index s 9)) (reversed_byte (slice_index s 10)) (reversed_byte (slice_index s 11)) (reversed_byte (slice_index s 12)) (reversed_byte (slice_index s 13)) (reversed_byte (slice_index s 14)) (reversed_byte (slice_index s 15)) ∙ sym (element-is s b)

reversed_bytes_test : all_below 256 (λ b. ltb (reversed_byte b) 256) ≡ true
unfolding reverse_bits_onto
reversed_bytes_test = refl

reversed_byte-lt : (b : ℕ) → b < 256 → reversed_byte b < 256
reversed_byte-lt b h = ltb-true _ _ (all_below-at 256 (λ b. ltb (reversed_byte b) 256) reversed_bytes_test b h)

AreOctets-reversed : (xs : List ℕ) → AreOctets xs → AreOctets (map reversed_byte xs)
AreOctets-reversed [] b = b
AreOctets-reversed (x ∷ xs) b = AreOctets-cons (reversed_byte x) (map reversed_byte xs) (reversed_byte-lt x (b 0)) (AreOctets-reversed xs (λ i. b (suc i)))

-- the bytes of a number are bytes
AreOctets-low : (e : ℕ) → AreOctets (to_le_bytes w128 e)
AreOctets-low e = AreOctets-sixteen (byte_at 0 e) (byte_at 1 e) (byte_at 2 e) (byte_at 3 e) (byte_at 4 e) (byte_at 5 e) (byte_at 6 e) (byte_at 7 e) (byte_at 8 e) (byte_at 9 e) (byte_at 10 e) (byte_at 11 e) (byte_at 12 e) (byte_at 13 e) (byte_at 14 e) (byte_at 15 e) (omega arith) (omega arith) (omega arith) (omega arith) (omega arith) (omega arith) (omega arith) (omega arith) (omega arith) (omega arith) (omega arith) (omega arith) (omega arith) (omega arith) (omega arith) (omega arith)

-- what is written of a polynomial, with the bits of each byte in the other order
pub element-written : (e : ℕ) (s : List ℕ) → e < 2 ^ 128 → s ≡ bytes_by 16 (λ i. reversed_byte (slice_index (to_le_bytes w128 e) i)) → s ≡ element_block e
unfolding element_block
element-written e s h f =
    let l = to_le_bytes w128 e in
    let n : from_low l ≡ e = sym (from_high-sum (byte_at 15 e) (byte_at 14 e) (byte_at 13 e) (byte_at 12 e) (byte_at 11 e) (byte_at 10 e) (byte_at 9 e) (byte_at 8 e) (byte_at 7 e) (byte_at 6 e) (byte_at 5 e) (byte_at 4 e) (byte_at 3 e) (byte_at 2 e) (byte_at 1 e) (byte_at 0 e)) ∙ number_spelled e h in
    let r : reverse_bits_onto 128 e 0 ≡ from_high 0 (map reversed_byte l) = ap (λ (x : ℕ). reverse_bits_onto 128 x 0) (sym n) ∙ bytes-reversed 0 l (AreOctets-low e) in
    f ∙ sym (ap (bytes_high_first 16) r ∙ high_bytes 0 (map reversed_byte l) (AreOctets-reversed l (AreOctets-low e)))
