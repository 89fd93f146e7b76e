-- The rounds on states that are held, byte by byte.
use Rattle.std.proofs.Common.{◌≡◌, ℕ, ◌+◌, ◌*◌, ◌/◌, ◌%◌, ◌<◌, ◌≤◌, List, length, replicate, slice_index, arith, refl, sym, ap, ◌∙◌, lit<}
use Rattle.std.specs.Prelude.{bit_xor}
use Rattle.std.specs.Int.Bits.{xor_assoc, xor_self, xor_zero_l}
use Rattle.std.proofs.lemmas.Nat.{xor_comm}
use lib.Lanes.{zip2}
use Rattle.ssh_aes.specs.Aes.{bytes_by, substitute, sub_bytes, inverse_sub_bytes, shift_rows, inverse_shift_rows, mixed_byte, mixed_column, unmixed_column, mix_columns, inverse_mix_columns, add_round_key}
use Rattle.ssh_aes.specs.Columns.{round_key}
use Rattle.ssh_aes.specs.Laws.{AreOctets}
use Rattle.ssh_aes.proofs.Inverses.{substitute-lt}
use Rattle.ssh_aes.proofs.Polynomials.{xor_cancel}
use Rattle.ssh_aes.proofs.Schedules.{bytes_by-at, bytes_by-same, length-bytes_by}
use Rattle.ssh_aes.specs.declared.vector_tables.TheConstants.{ENTERED_LOW, ENTERED_HIGH, LEFT_LOW, LEFT_HIGH, SUBSTITUTED_FIRST, SUBSTITUTED_SECOND, DOUBLED_FIRST, DOUBLED_SECOND, INVERSE_ENTERED_LOW, INVERSE_ENTERED_HIGH, CROSSED_LOW, CROSSED_HIGH, RESTORED_FIRST, RESTORED_SECOND, NINE_FIRST, NINE_SECOND, ELEVEN_FIRST, ELEVEN_SECOND, THIRTEEN_FIRST, THIRTEEN_SECOND, FOURTEEN_FIRST, FOURTEEN_SECOND}
use Rattle.ssh_aes.specs.Reads.{read_halves, read_parts, first_place, second_place, by_places}
use Rattle.ssh_aes.specs.Held.{leave, inverse_leave, key_byte, inverse_byte, left, inverse_left, keys_left, inverse_keys_left}
use Rattle.ssh_aes.proofs.Boxes.{Agrees, back, leave-lt, leave-sum, inverse_leave-sum, entered_is, inverse_entered_is, crossed_is, once_is, twice_is, restored_is, nine_is, eleven_is, thirteen_is, fourteen_is}
use Rattle.ssh_aes.proofs.Mixing.{turned, row, inverse_row}
use Rattle.ssh_aes.proofs.Sixteens.{sixteen-list}

-- ---- keys

pub keys_left-at : (keys : List ℕ) (k : ℕ) → k < 240 → slice_index (keys_left keys) k ≡ key_byte (slice_index keys k)
unfolding keys_left
keys_left-at keys k h = bytes_by-at 240 (λ i. key_byte (slice_index keys i)) k h

pub length-keys_left : (keys : List ℕ) → length (keys_left keys) ≡ 240
unfolding keys_left
length-keys_left keys = length-bytes_by 240 (λ i. key_byte (slice_index keys i))

pub inverse_keys_left-at : (keys : List ℕ) (k : ℕ) → k < 240 → slice_index (inverse_keys_left keys) k ≡ inverse_byte (slice_index keys k)
unfolding inverse_keys_left
inverse_keys_left-at keys k h = bytes_by-at 240 (λ i. inverse_byte (slice_index keys i)) k h

pub key_agrees : (keys : List ℕ) (round i : ℕ) → AreOctets keys → round ≤ 14 → i < 16 → Agrees leave (slice_index keys (16 * round + i)) (bit_xor (slice_index (keys_left keys) (16 * round + i)) 0x63)
key_agrees keys round i o h l =
    record { fits = o (16 * round + i); is = rw (keys_left-at keys (16 * round + i) (omega arith)) (sym (xor_cancel (leave (slice_index keys (16 * round + i))) 0x63)) }

pub inverse_key_agrees : (keys : List ℕ) (round i : ℕ) → AreOctets keys → round ≤ 14 → i < 16 → Agrees inverse_leave (slice_index keys (16 * round + i)) (bit_xor (slice_index (inverse_keys_left keys) (16 * round + i)) 0x63)
inverse_key_agrees keys round i o h l =
    record { fits = o (16 * round + i); is = rw (inverse_keys_left-at keys (16 * round + i) (omega arith)) (sym (xor_cancel (inverse_leave (slice_index keys (16 * round + i))) 0x63)) }

-- ---- a table at the places of inverses

pub parts_are : (f s x p q r : List ℕ) → p ≡ bytes_by 16 (λ i. first_place (slice_index x i)) → q ≡ bytes_by 16 (λ i. second_place (slice_index x i))
    → r ≡ bytes_by 16 (λ i. read_parts f s (slice_index p i) (slice_index q i)) → r ≡ bytes_by 16 (λ i. by_places f s (slice_index x i))
parts_are f s x p q r d e g = g ∙ rw (d, e) refl

-- ---- lists by index

pub zip_by : (f g : ℕ → ℕ) (a b : List ℕ) → a ≡ bytes_by 16 f → b ≡ bytes_by 16 g → zip2 bit_xor a b ≡ bytes_by 16 (λ i. bit_xor (f i) (g i))
zip_by f g a b d e = ap (λ x. zip2 bit_xor x b) d ∙ ap (zip2 bit_xor (bytes_by 16 f)) e

pub through : (f : ℕ → ℕ) (a b c : List ℕ) → a ≡ b → c ≡ bytes_by 16 (λ i. f (slice_index a i)) → c ≡ bytes_by 16 (λ i. f (slice_index b i))
through f a b c d e = e ∙ ap (λ z. bytes_by 16 (λ i. f (slice_index z i))) d

abbrev pub next_index : ℕ → ℕ
next_index i = 4 * (i / 4) + (i + 1) % 4

abbrev index_before : ℕ → ℕ
index_before i = 4 * (i / 4) + (i + 3) % 4

pub next_by : (f : ℕ → ℕ) (a b : List ℕ) → a ≡ bytes_by 16 f → b ≡ bytes_by 16 (λ i. slice_index a (next_index i)) → b ≡ bytes_by 16 (λ i. f (next_index i))
next_by f a b d e = e ∙ ap (λ z. bytes_by 16 (λ i. slice_index z (next_index i))) d

before_by : (f : ℕ → ℕ) (a b : List ℕ) → a ≡ bytes_by 16 f → b ≡ bytes_by 16 (λ i. slice_index a (index_before i)) → b ≡ bytes_by 16 (λ i. f (index_before i))
before_by f a b d e = e ∙ ap (λ z. bytes_by 16 (λ i. slice_index z (index_before i))) d

-- ---- the first key

crossed_out : (l m q : ℕ) → bit_xor (bit_xor l q) (bit_xor m q) ≡ bit_xor l m
crossed_out l m q = xor_assoc l q (bit_xor m q) ∙ ap (bit_xor l) (ap (bit_xor q) (xor_comm m q) ∙ sym (xor_assoc q q m) ∙ ap (λ x. bit_xor x m) (xor_self q) ∙ xor_zero_l m)

with_key-byte : (b k w : ℕ) → b < 256 → Agrees leave k (bit_xor w 0x63) → leave (bit_xor (read_halves ENTERED_LOW ENTERED_HIGH b) k) ≡ bit_xor b w
with_key-byte b k w h a =
    let e = entered_is b h in
    let E = read_halves ENTERED_LOW ENTERED_HIGH b in
    leave-sum E k e.fits a.fits ∙ ap (bit_xor (leave E)) a.is
    ∙ ap (λ x. bit_xor x (bit_xor w 0x63)) (sym (xor_cancel (leave E) 0x63) ∙ ap (λ x. bit_xor x 0x63) e.is)
    ∙ crossed_out b w 0x63

pub with_key_is : (keys block h k : List ℕ) (round : ℕ) → round ≤ 14 → AreOctets keys → AreOctets block → h ≡ bytes_by 16 (λ i. read_halves ENTERED_LOW ENTERED_HIGH (slice_index block i)) → k ≡ round_key keys round
    → left (zip2 bit_xor h k) ≡ add_round_key (keys_left keys) round block
unfolding add_round_key
with_key_is keys block h k round l o b e f =
    ap (λ x. left (zip2 bit_xor x k)) e ∙ ap (λ x. left (zip2 bit_xor (bytes_by 16 (λ i. read_halves ENTERED_LOW ENTERED_HIGH (slice_index block i))) x)) f
    ∙ bytes_by-same 16 (λ i. leave (bit_xor (read_halves ENTERED_LOW ENTERED_HIGH (slice_index block i)) (slice_index keys (16 * round + i)))) (λ i. bit_xor (slice_index block i) (slice_index (keys_left keys) (16 * round + i)))
    (λ i g. with_key-byte (slice_index block i) (slice_index keys (16 * round + i)) (slice_index (keys_left keys) (16 * round + i)) (b i) (key_agrees keys round i o l g))

with_last_key-byte : (b k w : ℕ) → b < 256 → Agrees leave k (bit_xor w 0x63) → inverse_byte (bit_xor (read_halves INVERSE_ENTERED_LOW INVERSE_ENTERED_HIGH b) (read_halves CROSSED_LOW CROSSED_HIGH k)) ≡ bit_xor b w
with_last_key-byte b k w h a =
    let e = inverse_entered_is b h in
    let f = crossed_is k a.fits in
    let E = read_halves INVERSE_ENTERED_LOW INVERSE_ENTERED_HIGH b in
    let F = read_halves CROSSED_LOW CROSSED_HIGH k in
    ap (λ x. bit_xor x 0x63) (inverse_leave-sum E F e.fits f.fits ∙ ap (λ x. bit_xor x (inverse_leave F)) e.is ∙ ap (bit_xor b) (f.is ∙ a.is) ∙ sym (xor_assoc b w 0x63))
    ∙ xor_cancel (bit_xor b w) 0x63

pub with_last_key_is : (keys block h k c : List ℕ) (round : ℕ) → round ≤ 14 → AreOctets keys → AreOctets block → h ≡ bytes_by 16 (λ i. read_halves INVERSE_ENTERED_LOW INVERSE_ENTERED_HIGH (slice_index block i)) → k ≡ round_key keys round
    → c ≡ bytes_by 16 (λ i. read_halves CROSSED_LOW CROSSED_HIGH (slice_index k i)) → inverse_left (zip2 bit_xor h c) ≡ add_round_key (keys_left keys) round block
unfolding add_round_key
with_last_key_is keys block h k c round l o b e f g =
    ap (λ x. inverse_left (zip2 bit_xor x c)) e ∙ ap (λ x. inverse_left (zip2 bit_xor (bytes_by 16 (λ i. read_halves INVERSE_ENTERED_LOW INVERSE_ENTERED_HIGH (slice_index block i))) x)) (g ∙ ap (λ z. bytes_by 16 (λ i. read_halves CROSSED_LOW CROSSED_HIGH (slice_index z i))) f)
    ∙ bytes_by-same 16 (λ i. inverse_byte (bit_xor (read_halves INVERSE_ENTERED_LOW INVERSE_ENTERED_HIGH (slice_index block i)) (read_halves CROSSED_LOW CROSSED_HIGH (slice_index keys (16 * round + i))))) (λ i. bit_xor (slice_index block i) (slice_index (keys_left keys) (16 * round + i)))
    (λ i m. with_last_key-byte (slice_index block i) (slice_index keys (16 * round + i)) (slice_index (keys_left keys) (16 * round + i)) (b i) (key_agrees keys round i o l m))

-- ---- whole rounds of encryption

-- what stands for a substituted byte
abbrev box : ℕ → ℕ
box b = substitute (leave b)

abbrev once : ℕ → ℕ
once b = by_places SUBSTITUTED_FIRST SUBSTITUTED_SECOND b

abbrev twice : ℕ → ℕ
twice b = by_places DOUBLED_FIRST DOUBLED_SECOND b

-- the sum of a row
abbrev summed : (b0 b1 b2 b3 k : ℕ) → ℕ
summed b0 b1 b2 b3 k = bit_xor (bit_xor (bit_xor (bit_xor (twice b0) (once b1)) (once b3)) (bit_xor (twice b1) (once b2))) k

row0 : (b0 b1 b2 b3 k w : ℕ) → b0 < 256 → b1 < 256 → b2 < 256 → b3 < 256 → Agrees leave k (bit_xor w 0x63) → leave (summed b0 b1 b2 b3 k) ≡ bit_xor (mixed_byte 2 3 1 1 (box b0) (box b1) (box b2) (box b3)) w
row0 b0 b1 b2 b3 k w h0 h1 h2 h3 a =
    row (twice b0) (twice b1) (once b1) (once b2) (once b3) k (box b0) (box b1) (box b2) (box b3) w
    (substitute-lt (leave b1) (leave-lt b1 h1)) (substitute-lt (leave b2) (leave-lt b2 h2)) (substitute-lt (leave b3) (leave-lt b3 h3))
    (twice_is b0 h0) (twice_is b1 h1) (once_is b1 h1) (once_is b2 h2) (once_is b3 h3) a

row1 : (b0 b1 b2 b3 k w : ℕ) → b0 < 256 → b1 < 256 → b2 < 256 → b3 < 256 → Agrees leave k (bit_xor w 0x63) → leave (summed b1 b2 b3 b0 k) ≡ bit_xor (mixed_byte 1 2 3 1 (box b0) (box b1) (box b2) (box b3)) w
row1 b0 b1 b2 b3 k w h0 h1 h2 h3 a = row0 b1 b2 b3 b0 k w h1 h2 h3 h0 a ∙ ap (λ x. bit_xor x w) (sym (turned 1 2 3 1 (box b0) (box b1) (box b2) (box b3)))

row2 : (b0 b1 b2 b3 k w : ℕ) → b0 < 256 → b1 < 256 → b2 < 256 → b3 < 256 → Agrees leave k (bit_xor w 0x63) → leave (summed b2 b3 b0 b1 k) ≡ bit_xor (mixed_byte 1 1 2 3 (box b0) (box b1) (box b2) (box b3)) w
row2 b0 b1 b2 b3 k w h0 h1 h2 h3 a = row1 b1 b2 b3 b0 k w h1 h2 h3 h0 a ∙ ap (λ x. bit_xor x w) (sym (turned 1 1 2 3 (box b0) (box b1) (box b2) (box b3)))

row3 : (b0 b1 b2 b3 k w : ℕ) → b0 < 256 → b1 < 256 → b2 < 256 → b3 < 256 → Agrees leave k (bit_xor w 0x63) → leave (summed b3 b0 b1 b2 k) ≡ bit_xor (mixed_byte 3 1 1 2 (box b0) (box b1) (box b2) (box b3)) w
row3 b0 b1 b2 b3 k w h0 h1 h2 h3 a = row2 b1 b2 b3 b0 k w h1 h2 h3 h0 a ∙ ap (λ x. bit_xor x w) (sym (turned 3 1 1 2 (box b0) (box b1) (box b2) (box b3)))

round_rows : (s keys : List ℕ) (round : ℕ) → round ≤ 14 → AreOctets keys → AreOctets s
    → bytes_by 16 (λ i. leave (bit_xor (bit_xor (bit_xor (bit_xor (twice (slice_index (shift_rows s) i)) (once (slice_index (shift_rows s) (next_index i)))) (once (slice_index (shift_rows s) (index_before i)))) (bit_xor (twice (slice_index (shift_rows s) (next_index i))) (once (slice_index (shift_rows s) (next_index (next_index i)))))) (slice_index keys (16 * round + i))))
    ≡ add_round_key (keys_left keys) round (mix_columns (shift_rows (sub_bytes (left s))))
unfolding add_round_key mix_columns mixed_column shift_rows sub_bytes
round_rows s keys round l oc o =
    let b = λ (i : ℕ). slice_index s i in
    let k = λ (i : ℕ). slice_index keys (16 * round + i) in
    let w = λ (i : ℕ). slice_index (keys_left keys) (16 * round + i) in
    let a : (i : ℕ) → i < 16 → Agrees leave (k i) (bit_xor (w i) 0x63) = λ i h. key_agrees keys round i oc l h in
    sixteen-list
    (row0 (b 0) (b 5) (b 10) (b 15) (k 0) (w 0) (o 0) (o 5) (o 10) (o 15) (a 0 (lit< tt)))
    (row1 (b 0) (b 5) (b 10) (b 15) (k 1) (w 1) (o 0) (o 5) (o 10) (o 15) (a 1 (lit< tt)))
    (row2 (b 0) (b 5) (b 10) (b 15) (k 2) (w 2) (o 0) (o 5) (o 10) (o 15) (a 2 (lit< tt)))
    (row3 (b 0) (b 5) (b 10) (b 15) (k 3) (w 3) (o 0) (o 5) (o 10) (o 15) (a 3 (lit< tt)))
    (row0 (b 4) (b 9) (b 14) (b 3) (k 4) (w 4) (o 4) (o 9) (o 14) (o 3) (a 4 (lit< tt)))
    (row1 (b 4) (b 9) (b 14) (b 3) (k 5) (w 5) (o 4) (o 9) (o 14) (o 3) (a 5 (lit< tt)))
    (row2 (b 4) (b 9) (b 14) (b 3) (k 6) (w 6) (o 4) (o 9) (o 14) (o 3) (a 6 (lit< tt)))
    (row3 (b 4) (b 9) (b 14) (b 3) (k 7) (w 7) (o 4) (o 9) (o 14) (o 3) (a 7 (lit< tt)))
    (row0 (b 8) (b 13) (b 2) (b 7) (k 8) (w 8) (o 8) (o 13) (o 2) (o 7) (a 8 (lit< tt)))
    (row1 (b 8) (b 13) (b 2) (b 7) (k 9) (w 9) (o 8) (o 13) (o 2) (o 7) (a 9 (lit< tt)))
    (row2 (b 8) (b 13) (b 2) (b 7) (k 10) (w 10) (o 8) (o 13) (o 2) (o 7) (a 10 (lit< tt)))
    (row3 (b 8) (b 13) (b 2) (b 7) (k 11) (w 11) (o 8) (o 13) (o 2) (o 7) (a 11 (lit< tt)))
    (row0 (b 12) (b 1) (b 6) (b 11) (k 12) (w 12) (o 12) (o 1) (o 6) (o 11) (a 12 (lit< tt)))
    (row1 (b 12) (b 1) (b 6) (b 11) (k 13) (w 13) (o 12) (o 1) (o 6) (o 11) (a 13 (lit< tt)))
    (row2 (b 12) (b 1) (b 6) (b 11) (k 14) (w 14) (o 12) (o 1) (o 6) (o 11) (a 14 (lit< tt)))
    (row3 (b 12) (b 1) (b 6) (b 11) (k 15) (w 15) (o 12) (o 1) (o 6) (o 11) (a 15 (lit< tt)))

pub round_is : (keys s x o t n p m k : List ℕ) (round : ℕ) → round ≤ 14 → AreOctets keys → AreOctets s → x ≡ shift_rows s
    → o ≡ bytes_by 16 (λ i. once (slice_index x i)) → t ≡ bytes_by 16 (λ i. twice (slice_index x i))
    → n ≡ bytes_by 16 (λ i. slice_index o (next_index i)) → p ≡ bytes_by 16 (λ i. slice_index o (index_before i)) → m ≡ bytes_by 16 (λ i. slice_index (zip2 bit_xor t n) (next_index i)) → k ≡ round_key keys round
    → left (zip2 bit_xor (zip2 bit_xor (zip2 bit_xor (zip2 bit_xor t n) p) m) k) ≡ add_round_key (keys_left keys) round (mix_columns (shift_rows (sub_bytes (left s))))
round_is keys s x o t n p m k round l oc os ex eo et en ep em ek =
    let O = λ (i : ℕ). once (slice_index (shift_rows s) i) in
    let U = λ (i : ℕ). twice (slice_index (shift_rows s) i) in
    let o1 = through once x (shift_rows s) o ex eo in
    let t1 = through twice x (shift_rows s) t ex et in
    let n1 = next_by O o n o1 en in
    let p1 = before_by O o p o1 ep in
    let a = zip_by U (λ i. O (next_index i)) t n t1 n1 in
    let m1 = next_by (λ i. bit_xor (U i) (O (next_index i))) (zip2 bit_xor t n) m a em in
    let b = zip_by (λ i. bit_xor (U i) (O (next_index i))) (λ i. O (index_before i)) (zip2 bit_xor t n) p a p1 in
    let c = zip_by (λ i. bit_xor (bit_xor (U i) (O (next_index i))) (O (index_before i))) (λ i. bit_xor (U (next_index i)) (O (next_index (next_index i)))) (zip2 bit_xor (zip2 bit_xor t n) p) m b m1 in
    let d = zip_by (λ i. bit_xor (bit_xor (bit_xor (U i) (O (next_index i))) (O (index_before i))) (bit_xor (U (next_index i)) (O (next_index (next_index i))))) (λ i. slice_index keys (16 * round + i)) (zip2 bit_xor (zip2 bit_xor (zip2 bit_xor t n) p) m) k c ek in
    ap left d ∙ round_rows s keys round l oc os

-- ---- the last round of encryption

last-byte : (b k w : ℕ) → b < 256 → Agrees leave k (bit_xor w 0x63) → leave (bit_xor (once b) k) ≡ bit_xor (box b) w
last-byte b k w h a =
    let f = once_is b h in
    leave-sum (once b) k f.fits a.fits ∙ ap (bit_xor (leave (once b))) a.is ∙ ap (λ x. bit_xor x (bit_xor w 0x63)) f.is ∙ crossed_out (box b) w 0x63

abbrev left_by_tables : List ℕ → List ℕ
left_by_tables s = bytes_by 16 (λ i. read_halves LEFT_LOW LEFT_HIGH (slice_index s i))

left_as_tables : (s : List ℕ) → left_by_tables s ≡ left s
unfolding leave
left_as_tables s = refl

last_rows : (s keys : List ℕ) (round : ℕ) → round ≤ 14 → AreOctets keys → AreOctets s
    → bytes_by 16 (λ i. leave (bit_xor (once (slice_index (shift_rows s) i)) (slice_index keys (16 * round + i)))) ≡ add_round_key (keys_left keys) round (shift_rows (sub_bytes (left s)))
unfolding add_round_key shift_rows sub_bytes
last_rows s keys round l oc o =
    let k = λ (i : ℕ). slice_index keys (16 * round + i) in
    let w = λ (i : ℕ). slice_index (keys_left keys) (16 * round + i) in
    let a : (i : ℕ) → i < 16 → Agrees leave (k i) (bit_xor (w i) 0x63) = λ i h. key_agrees keys round i oc l h in
    sixteen-list
    (last-byte (slice_index s 0) (k 0) (w 0) (o 0) (a 0 (lit< tt)))
    (last-byte (slice_index s 5) (k 1) (w 1) (o 5) (a 1 (lit< tt)))
    (last-byte (slice_index s 10) (k 2) (w 2) (o 10) (a 2 (lit< tt)))
    (last-byte (slice_index s 15) (k 3) (w 3) (o 15) (a 3 (lit< tt)))
    (last-byte (slice_index s 4) (k 4) (w 4) (o 4) (a 4 (lit< tt)))
    (last-byte (slice_index s 9) (k 5) (w 5) (o 9) (a 5 (lit< tt)))
    (last-byte (slice_index s 14) (k 6) (w 6) (o 14) (a 6 (lit< tt)))
    (last-byte (slice_index s 3) (k 7) (w 7) (o 3) (a 7 (lit< tt)))
    (last-byte (slice_index s 8) (k 8) (w 8) (o 8) (a 8 (lit< tt)))
    (last-byte (slice_index s 13) (k 9) (w 9) (o 13) (a 9 (lit< tt)))
    (last-byte (slice_index s 2) (k 10) (w 10) (o 2) (a 10 (lit< tt)))
    (last-byte (slice_index s 7) (k 11) (w 11) (o 7) (a 11 (lit< tt)))
    (last-byte (slice_index s 12) (k 12) (w 12) (o 12) (a 12 (lit< tt)))
    (last-byte (slice_index s 1) (k 13) (w 13) (o 1) (a 13 (lit< tt)))
    (last-byte (slice_index s 6) (k 14) (w 14) (o 6) (a 14 (lit< tt)))
    (last-byte (slice_index s 11) (k 15) (w 15) (o 11) (a 15 (lit< tt)))

pub last_round_is : (keys s x o k r : List ℕ) (round : ℕ) → round ≤ 14 → AreOctets keys → AreOctets s → x ≡ shift_rows s
    → o ≡ bytes_by 16 (λ i. once (slice_index x i)) → k ≡ round_key keys round → r ≡ bytes_by 16 (λ i. read_halves LEFT_LOW LEFT_HIGH (slice_index (zip2 bit_xor o k) i))
    → r ≡ add_round_key (keys_left keys) round (shift_rows (sub_bytes (left s)))
last_round_is keys s x o k r round l oc os ex eo ek er =
    let O = λ (i : ℕ). once (slice_index (shift_rows s) i) in
    let o1 = through once x (shift_rows s) o ex eo in
    let d = zip_by O (λ i. slice_index keys (16 * round + i)) o k o1 ek in
    er ∙ ap left_by_tables d ∙ left_as_tables (bytes_by 16 (λ i. bit_xor (O i) (slice_index keys (16 * round + i)))) ∙ last_rows s keys round l oc os

-- ---- whole rounds of decryption

abbrev inverse_summed : (b0 b1 b2 b3 k : ℕ) → ℕ
inverse_summed b0 b1 b2 b3 k = bit_xor (bit_xor (bit_xor (bit_xor (by_places NINE_FIRST NINE_SECOND b3) (by_places THIRTEEN_FIRST THIRTEEN_SECOND b2)) (by_places ELEVEN_FIRST ELEVEN_SECOND b1)) (by_places FOURTEEN_FIRST FOURTEEN_SECOND b0)) k

inverse_row0 : (b0 b1 b2 b3 k w : ℕ) → b0 < 256 → b1 < 256 → b2 < 256 → b3 < 256 → Agrees inverse_leave k (bit_xor w 0x63) → inverse_byte (inverse_summed b0 b1 b2 b3 k) ≡ bit_xor (mixed_byte 14 11 13 9 (back b0) (back b1) (back b2) (back b3)) w
inverse_row0 b0 b1 b2 b3 k w h0 h1 h2 h3 a =
    inverse_row _ _ _ _ k (back b0) (back b1) (back b2) (back b3) w (nine_is b3 h3) (thirteen_is b2 h2) (eleven_is b1 h1) (fourteen_is b0 h0) a

inverse_row1 : (b0 b1 b2 b3 k w : ℕ) → b0 < 256 → b1 < 256 → b2 < 256 → b3 < 256 → Agrees inverse_leave k (bit_xor w 0x63) → inverse_byte (inverse_summed b1 b2 b3 b0 k) ≡ bit_xor (mixed_byte 9 14 11 13 (back b0) (back b1) (back b2) (back b3)) w
inverse_row1 b0 b1 b2 b3 k w h0 h1 h2 h3 a = inverse_row0 b1 b2 b3 b0 k w h1 h2 h3 h0 a ∙ ap (λ x. bit_xor x w) (sym (turned 9 14 11 13 (back b0) (back b1) (back b2) (back b3)))

inverse_row2 : (b0 b1 b2 b3 k w : ℕ) → b0 < 256 → b1 < 256 → b2 < 256 → b3 < 256 → Agrees inverse_leave k (bit_xor w 0x63) → inverse_byte (inverse_summed b2 b3 b0 b1 k) ≡ bit_xor (mixed_byte 13 9 14 11 (back b0) (back b1) (back b2) (back b3)) w
inverse_row2 b0 b1 b2 b3 k w h0 h1 h2 h3 a = inverse_row1 b1 b2 b3 b0 k w h1 h2 h3 h0 a ∙ ap (λ x. bit_xor x w) (sym (turned 13 9 14 11 (back b0) (back b1) (back b2) (back b3)))

inverse_row3 : (b0 b1 b2 b3 k w : ℕ) → b0 < 256 → b1 < 256 → b2 < 256 → b3 < 256 → Agrees inverse_leave k (bit_xor w 0x63) → inverse_byte (inverse_summed b3 b0 b1 b2 k) ≡ bit_xor (mixed_byte 11 13 9 14 (back b0) (back b1) (back b2) (back b3)) w
inverse_row3 b0 b1 b2 b3 k w h0 h1 h2 h3 a = inverse_row2 b1 b2 b3 b0 k w h1 h2 h3 h0 a ∙ ap (λ x. bit_xor x w) (sym (turned 11 13 9 14 (back b0) (back b1) (back b2) (back b3)))

inverse_rows : (s keys : List ℕ) (round : ℕ) → round ≤ 14 → AreOctets keys → AreOctets s
    → bytes_by 16 (λ i. inverse_byte (bit_xor (bit_xor (bit_xor (bit_xor (by_places NINE_FIRST NINE_SECOND (slice_index (inverse_shift_rows s) (next_index (next_index (next_index i))))) (by_places THIRTEEN_FIRST THIRTEEN_SECOND (slice_index (inverse_shift_rows s) (next_index (next_index i))))) (by_places ELEVEN_FIRST ELEVEN_SECOND (slice_index (inverse_shift_rows s) (next_index i)))) (by_places FOURTEEN_FIRST FOURTEEN_SECOND (slice_index (inverse_shift_rows s) i))) (slice_index keys (16 * round + i))))
    ≡ add_round_key (inverse_keys_left keys) round (inverse_mix_columns (inverse_sub_bytes (inverse_shift_rows (inverse_left s))))
unfolding add_round_key inverse_mix_columns unmixed_column inverse_shift_rows inverse_sub_bytes
inverse_rows s keys round l oc o =
    let b = λ (i : ℕ). slice_index s i in
    let k = λ (i : ℕ). slice_index keys (16 * round + i) in
    let w = λ (i : ℕ). slice_index (inverse_keys_left keys) (16 * round + i) in
    let a : (i : ℕ) → i < 16 → Agrees inverse_leave (k i) (bit_xor (w i) 0x63) = λ i h. inverse_key_agrees keys round i oc l h in
    sixteen-list
    (inverse_row0 (b 0) (b 13) (b 10) (b 7) (k 0) (w 0) (o 0) (o 13) (o 10) (o 7) (a 0 (lit< tt)))
    (inverse_row1 (b 0) (b 13) (b 10) (b 7) (k 1) (w 1) (o 0) (o 13) (o 10) (o 7) (a 1 (lit< tt)))
    (inverse_row2 (b 0) (b 13) (b 10) (b 7) (k 2) (w 2) (o 0) (o 13) (o 10) (o 7) (a 2 (lit< tt)))
    (inverse_row3 (b 0) (b 13) (b 10) (b 7) (k 3) (w 3) (o 0) (o 13) (o 10) (o 7) (a 3 (lit< tt)))
    (inverse_row0 (b 4) (b 1) (b 14) (b 11) (k 4) (w 4) (o 4) (o 1) (o 14) (o 11) (a 4 (lit< tt)))
    (inverse_row1 (b 4) (b 1) (b 14) (b 11) (k 5) (w 5) (o 4) (o 1) (o 14) (o 11) (a 5 (lit< tt)))
    (inverse_row2 (b 4) (b 1) (b 14) (b 11) (k 6) (w 6) (o 4) (o 1) (o 14) (o 11) (a 6 (lit< tt)))
    (inverse_row3 (b 4) (b 1) (b 14) (b 11) (k 7) (w 7) (o 4) (o 1) (o 14) (o 11) (a 7 (lit< tt)))
    (inverse_row0 (b 8) (b 5) (b 2) (b 15) (k 8) (w 8) (o 8) (o 5) (o 2) (o 15) (a 8 (lit< tt)))
    (inverse_row1 (b 8) (b 5) (b 2) (b 15) (k 9) (w 9) (o 8) (o 5) (o 2) (o 15) (a 9 (lit< tt)))
    (inverse_row2 (b 8) (b 5) (b 2) (b 15) (k 10) (w 10) (o 8) (o 5) (o 2) (o 15) (a 10 (lit< tt)))
    (inverse_row3 (b 8) (b 5) (b 2) (b 15) (k 11) (w 11) (o 8) (o 5) (o 2) (o 15) (a 11 (lit< tt)))
    (inverse_row0 (b 12) (b 9) (b 6) (b 3) (k 12) (w 12) (o 12) (o 9) (o 6) (o 3) (a 12 (lit< tt)))
    (inverse_row1 (b 12) (b 9) (b 6) (b 3) (k 13) (w 13) (o 12) (o 9) (o 6) (o 3) (a 13 (lit< tt)))
    (inverse_row2 (b 12) (b 9) (b 6) (b 3) (k 14) (w 14) (o 12) (o 9) (o 6) (o 3) (a 14 (lit< tt)))
    (inverse_row3 (b 12) (b 9) (b 6) (b 3) (k 15) (w 15) (o 12) (o 9) (o 6) (o 3) (a 15 (lit< tt)))

pub inverse_round_is : (keys s x n t e f n1 n2 n3 k : List ℕ) (round : ℕ) → round ≤ 14 → AreOctets keys → AreOctets s → x ≡ inverse_shift_rows s
    → n ≡ bytes_by 16 (λ i. by_places NINE_FIRST NINE_SECOND (slice_index x i)) → t ≡ bytes_by 16 (λ i. by_places THIRTEEN_FIRST THIRTEEN_SECOND (slice_index x i))
    → e ≡ bytes_by 16 (λ i. by_places ELEVEN_FIRST ELEVEN_SECOND (slice_index x i)) → f ≡ bytes_by 16 (λ i. by_places FOURTEEN_FIRST FOURTEEN_SECOND (slice_index x i))
    → n1 ≡ bytes_by 16 (λ i. slice_index n (next_index i)) → n2 ≡ bytes_by 16 (λ i. slice_index (zip2 bit_xor n1 t) (next_index i)) → n3 ≡ bytes_by 16 (λ i. slice_index (zip2 bit_xor n2 e) (next_index i)) → k ≡ round_key keys round
    → inverse_left (zip2 bit_xor (zip2 bit_xor n3 f) k) ≡ add_round_key (inverse_keys_left keys) round (inverse_mix_columns (inverse_sub_bytes (inverse_shift_rows (inverse_left s))))
inverse_round_is keys s x n t e f n1 n2 n3 k round l oc os ex en et ee ef e1 e2 e3 ek =
    let y = inverse_shift_rows s in
    let N = λ (i : ℕ). by_places NINE_FIRST NINE_SECOND (slice_index y i) in
    let M = λ (i : ℕ). by_places THIRTEEN_FIRST THIRTEEN_SECOND (slice_index y i) in
    let E = λ (i : ℕ). by_places ELEVEN_FIRST ELEVEN_SECOND (slice_index y i) in
    let F = λ (i : ℕ). by_places FOURTEEN_FIRST FOURTEEN_SECOND (slice_index y i) in
    let n0 = through (by_places NINE_FIRST NINE_SECOND) x y n ex en in
    let t0 = through (by_places THIRTEEN_FIRST THIRTEEN_SECOND) x y t ex et in
    let e0 = through (by_places ELEVEN_FIRST ELEVEN_SECOND) x y e ex ee in
    let f0 = through (by_places FOURTEEN_FIRST FOURTEEN_SECOND) x y f ex ef in
    let a1 = next_by N n n1 n0 e1 in
    let b1 = zip_by (λ i. N (next_index i)) M n1 t a1 t0 in
    let B = λ (i : ℕ). bit_xor (N (next_index i)) (M i) in
    let a2 = next_by B (zip2 bit_xor n1 t) n2 b1 e2 in
    let b2 = zip_by (λ i. B (next_index i)) E n2 e a2 e0 in
    let C = λ (i : ℕ). bit_xor (B (next_index i)) (E i) in
    let a3 = next_by C (zip2 bit_xor n2 e) n3 b2 e3 in
    let b3 = zip_by (λ i. C (next_index i)) F n3 f a3 f0 in
    let d = zip_by (λ i. bit_xor (C (next_index i)) (F i)) (λ i. slice_index keys (16 * round + i)) (zip2 bit_xor n3 f) k b3 ek in
    ap inverse_left d ∙ inverse_rows s keys round l oc os

-- ---- the last round of decryption

last_inverse_byte : (b : ℕ) (keys : List ℕ) (n : ℕ) → b < 256 → n < 240 → bit_xor (by_places RESTORED_FIRST RESTORED_SECOND b) (bit_xor (leave (slice_index keys n)) 0x63) ≡ bit_xor (back b) (slice_index (keys_left keys) n)
last_inverse_byte b keys n h l = ap (λ x. bit_xor x (bit_xor (leave (slice_index keys n)) 0x63)) (restored_is b h).is ∙ ap (bit_xor (back b)) (sym (keys_left-at keys n l))

last_inverse_rows : (s keys : List ℕ) (round : ℕ) → round ≤ 14 → AreOctets keys → AreOctets s
    → bytes_by 16 (λ i. bit_xor (by_places RESTORED_FIRST RESTORED_SECOND (slice_index (inverse_shift_rows s) i)) (bit_xor (leave (slice_index keys (16 * round + i))) 0x63)) ≡ add_round_key (keys_left keys) round (inverse_sub_bytes (inverse_shift_rows (inverse_left s)))
unfolding add_round_key inverse_shift_rows inverse_sub_bytes
last_inverse_rows s keys round l oc o =
    sixteen-list
    (last_inverse_byte (slice_index s 0) keys (16 * round + 0) (o 0) (omega arith))
    (last_inverse_byte (slice_index s 13) keys (16 * round + 1) (o 13) (omega arith))
    (last_inverse_byte (slice_index s 10) keys (16 * round + 2) (o 10) (omega arith))
    (last_inverse_byte (slice_index s 7) keys (16 * round + 3) (o 7) (omega arith))
    (last_inverse_byte (slice_index s 4) keys (16 * round + 4) (o 4) (omega arith))
    (last_inverse_byte (slice_index s 1) keys (16 * round + 5) (o 1) (omega arith))
    (last_inverse_byte (slice_index s 14) keys (16 * round + 6) (o 14) (omega arith))
    (last_inverse_byte (slice_index s 11) keys (16 * round + 7) (o 11) (omega arith))
    (last_inverse_byte (slice_index s 8) keys (16 * round + 8) (o 8) (omega arith))
    (last_inverse_byte (slice_index s 5) keys (16 * round + 9) (o 5) (omega arith))
    (last_inverse_byte (slice_index s 2) keys (16 * round + 10) (o 2) (omega arith))
    (last_inverse_byte (slice_index s 15) keys (16 * round + 11) (o 15) (omega arith))
    (last_inverse_byte (slice_index s 12) keys (16 * round + 12) (o 12) (omega arith))
    (last_inverse_byte (slice_index s 9) keys (16 * round + 13) (o 9) (omega arith))
    (last_inverse_byte (slice_index s 6) keys (16 * round + 14) (o 6) (omega arith))
    (last_inverse_byte (slice_index s 3) keys (16 * round + 15) (o 3) (omega arith))

pub last_inverse_round_is : (keys s x d k y : List ℕ) (round : ℕ) → round ≤ 14 → AreOctets keys → AreOctets s → x ≡ inverse_shift_rows s
    → d ≡ bytes_by 16 (λ i. by_places RESTORED_FIRST RESTORED_SECOND (slice_index x i)) → k ≡ round_key keys round → y ≡ bytes_by 16 (λ i. read_halves LEFT_LOW LEFT_HIGH (slice_index k i))
    → zip2 bit_xor d (zip2 bit_xor y (replicate 16 0x63)) ≡ add_round_key (keys_left keys) round (inverse_sub_bytes (inverse_shift_rows (inverse_left s)))
unfolding leave
last_inverse_round_is keys s x d k y round l oc os ex ed ek ey =
    let z = inverse_shift_rows s in
    let D = λ (i : ℕ). by_places RESTORED_FIRST RESTORED_SECOND (slice_index z i) in
    let K = λ (i : ℕ). leave (slice_index keys (16 * round + i)) in
    let d0 = through (by_places RESTORED_FIRST RESTORED_SECOND) x z d ex ed in
    let y0 = ey ∙ ap left_by_tables ek in
    let a = zip_by K (λ i. 0x63) y (replicate 16 0x63) y0 refl in
    zip_by D (λ i. bit_xor (K i) 0x63) d (zip2 bit_xor y (replicate 16 0x63)) d0 a ∙ last_inverse_rows s keys round l oc os
