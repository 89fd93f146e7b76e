-- Vectors of 16 bytes, lane by lane.
use Rattle.std.proofs.Common.{◌≡◌, ℕ, ◌+◌, ◌*◌, ◌/◌, ◌%◌, ◌^◌, ◌<◌, Bool, cond, leb, List, [], ◌∷◌, ◌++◌, length, replicate, slice_index, bit_and, arith, refl, sym, ap, ◌∙◌, w8, T, lit<}
use Rattle.std.specs.Bool.{IsTrue}
use Rattle.std.proofs.lemmas.Nat.{and_mask}
use Rattle.std.proofs.lemmas.List.{get_or_append_left}
use Rattle.std.proofs.lemmas.List.FromFn.{fill_by_all}
use Rattle.std.proofs.lemmas.Simd.{swz_l, SwzOk, SwzOk-from_Each1, Each1-from_get_or, length-swz_l, get_or-swz_l}
use lib.Lanes.{zip2, pick_l}
use Rattle.ssh_aes.specs.Aes.{bytes_by, shift_rows, inverse_shift_rows}
use Rattle.ssh_aes.proofs.Schedules.{bytes_by-at, bytes_by-same, length-bytes_by}
use Rattle.ssh_aes.proofs.Written.{sixteen-elements}
use Rattle.ssh_aes.specs.Reads.{ArePlaces, is_place, read_at}

pub low_halves : (v : List ℕ) → length v ≡ 16 → zip2 bit_and v (replicate 16 15) ≡ bytes_by 16 (λ i. slice_index v i % 16)
low_halves v h =
    ap (λ u. zip2 bit_and u (replicate 16 15)) (sym (sixteen-elements v h))
    ∙ bytes_by-same 16 (λ i. bit_and (slice_index v i) 15) (λ i. slice_index v i % 16) (λ i _. and_mask (slice_index v i) 4)

pub high_halves : (v : List ℕ) → length v ≡ 16 → zip2 (λ a b. a / 2 ^ b) v (replicate 16 4) ≡ bytes_by 16 (λ i. slice_index v i / 16)
high_halves v h =
    ap (λ u. zip2 (λ a b. a / 2 ^ b) u (replicate 16 4)) (sym (sixteen-elements v h))

pub read_is : (table places : List ℕ) → ArePlaces places → swz_l w8 16 table 0 places ≡ bytes_by 16 (λ i. read_at table (slice_index places i))
read_is table places p =
    fill_by_all (λ i. read_at table (slice_index places i)) (swz_l w8 16 table 0 places) 16 0 (length-swz_l w8 16 table 0 places ∙ p.long)
    (λ i l. let e : 16 * ((0 + i) / 16) + slice_index places i ≡ slice_index places i = omega arith in
    get_or-swz_l w8 16 table 0 places i (omega (arith, p.long)) ∙ ap (λ j. cond (leb 128 (slice_index places i)) 0 (slice_index table j)) e)

as_T : (t : Bool) → IsTrue t → T t
as_T t e = rw e tt

pub reads_well : (places : List ℕ) → ArePlaces places → SwzOk w8 16 16 0 places
reads_well places p =
    SwzOk-from_Each1 w8 16 1 16 0 places refl (omega (arith, p.long))
    (Each1-from_get_or (λ j. T (is_place j)) places 0 (λ i l. as_T _ (p.each i (omega (arith, p.long)))))

pub places_by : (f : ℕ → ℕ) → ((i : ℕ) → i < 16 → IsTrue (is_place (f i))) → ArePlaces (bytes_by 16 f)
places_by f h = record { long = length-bytes_by 16 f; each = λ i l. rw (bytes_by-at 16 f i l) (h i l) }

-- sixteen equations of elements
pub sixteen-list : {a0 a1 a2 a3 a4 a5 a6 a7 a8 a9 a10 a11 a12 a13 a14 a15 b0 b1 b2 b3 b4 b5 b6 b7 b8 b9 b10 b11 b12 b13 b14 b15 : ℕ} → a0 ≡ b0 → a1 ≡ b1 → a2 ≡ b2 → a3 ≡ b3 → a4 ≡ b4 → a5 ≡ b5 → a6 ≡ b6 → a7 ≡ b7 → a8 ≡ b8 → a9 ≡ b9 → a10 ≡ b10 → a11 ≡ b11 → a12 ≡ b12 → a13 ≡ b13 → a14 ≡ b14 → a15 ≡ b15 → a0 ∷ a1 ∷ a2 ∷ a3 ∷ a4 ∷ a5 ∷ a6 ∷ a7 ∷ a8 ∷ a9 ∷ a10 ∷ a11 ∷ a12 ∷ a13 ∷ a14 ∷ a15 ∷ [] ≡ b0 ∷ b1 ∷ b2 ∷ b3 ∷ b4 ∷ b5 ∷ b6 ∷ b7 ∷ b8 ∷ b9 ∷ b10 ∷ b11 ∷ b12 ∷ b13 ∷ b14 ∷ b15 ∷ []
sixteen-list e0 e1 e2 e3 e4 e5 e6 e7 e8 e9 e10 e11 e12 e13 e14 e15 = rw (e0, e1, e2, e3, e4, e5, e6, e7, e8, e9, e10, e11, e12, e13, e14, e15) refl

-- sixteen equations
pub sixteen-same : (f g : ℕ → ℕ) → f 0 ≡ g 0 → f 1 ≡ g 1 → f 2 ≡ g 2 → f 3 ≡ g 3 → f 4 ≡ g 4 → f 5 ≡ g 5 → f 6 ≡ g 6 → f 7 ≡ g 7 → f 8 ≡ g 8 → f 9 ≡ g 9 → f 10 ≡ g 10 → f 11 ≡ g 11 → f 12 ≡ g 12 → f 13 ≡ g 13 → f 14 ≡ g 14 → f 15 ≡ g 15 → bytes_by 16 f ≡ bytes_by 16 g
sixteen-same f g a b c d e h i j k l m n o p q r = rw (a, b, c, d, e, h, i, j, k, l, m, n, o, p, q, r) refl

-- a vector twice over, read in its first half
left_half : (v : List ℕ) (k : ℕ) → length v ≡ 16 → k < 16 → slice_index (v ++ v) k ≡ slice_index v k
left_half v k h l = get_or_append_left v v 0 k (omega arith)

pub rows_left : (v : List ℕ) → length v ≡ 16 → pick_l 0 (v ++ v) (0 ∷ 5 ∷ 10 ∷ 15 ∷ 4 ∷ 9 ∷ 14 ∷ 3 ∷ 8 ∷ 13 ∷ 2 ∷ 7 ∷ 12 ∷ 1 ∷ 6 ∷ 11 ∷ []) ≡ shift_rows v
unfolding shift_rows
rows_left v h = sixteen-list (left_half v 0 h (lit< tt)) (left_half v 5 h (lit< tt)) (left_half v 10 h (lit< tt)) (left_half v 15 h (lit< tt)) (left_half v 4 h (lit< tt)) (left_half v 9 h (lit< tt)) (left_half v 14 h (lit< tt)) (left_half v 3 h (lit< tt)) (left_half v 8 h (lit< tt)) (left_half v 13 h (lit< tt)) (left_half v 2 h (lit< tt)) (left_half v 7 h (lit< tt)) (left_half v 12 h (lit< tt)) (left_half v 1 h (lit< tt)) (left_half v 6 h (lit< tt)) (left_half v 11 h (lit< tt))

pub rows_right : (v : List ℕ) → length v ≡ 16 → pick_l 0 (v ++ v) (0 ∷ 13 ∷ 10 ∷ 7 ∷ 4 ∷ 1 ∷ 14 ∷ 11 ∷ 8 ∷ 5 ∷ 2 ∷ 15 ∷ 12 ∷ 9 ∷ 6 ∷ 3 ∷ []) ≡ inverse_shift_rows v
unfolding inverse_shift_rows
rows_right v h = sixteen-list (left_half v 0 h (lit< tt)) (left_half v 13 h (lit< tt)) (left_half v 10 h (lit< tt)) (left_half v 7 h (lit< tt)) (left_half v 4 h (lit< tt)) (left_half v 1 h (lit< tt)) (left_half v 14 h (lit< tt)) (left_half v 11 h (lit< tt)) (left_half v 8 h (lit< tt)) (left_half v 5 h (lit< tt)) (left_half v 2 h (lit< tt)) (left_half v 15 h (lit< tt)) (left_half v 12 h (lit< tt)) (left_half v 9 h (lit< tt)) (left_half v 6 h (lit< tt)) (left_half v 3 h (lit< tt))

pub row_next : (v : List ℕ) → length v ≡ 16 → pick_l 0 (v ++ v) (1 ∷ 2 ∷ 3 ∷ 0 ∷ 5 ∷ 6 ∷ 7 ∷ 4 ∷ 9 ∷ 10 ∷ 11 ∷ 8 ∷ 13 ∷ 14 ∷ 15 ∷ 12 ∷ []) ≡ bytes_by 16 (λ i. slice_index v (4 * (i / 4) + (i + 1) % 4))
row_next v h = sixteen-list (left_half v 1 h (lit< tt)) (left_half v 2 h (lit< tt)) (left_half v 3 h (lit< tt)) (left_half v 0 h (lit< tt)) (left_half v 5 h (lit< tt)) (left_half v 6 h (lit< tt)) (left_half v 7 h (lit< tt)) (left_half v 4 h (lit< tt)) (left_half v 9 h (lit< tt)) (left_half v 10 h (lit< tt)) (left_half v 11 h (lit< tt)) (left_half v 8 h (lit< tt)) (left_half v 13 h (lit< tt)) (left_half v 14 h (lit< tt)) (left_half v 15 h (lit< tt)) (left_half v 12 h (lit< tt))

pub row_before : (v : List ℕ) → length v ≡ 16 → pick_l 0 (v ++ v) (3 ∷ 0 ∷ 1 ∷ 2 ∷ 7 ∷ 4 ∷ 5 ∷ 6 ∷ 11 ∷ 8 ∷ 9 ∷ 10 ∷ 15 ∷ 12 ∷ 13 ∷ 14 ∷ []) ≡ bytes_by 16 (λ i. slice_index v (4 * (i / 4) + (i + 3) % 4))
row_before v h = sixteen-list (left_half v 3 h (lit< tt)) (left_half v 0 h (lit< tt)) (left_half v 1 h (lit< tt)) (left_half v 2 h (lit< tt)) (left_half v 7 h (lit< tt)) (left_half v 4 h (lit< tt)) (left_half v 5 h (lit< tt)) (left_half v 6 h (lit< tt)) (left_half v 11 h (lit< tt)) (left_half v 8 h (lit< tt)) (left_half v 9 h (lit< tt)) (left_half v 10 h (lit< tt)) (left_half v 15 h (lit< tt)) (left_half v 12 h (lit< tt)) (left_half v 13 h (lit< tt)) (left_half v 14 h (lit< tt))
