-- Decryption undoes encryption, step by step.
use Rattle.std.proofs.Common.{[], ◌∷◌, ◌++◌, ◌≡◌, ℕ, zero, suc, ◌+◌, ◌-◌, ◌*◌, ◌/◌, ◌%◌, ◌<◌, inl, inr, Bool, true, false, cond, eqb, ◌&&◌, List, length, slice_index, arith, refl, sym, ap, ◌∙◌, subst}
use Rattle.std.specs.Prelude.{bit_xor}
use Rattle.std.specs.Int.Bits.{xor_zero_r}
use Rattle.std.proofs.lemmas.Bool.{cases_lt}
use Rattle.std.proofs.lemmas.Nat.{xor_comm, xor_of_8}
use Rattle.std.proofs.lemmas.List.{get_or_past, length-append}
use Rattle.ssh_aes.specs.Field.{byte_product}
use Rattle.ssh_aes.specs.Aes.{bytes_by, substitute, inverse_substitute, sub_bytes, inverse_sub_bytes, shift_rows, inverse_shift_rows, mixed_byte, mixed_column, unmixed_column, mix_columns, inverse_mix_columns, add_round_key, rounds, inverse_rounds, cipher, inverse_cipher, aes, inverse_aes, expanded_key, schedule, next_word, plus_word, word_byte, block, bytes_of, key_words, round_constant}
use Rattle.ssh_aes.proofs.Substitutions.{INVERSE_SUBSTITUTION}
use Rattle.ssh_aes.specs.Laws.{AreOctets, BlocksUndone}
use Rattle.ssh_aes.proofs.Polynomials.{xor_across, xor_cancel, product_modulo-sum}
use Rattle.ssh_aes.proofs.Entries.{substitution_is, inverse_substitution_is, substitution-lt, restored_is, one_is, two-lt, three-lt, UndoesRow, crossed, unmixed_undoes, mixed_undoes}
use Rattle.ssh_aes.proofs.Schedules.{length-bytes_by, bytes_by-at, bytes_by-same, block-same}
use Rattle.ssh_aes.proofs.Written.{sixteen-elements}

-- 16 bytes
pub record IsBlock (s : List ℕ) : Type 0 where
  pub length_is : length s ≡ 16
  pub bytes : AreOctets s

pub AreOctets-bytes_by : (n : ℕ) (f : ℕ → ℕ) → ((i : ℕ) → i < n → f i < 256) → AreOctets (bytes_by n f)
AreOctets-bytes_by n f h i = elim (cases_lt i n) [
  | inl l ↦ rw (bytes_by-at n f i l) (h i l)
  | inr l ↦ let e = get_or_past (bytes_by n f) i 0 (omega (arith, length-bytes_by n f)) in rw e (omega arith)
]

pub IsBlock-bytes_by : (f : ℕ → ℕ) → ((i : ℕ) → i < 16 → f i < 256) → IsBlock (bytes_by 16 f)
IsBlock-bytes_by f h = record { length_is = length-bytes_by 16 f; bytes = AreOctets-bytes_by 16 f h }

pub xor-lt : (a b : ℕ) → a < 256 → b < 256 → bit_xor a b < 256
xor-lt a b h k = xor_of_8 a b h k

-- ---- bytes

pub AreOctets-nil : AreOctets []
AreOctets-nil zero = omega arith
AreOctets-nil (suc i) = omega arith

pub AreOctets-cons : (x : ℕ) (xs : List ℕ) → x < 256 → AreOctets xs → AreOctets (x ∷ xs)
AreOctets-cons x xs h b zero = h
AreOctets-cons x xs h b (suc i) = b i

pub AreOctets-append : (xs ys : List ℕ) → AreOctets xs → AreOctets ys → AreOctets (xs ++ ys)
AreOctets-append [] ys a b = b
AreOctets-append (x ∷ xs) ys a b = AreOctets-cons x (xs ++ ys) (a 0) (AreOctets-append xs ys (λ i. a (suc i)) b)

pub AreOctets-four : (a b c d : ℕ) → a < 256 → b < 256 → c < 256 → d < 256 → AreOctets (a ∷ b ∷ c ∷ d ∷ [])
AreOctets-four a b c d h i j k =
    AreOctets-cons a (b ∷ c ∷ d ∷ []) h (AreOctets-cons b (c ∷ d ∷ []) i (AreOctets-cons c (d ∷ []) j (AreOctets-cons d [] k AreOctets-nil)))

-- ---- each step

pub add_round_key-block : (w : List ℕ) (r : ℕ) (s : List ℕ) → AreOctets w → IsBlock s → IsBlock (add_round_key w r s)
unfolding add_round_key
add_round_key-block w r s h b = IsBlock-bytes_by (λ i. bit_xor (slice_index s i) (slice_index w (16 * r + i))) (λ i l. xor-lt _ _ (b.bytes i) (h (16 * r + i)))

pub add_round_key-twice : (w : List ℕ) (r : ℕ) (s : List ℕ) → IsBlock s → add_round_key w r (add_round_key w r s) ≡ s
unfolding add_round_key
add_round_key-twice w r s b =
    bytes_by-same 16 _ (slice_index s) (λ i l. ap (λ x. bit_xor x (slice_index w (16 * r + i))) (bytes_by-at 16 (λ j. bit_xor (slice_index s j) (slice_index w (16 * r + j))) i l) ∙ xor_cancel (slice_index s i) (slice_index w (16 * r + i)))
    ∙ sixteen-elements s b.length_is

pub substitute-lt : (b : ℕ) → b < 256 → substitute b < 256
substitute-lt b h = subst (λ (x : ℕ). x < 256) (substitution_is b h) (substitution-lt b h)

pub substitute-back : (b : ℕ) → b < 256 → inverse_substitute (substitute b) ≡ b
substitute-back b h =
    sym (inverse_substitution_is (substitute b) (substitute-lt b h))
    ∙ ap (slice_index INVERSE_SUBSTITUTION) (sym (substitution_is b h)) ∙ restored_is b h

pub sub_bytes-block : (s : List ℕ) → IsBlock s → IsBlock (sub_bytes s)
unfolding sub_bytes
sub_bytes-block s b = IsBlock-bytes_by (λ i. substitute (slice_index s i)) (λ i l. substitute-lt _ (b.bytes i))

pub sub_bytes-back : (s : List ℕ) → IsBlock s → inverse_sub_bytes (sub_bytes s) ≡ s
unfolding sub_bytes inverse_sub_bytes
sub_bytes-back s b =
    bytes_by-same 16 _ (slice_index s) (λ i l. ap inverse_substitute (bytes_by-at 16 (λ j. substitute (slice_index s j)) i l) ∙ substitute-back _ (b.bytes i))
    ∙ sixteen-elements s b.length_is

pub shift_rows-block : (s : List ℕ) → IsBlock s → IsBlock (shift_rows s)
unfolding shift_rows
shift_rows-block s b = IsBlock-bytes_by (λ i. slice_index s ((i + 4 * (i % 4)) % 16)) (λ i l. b.bytes _)

pub shift_rows-back : (s : List ℕ) → IsBlock s → inverse_shift_rows (shift_rows s) ≡ s
unfolding shift_rows inverse_shift_rows
shift_rows-back s b = sixteen-elements s b.length_is

-- ---- the columns

turned : (j k l m a b c d : ℕ) → mixed_byte j k l m a b c d ≡ mixed_byte k l m j b c d a
turned j k l m a b c d =
    ap (λ x. bit_xor x (bit_xor (byte_product l c) (byte_product m d))) (xor_comm (byte_product j a) (byte_product k b))
    ∙ xor_across (byte_product k b) (byte_product j a) (byte_product l c) (byte_product m d)
    ∙ ap (bit_xor (bit_xor (byte_product k b) (byte_product l c))) (xor_comm (byte_product j a) (byte_product m d))

spread : (j p q r s a b c d : ℕ) → byte_product j (mixed_byte p q r s a b c d) ≡ bit_xor (bit_xor (byte_product j (byte_product p a)) (byte_product j (byte_product q b))) (bit_xor (byte_product j (byte_product r c)) (byte_product j (byte_product s d)))
spread j p q r s a b c d =
    product_modulo-sum 8 0x11b j (bit_xor (byte_product p a) (byte_product q b)) (bit_xor (byte_product r c) (byte_product s d))
    ∙ ap (λ x. bit_xor x (byte_product j (bit_xor (byte_product r c) (byte_product s d)))) (product_modulo-sum 8 0x11b j (byte_product p a) (byte_product q b))
    ∙ ap (bit_xor (bit_xor (byte_product j (byte_product p a)) (byte_product j (byte_product q b)))) (product_modulo-sum 8 0x11b j (byte_product r c) (byte_product s d))

pub four_across : (a b c d e f g h : ℕ) → bit_xor (bit_xor (bit_xor a b) (bit_xor c d)) (bit_xor (bit_xor e f) (bit_xor g h)) ≡ bit_xor (bit_xor (bit_xor a e) (bit_xor b f)) (bit_xor (bit_xor c g) (bit_xor d h))
four_across a b c d e f g h =
    xor_across (bit_xor a b) (bit_xor c d) (bit_xor e f) (bit_xor g h)
    ∙ ap (λ x. bit_xor x (bit_xor (bit_xor c d) (bit_xor g h))) (xor_across a b e f)
    ∙ ap (bit_xor (bit_xor (bit_xor a e) (bit_xor b f))) (xor_across c d g h)

-- the row j, k, l, m of the columns of the row p, q, r, s
abbrev twice : (j k l m p q r s a b c d : ℕ) → ℕ
twice j k l m p q r s a b c d = mixed_byte j k l m (mixed_byte p q r s a b c d) (mixed_byte s p q r a b c d) (mixed_byte r s p q a b c d) (mixed_byte q r s p a b c d)

abbrev four : (a b c d : ℕ) → ℕ
four a b c d = bit_xor (bit_xor a b) (bit_xor c d)

transposed : (a1 b1 c1 d1 a2 b2 c2 d2 a3 b3 c3 d3 a4 b4 c4 d4 : ℕ) → four (four a1 b1 c1 d1) (four a2 b2 c2 d2) (four a3 b3 c3 d3) (four a4 b4 c4 d4) ≡ four (four a1 a2 a3 a4) (four b1 b2 b3 b4) (four c1 c2 c3 c4) (four d1 d2 d3 d4)
transposed a1 b1 c1 d1 a2 b2 c2 d2 a3 b3 c3 d3 a4 b4 c4 d4 =
    ap (λ x. bit_xor x (bit_xor (four a3 b3 c3 d3) (four a4 b4 c4 d4))) (four_across a1 b1 c1 d1 a2 b2 c2 d2)
    ∙ ap (bit_xor (four (bit_xor a1 a2) (bit_xor b1 b2) (bit_xor c1 c2) (bit_xor d1 d2))) (four_across a3 b3 c3 d3 a4 b4 c4 d4)
    ∙ four_across (bit_xor a1 a2) (bit_xor b1 b2) (bit_xor c1 c2) (bit_xor d1 d2) (bit_xor a3 a4) (bit_xor b3 b4) (bit_xor c3 c4) (bit_xor d3 d4)

gathered : (j k l m p q r s a b c d : ℕ) → twice j k l m p q r s a b c d ≡ four (crossed j k l m p s r q a) (crossed j k l m q p s r b) (crossed j k l m r q p s c) (crossed j k l m s r q p d)
gathered j k l m p q r s a b c d =
    let P : ℕ → ℕ → ℕ = byte_product in
    rw (spread j p q r s a b c d, spread k s p q r a b c d, spread l r s p q a b c d, spread m q r s p a b c d)
    (transposed (P j (P p a)) (P j (P q b)) (P j (P r c)) (P j (P s d)) (P k (P s a)) (P k (P p b)) (P k (P q c)) (P k (P r d)) (P l (P r a)) (P l (P s b)) (P l (P p c)) (P l (P q d)) (P m (P q a)) (P m (P r b)) (P m (P s c)) (P m (P p d)))

first : (j k l m p q r s a b c d : ℕ) → UndoesRow j k l m p q r s → a < 256 → b < 256 → c < 256 → d < 256 → twice j k l m p q r s a b c d ≡ a
first j k l m p q r s a b c d u ha hb hc hd =
    let z : bit_xor (bit_xor a 0) (bit_xor 0 0) ≡ a = xor_zero_r (bit_xor a 0) ∙ xor_zero_r a in
    rw (gathered j k l m p q r s a b c d, u.first a ha, u.second b hb, u.third c hc, u.fourth d hd) z

-- a column and the rows, turned by one
turn : (j k l m p q r s a b c d : ℕ) → twice j k l m p q r s a b c d ≡ twice k l m j p q r s b c d a
turn j k l m p q r s a b c d =
    turned j k l m (mixed_byte p q r s a b c d) (mixed_byte s p q r a b c d) (mixed_byte r s p q a b c d) (mixed_byte q r s p a b c d)
    ∙ ap (λ x. mixed_byte k l m j x (mixed_byte r s p q a b c d) (mixed_byte q r s p a b c d) (mixed_byte p q r s a b c d)) (turned s p q r a b c d)
    ∙ ap (λ x. mixed_byte k l m j (mixed_byte p q r s b c d a) x (mixed_byte q r s p a b c d) (mixed_byte p q r s a b c d)) (turned r s p q a b c d)
    ∙ ap (λ x. mixed_byte k l m j (mixed_byte p q r s b c d a) (mixed_byte s p q r b c d a) x (mixed_byte p q r s a b c d)) (turned q r s p a b c d)
    ∙ ap (λ x. mixed_byte k l m j (mixed_byte p q r s b c d a) (mixed_byte s p q r b c d a) (mixed_byte r s p q b c d a) x) (turned p q r s a b c d)

second : (j k l m p q r s a b c d : ℕ) → UndoesRow j k l m p q r s → a < 256 → b < 256 → c < 256 → d < 256 → twice m j k l p q r s a b c d ≡ b
second j k l m p q r s a b c d u ha hb hc hd = turn m j k l p q r s a b c d ∙ first j k l m p q r s b c d a u hb hc hd ha

third : (j k l m p q r s a b c d : ℕ) → UndoesRow j k l m p q r s → a < 256 → b < 256 → c < 256 → d < 256 → twice l m j k p q r s a b c d ≡ c
third j k l m p q r s a b c d u ha hb hc hd = turn l m j k p q r s a b c d ∙ second j k l m p q r s b c d a u hb hc hd ha

fourth : (j k l m p q r s a b c d : ℕ) → UndoesRow j k l m p q r s → a < 256 → b < 256 → c < 256 → d < 256 → twice k l m j p q r s a b c d ≡ d
fourth j k l m p q r s a b c d u ha hb hc hd = turn k l m j p q r s a b c d ∙ third j k l m p q r s b c d a u hb hc hd ha

-- the four rows of a column
abbrev turned_rows : (j k l m a b c d : ℕ) → List ℕ
turned_rows j k l m a b c d = mixed_byte j k l m a b c d ∷ mixed_byte m j k l a b c d ∷ mixed_byte l m j k a b c d ∷ mixed_byte k l m j a b c d ∷ []

rows-back : (j k l m p q r s a b c d : ℕ) → UndoesRow j k l m p q r s → a < 256 → b < 256 → c < 256 → d < 256 → turned_rows j k l m (mixed_byte p q r s a b c d) (mixed_byte s p q r a b c d) (mixed_byte r s p q a b c d) (mixed_byte q r s p a b c d) ≡ a ∷ b ∷ c ∷ d ∷ []
rows-back j k l m p q r s a b c d u ha hb hc hd = rw (first j k l m p q r s a b c d u ha hb hc hd, second j k l m p q r s a b c d u ha hb hc hd, third j k l m p q r s a b c d u ha hb hc hd, fourth j k l m p q r s a b c d u ha hb hc hd) refl

column-back : (a b c d : ℕ) → a < 256 → b < 256 → c < 256 → d < 256 → unmixed_column (mixed_byte 2 3 1 1 a b c d) (mixed_byte 1 2 3 1 a b c d) (mixed_byte 1 1 2 3 a b c d) (mixed_byte 3 1 1 2 a b c d) ≡ a ∷ b ∷ c ∷ d ∷ []
unfolding unmixed_column
column-back a b c d ha hb hc hd = rows-back 14 11 13 9 2 3 1 1 a b c d unmixed_undoes ha hb hc hd

pub column-again : (a b c d : ℕ) → a < 256 → b < 256 → c < 256 → d < 256 → mixed_column (mixed_byte 14 11 13 9 a b c d) (mixed_byte 9 14 11 13 a b c d) (mixed_byte 13 9 14 11 a b c d) (mixed_byte 11 13 9 14 a b c d) ≡ a ∷ b ∷ c ∷ d ∷ []
unfolding mixed_column
column-again a b c d ha hb hc hd = rows-back 2 3 1 1 14 11 13 9 a b c d mixed_undoes ha hb hc hd

pub mix_columns-back : (s : List ℕ) → IsBlock s → inverse_mix_columns (mix_columns s) ≡ s
unfolding mix_columns inverse_mix_columns mixed_column
mix_columns-back s b =
    let p = column-back (slice_index s 0) (slice_index s 1) (slice_index s 2) (slice_index s 3) (b.bytes 0) (b.bytes 1) (b.bytes 2) (b.bytes 3) in
    let q = column-back (slice_index s 4) (slice_index s 5) (slice_index s 6) (slice_index s 7) (b.bytes 4) (b.bytes 5) (b.bytes 6) (b.bytes 7) in
    let r = column-back (slice_index s 8) (slice_index s 9) (slice_index s 10) (slice_index s 11) (b.bytes 8) (b.bytes 9) (b.bytes 10) (b.bytes 11) in
    let t = column-back (slice_index s 12) (slice_index s 13) (slice_index s 14) (slice_index s 15) (b.bytes 12) (b.bytes 13) (b.bytes 14) (b.bytes 15) in
    rw (p, q, r, t) (sixteen-elements s b.length_is)

pub mixed_byte-lt : (j k l m a b c d : ℕ) → byte_product j a < 256 → byte_product k b < 256 → byte_product l c < 256 → byte_product m d < 256 → mixed_byte j k l m a b c d < 256
mixed_byte-lt j k l m a b c d p q r s = xor-lt _ _ (xor-lt _ _ p q) (xor-lt _ _ r s)

one-lt : (b : ℕ) → b < 256 → byte_product 1 b < 256
one-lt b h = subst (λ (x : ℕ). x < 256) (sym (one_is b h)) h

mixed_column-bytes : (a b c d : ℕ) → a < 256 → b < 256 → c < 256 → d < 256 → AreOctets (mixed_column a b c d)
unfolding mixed_column
mixed_column-bytes a b c d h i j k =
    AreOctets-four _ _ _ _
    (mixed_byte-lt 2 3 1 1 a b c d (two-lt a h) (three-lt b i) (one-lt c j) (one-lt d k))
    (mixed_byte-lt 1 2 3 1 a b c d (one-lt a h) (two-lt b i) (three-lt c j) (one-lt d k))
    (mixed_byte-lt 1 1 2 3 a b c d (one-lt a h) (one-lt b i) (two-lt c j) (three-lt d k))
    (mixed_byte-lt 3 1 1 2 a b c d (three-lt a h) (one-lt b i) (one-lt c j) (two-lt d k))

length-mixed_column : (a b c d : ℕ) → length (mixed_column a b c d) ≡ 4
unfolding mixed_column
length-mixed_column a b c d = refl

pub mix_columns-block : (s : List ℕ) → IsBlock s → IsBlock (mix_columns s)
unfolding mix_columns
mix_columns-block s b =
    let column : (i : ℕ) → AreOctets (mixed_column (slice_index s i) (slice_index s (i + 1)) (slice_index s (i + 2)) (slice_index s (i + 3))) = λ i. mixed_column-bytes _ _ _ _ (b.bytes i) (b.bytes (i + 1)) (b.bytes (i + 2)) (b.bytes (i + 3)) in
    record {
      length_is = simp (length-append, length-mixed_column) refl;
      bytes = AreOctets-append _ _ (AreOctets-append _ _ (AreOctets-append _ _ (column 0) (column 4)) (column 8)) (column 12);
    }

-- ---- the schedule

cond-has : (P : List ℕ → Type 0) (t : Bool) (x y : List ℕ) → P x → P y → P (cond t x y)
cond-has P true x y p q = p
cond-has P false x y p q = q

round_constant-lt : (n : ℕ) → round_constant n < 256
unfolding round_constant
round_constant-lt zero = omega arith
round_constant-lt (suc n) = two-lt (round_constant n) (round_constant-lt n)

plus_word-bytes : (w : List ℕ) (i a b c d : ℕ) → AreOctets w → a < 256 → b < 256 → c < 256 → d < 256 → AreOctets (plus_word w i a b c d)
plus_word-bytes w i a b c d x h j k l =
    let t = λ (n : ℕ). word_byte w i n in
    AreOctets-four (bit_xor (t 0) a) (bit_xor (t 1) b) (bit_xor (t 2) c) (bit_xor (t 3) d) (xor-lt (t 0) a (x (4 * i + 0)) h) (xor-lt (t 1) b (x (4 * i + 1)) j) (xor-lt (t 2) c (x (4 * i + 2)) k) (xor-lt (t 3) d (x (4 * i + 3)) l)

next_word-bytes : (n : ℕ) (w : List ℕ) (i : ℕ) → AreOctets w → AreOctets (next_word n w i)
unfolding next_word
next_word-bytes n w i x =
    let t = λ (j : ℕ). word_byte w (i - 1) j in
    let u = λ (j : ℕ). substitute (word_byte w (i - 1) j) in
    let h : (j : ℕ) → t j < 256 = λ j. x (4 * (i - 1) + j) in
    let k : (j : ℕ) → u j < 256 = λ j. substitute-lt (t j) (h j) in
    let r = round_constant (i / n - 1) in
    let a = plus_word w (i - n) (bit_xor (u 1) r) (u 2) (u 3) (u 0) in
    let b = plus_word w (i - n) (u 0) (u 1) (u 2) (u 3) in
    let c = plus_word w (i - n) (t 0) (t 1) (t 2) (t 3) in
    cond-has AreOctets (eqb (i % n) 0) a (cond (eqb n 8 && eqb (i % 8) 4) b c)
    (plus_word-bytes w (i - n) (bit_xor (u 1) r) (u 2) (u 3) (u 0) x (xor-lt (u 1) r (k 1) (round_constant-lt (i / n - 1))) (k 2) (k 3) (k 0))
    (cond-has AreOctets (eqb n 8 && eqb (i % 8) 4) b c
    (plus_word-bytes w (i - n) (u 0) (u 1) (u 2) (u 3) x (k 0) (k 1) (k 2) (k 3))
    (plus_word-bytes w (i - n) (t 0) (t 1) (t 2) (t 3) x (h 0) (h 1) (h 2) (h 3)))

pub bytes_of-bytes : (n : ℕ) (s : List ℕ) → AreOctets (bytes_of n s)
bytes_of-bytes n s = AreOctets-bytes_by n (λ i. slice_index s i % 256) (λ i l. omega arith)

pub schedule-bytes : (n : ℕ) (key : List ℕ) (k : ℕ) → AreOctets (schedule n key k)
unfolding schedule
schedule-bytes n key zero = bytes_of-bytes (4 * n) key
schedule-bytes n key (suc k) = AreOctets-append (schedule n key k) (next_word n (schedule n key k) (n + k)) (schedule-bytes n key k) (next_word-bytes n (schedule n key k) (n + k) (schedule-bytes n key k))

pub expanded_key-bytes : (key : List ℕ) → AreOctets (expanded_key key)
unfolding expanded_key
expanded_key-bytes key = schedule-bytes (key_words key) key (3 * key_words key + 28)

-- ---- all rounds

pub block-block : (s : List ℕ) → IsBlock (block s)
block-block s = record { length_is = length-bytes_by 16 (λ i. slice_index s i % 256); bytes = bytes_of-bytes 16 s }

rounds-block : (w : List ℕ) (k : ℕ) (s : List ℕ) → AreOctets w → IsBlock s → IsBlock (rounds w k s)
unfolding rounds
rounds-block w zero s h b = add_round_key-block w 0 s h b
rounds-block w (suc k) s h b = add_round_key-block w (suc k) _ h (mix_columns-block _ (shift_rows-block _ (sub_bytes-block _ (rounds-block w k s h b))))

-- the state behind ShiftRows of the round after k whole ones
abbrev shifted : List ℕ → ℕ → List ℕ → List ℕ
shifted w k s = shift_rows (sub_bytes (rounds w k s))

shifted-block : (w : List ℕ) (k : ℕ) (s : List ℕ) → AreOctets w → IsBlock s → IsBlock (shifted w k s)
shifted-block w k s h b = shift_rows-block _ (sub_bytes-block _ (rounds-block w k s h b))

shifted-back : (w : List ℕ) (k : ℕ) (s : List ℕ) → AreOctets w → IsBlock s → inverse_sub_bytes (inverse_shift_rows (shifted w k s)) ≡ rounds w k s
shifted-back w k s h b =
    ap inverse_sub_bytes (shift_rows-back (sub_bytes (rounds w k s)) (sub_bytes-block _ (rounds-block w k s h b)))
    ∙ sub_bytes-back (rounds w k s) (rounds-block w k s h b)

rounds-back : (w : List ℕ) (k : ℕ) (s : List ℕ) → AreOctets w → IsBlock s → inverse_rounds w k (shifted w k s) ≡ s
unfolding inverse_rounds rounds
rounds-back w zero s h b = ap (add_round_key w 0) (shifted-back w zero s h b) ∙ add_round_key-twice w 0 s b
rounds-back w (suc k) s h b =
    ap (λ x. inverse_rounds w k (inverse_mix_columns (add_round_key w (suc k) x))) (shifted-back w (suc k) s h b)
    ∙ ap (λ x. inverse_rounds w k (inverse_mix_columns x)) (add_round_key-twice w (suc k) (mix_columns (shifted w k s)) (mix_columns-block _ (shifted-block w k s h b)))
    ∙ ap (inverse_rounds w k) (mix_columns-back (shifted w k s) (shifted-block w k s h b))
    ∙ rounds-back w k s h b

pub aes-block : (key s : List ℕ) → IsBlock (aes key s)
unfolding aes cipher
aes-block key s = add_round_key-block (expanded_key key) _ _ (expanded_key-bytes key) (shifted-block (expanded_key key) (key_words key + 5) (block s) (expanded_key-bytes key) (block-block s))

cipher-back : (w : List ℕ) (k : ℕ) (s : List ℕ) → AreOctets w → IsBlock s → inverse_cipher w k (cipher w k s) ≡ s
unfolding inverse_cipher cipher
cipher-back w k s h b = ap (inverse_rounds w k) (add_round_key-twice w (k + 1) (shifted w k s) (shifted-block w k s h b)) ∙ rounds-back w k s h b

pub aes-back : (key s : List ℕ) → inverse_aes key (aes key s) ≡ block s
unfolding inverse_aes aes
aes-back key s =
    let c = aes-block key s in
    ap (inverse_cipher (expanded_key key) (key_words key + 5)) (block-same (aes key s) c.length_is c.bytes)
    ∙ cipher-back (expanded_key key) (key_words key + 5) (block s) (expanded_key-bytes key) (block-block s)

pub blocks_undone : BlocksUndone
blocks_undone key s h l = aes-back key s ∙ block-same s l h
