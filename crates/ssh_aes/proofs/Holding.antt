-- What the keys hold, and the substitution of a word.
use Rattle.std.proofs.Common.{[], ◌∷◌, ◌++◌, ◌≡◌, ℕ, ◌+◌, ◌-◌, ◌*◌, ◌<◌, ◌≤◌, inl, inr, true, eqb, List, length, take, drop, replicate, slice_index, arith, refl, sym, ap, ◌∙◌}
use Rattle.std.specs.Prelude.{bit_xor}
use Rattle.std.proofs.lemmas.Bool.{cases_lt, eqb-true}
use Rattle.std.proofs.lemmas.List.{length-append, length-drop, length-take-le, get_or_append_left, get_or-append_right, get_or-take}
use Rattle.std.proofs.lemmas.List.FromFn.{fill_by_all}
use lib.Lanes.{zip2}
use Rattle.ssh_aes.specs.Field.{product_modulo, polynomial_product, remainder}
use Rattle.ssh_aes.specs.Aes.{bytes_by, substitute, times_squares, mixed_byte, unmixed_column, inverse_mix_columns}
use Rattle.ssh_aes.specs.Columns.{round_key, AreUnmixed}
use Rattle.ssh_aes.specs.Laws.{AreOctets}
use Rattle.ssh_aes.proofs.Below.{all_below, all_below-at}
use Rattle.ssh_aes.proofs.Equivalent.{unmixed_byte, unmixed_byte-in, unmixed_all}
use Rattle.ssh_aes.proofs.Schedules.{bytes_by-at, bytes_by-same}
use Rattle.ssh_aes.specs.declared.vector_tables.TheConstants.{ENTERED_LOW, ENTERED_HIGH, LEFT_LOW, LEFT_HIGH, SUBSTITUTED_FIRST, SUBSTITUTED_SECOND, CROSSED_NINE_LOW, CROSSED_NINE_HIGH, CROSSED_ELEVEN_LOW, CROSSED_ELEVEN_HIGH, CROSSED_THIRTEEN_LOW, CROSSED_THIRTEEN_HIGH, CROSSED_FOURTEEN_LOW, CROSSED_FOURTEEN_HIGH}
use Rattle.ssh_aes.specs.Reads.{read_halves, read_parts, first_place, second_place, by_places}
use Rattle.ssh_aes.specs.Held.{key_byte, inverse_byte, key_bytes, inverse_key_bytes, keys_left, inverse_keys_left}
use Rattle.ssh_aes.proofs.Boxes.{entered_is, crossed_nine_is, crossed_eleven_is, crossed_thirteen_is, crossed_fourteen_is}
use Rattle.ssh_aes.proofs.Mixing.{turned, key_row}
use Rattle.ssh_aes.proofs.Rounding.{keys_left-at, inverse_keys_left-at, parts_are, zip_by, through, next_index, next_by}
use Rattle.ssh_aes.proofs.Sixteens.{sixteen-list}

-- ---- a list that is written, 16 bytes after 16

-- up to i, g of the list is f
pub record IsHeld (g f : ℕ → ℕ) (now : List ℕ) (i : ℕ) : Type 0 where
  pub long : length now ≡ 240
  pub done : (k : ℕ) → k < i → g (slice_index now k) ≡ f k

pub IsHeld-none : (g f : ℕ → ℕ) (now : List ℕ) → length now ≡ 240 → IsHeld g f now 0
IsHeld-none g f now h = record { long = h; done = λ k l. absurd (omega arith) }

pub IsHeld-more : (g f : ℕ → ℕ) (now v : List ℕ) (round : ℕ) → round < 15 → length v ≡ 16 → ((j : ℕ) → j < 16 → g (slice_index v j) ≡ f (16 * round + j)) → IsHeld g f now (16 * round)
    → IsHeld g f (take (16 * round) now ++ v ++ drop (16 * round + 16) now) (16 * (round + 1))
IsHeld-more g f now v round h e b w =
    let i = 16 * round in
    let front = take i now in
    let back = drop (i + 16) now in
    let l : length front ≡ i = length-take-le i now (omega (arith, w.long)) in
    let m : length (front ++ v) ≡ i + 16 = length-append front v ∙ omega arith in
    let before : (k : ℕ) → k < i → slice_index (front ++ v ++ back) k ≡ slice_index now k = λ k h.
    get_or_append_left (front ++ v) back 0 k (omega arith) ∙ get_or_append_left front v 0 k (omega arith) ∙ get_or-take i now k 0 h in
    let inside : (k : ℕ) → i ≤ k → k < i + 16 → g (slice_index (front ++ v ++ back) k) ≡ f k = λ k h l2.
    let j : i + (k - i) ≡ k = omega arith in
    ap g (get_or_append_left (front ++ v) back 0 k (omega arith) ∙ get_or-append_right front v i k 0 l h) ∙ b (k - i) (omega arith) ∙ ap f j in
    record {
      long = length-append (front ++ v) back ∙ omega (arith, length-drop (i + 16) now, w.long);
      done = λ k h2. elim (cases_lt k i) [ inl l2 ↦ ap g (before k l2) ∙ w.done k l2 | inr l2 ↦ inside k l2 (omega arith) ];
    }

-- ---- the keys of encryption

pub held_key_is : (keys k r : List ℕ) (round : ℕ) → AreOctets keys → k ≡ round_key keys round → r ≡ bytes_by 16 (λ i. read_halves ENTERED_LOW ENTERED_HIGH (slice_index k i)) → key_bytes r ≡ round_key keys round
held_key_is keys k r round o ek er =
    ap key_bytes (er ∙ ap (λ z. bytes_by 16 (λ i. read_halves ENTERED_LOW ENTERED_HIGH (slice_index z i))) ek)
    ∙ bytes_by-same 16 (λ i. key_byte (read_halves ENTERED_LOW ENTERED_HIGH (slice_index keys (16 * round + i)))) (λ i. slice_index keys (16 * round + i)) (λ i h. (entered_is (slice_index keys (16 * round + i)) (o (16 * round + i))).is)

-- a byte of a key that stands for the key of a round
pub key_bytes-at : (r w : List ℕ) (round j : ℕ) → key_bytes r ≡ round_key w round → j < 16 → key_byte (slice_index r j) ≡ slice_index w (16 * round + j)
key_bytes-at r w round j e h =
    sym (bytes_by-at 16 (λ i. key_byte (slice_index r i)) j h) ∙ ap (λ z. slice_index z j) e ∙ bytes_by-at 16 (λ i. slice_index w (16 * round + i)) j h

pub held_all : (keys now : List ℕ) → length keys ≡ 240 → IsHeld key_byte (slice_index keys) now 240 → keys_left now ≡ keys
unfolding keys_left
held_all keys now h w =
    bytes_by-same 240 (λ i. key_byte (slice_index now i)) (slice_index keys) w.done
    ∙ sym (fill_by_all (slice_index keys) keys 240 0 h (λ k l. refl))

-- ---- the keys of decryption

pub inverse_key_bytes-at : (r w : List ℕ) (round j : ℕ) → inverse_key_bytes r ≡ inverse_mix_columns (round_key w round) → j < 16 → inverse_byte (slice_index r j) ≡ unmixed_byte w (16 * round + j)
inverse_key_bytes-at r w round j e h =
    sym (bytes_by-at 16 (λ i. inverse_byte (slice_index r i)) j h) ∙ ap (λ z. slice_index z j) e ∙ unmixed_byte-in w round j h

pub unmixed_held : (w now : List ℕ) → IsHeld inverse_byte (unmixed_byte w) now 240 → AreUnmixed 15 w (inverse_keys_left now)
unmixed_held w now h = unmixed_all 15 w (inverse_keys_left now) (λ k l. inverse_keys_left-at now k l ∙ h.done k l)

-- the sum of a row
abbrev key_summed : (x0 x1 x2 x3 : ℕ) → ℕ
key_summed x0 x1 x2 x3 = bit_xor (bit_xor (bit_xor (read_halves CROSSED_NINE_LOW CROSSED_NINE_HIGH x3) (read_halves CROSSED_THIRTEEN_LOW CROSSED_THIRTEEN_HIGH x2)) (read_halves CROSSED_ELEVEN_LOW CROSSED_ELEVEN_HIGH x1)) (read_halves CROSSED_FOURTEEN_LOW CROSSED_FOURTEEN_HIGH x0)

key_row0 : (x0 x1 x2 x3 : ℕ) → x0 < 256 → x1 < 256 → x2 < 256 → x3 < 256 → inverse_byte (key_summed x0 x1 x2 x3) ≡ mixed_byte 14 11 13 9 (key_byte x0) (key_byte x1) (key_byte x2) (key_byte x3)
key_row0 x0 x1 x2 x3 h0 h1 h2 h3 = key_row _ _ _ _ x0 x1 x2 x3 (crossed_nine_is x3 h3) (crossed_thirteen_is x2 h2) (crossed_eleven_is x1 h1) (crossed_fourteen_is x0 h0)

key_row1 : (x0 x1 x2 x3 : ℕ) → x0 < 256 → x1 < 256 → x2 < 256 → x3 < 256 → inverse_byte (key_summed x1 x2 x3 x0) ≡ mixed_byte 9 14 11 13 (key_byte x0) (key_byte x1) (key_byte x2) (key_byte x3)
key_row1 x0 x1 x2 x3 h0 h1 h2 h3 = key_row0 x1 x2 x3 x0 h1 h2 h3 h0 ∙ sym (turned 9 14 11 13 (key_byte x0) (key_byte x1) (key_byte x2) (key_byte x3))

key_row2 : (x0 x1 x2 x3 : ℕ) → x0 < 256 → x1 < 256 → x2 < 256 → x3 < 256 → inverse_byte (key_summed x2 x3 x0 x1) ≡ mixed_byte 13 9 14 11 (key_byte x0) (key_byte x1) (key_byte x2) (key_byte x3)
key_row2 x0 x1 x2 x3 h0 h1 h2 h3 = key_row1 x1 x2 x3 x0 h1 h2 h3 h0 ∙ sym (turned 13 9 14 11 (key_byte x0) (key_byte x1) (key_byte x2) (key_byte x3))

key_row3 : (x0 x1 x2 x3 : ℕ) → x0 < 256 → x1 < 256 → x2 < 256 → x3 < 256 → inverse_byte (key_summed x3 x0 x1 x2) ≡ mixed_byte 11 13 9 14 (key_byte x0) (key_byte x1) (key_byte x2) (key_byte x3)
key_row3 x0 x1 x2 x3 h0 h1 h2 h3 = key_row2 x1 x2 x3 x0 h1 h2 h3 h0 ∙ sym (turned 11 13 9 14 (key_byte x0) (key_byte x1) (key_byte x2) (key_byte x3))

key_rows : (b : ℕ → ℕ) → ((i : ℕ) → b i < 256)
    → bytes_by 16 (λ i. inverse_byte (key_summed (b i) (b (next_index i)) (b (next_index (next_index i))) (b (next_index (next_index (next_index i)))))) ≡ inverse_mix_columns (bytes_by 16 (λ i. key_byte (b i)))
unfolding inverse_mix_columns unmixed_column
key_rows b o =
    sixteen-list
    (key_row0 (b 0) (b 1) (b 2) (b 3) (o 0) (o 1) (o 2) (o 3))
    (key_row1 (b 0) (b 1) (b 2) (b 3) (o 0) (o 1) (o 2) (o 3))
    (key_row2 (b 0) (b 1) (b 2) (b 3) (o 0) (o 1) (o 2) (o 3))
    (key_row3 (b 0) (b 1) (b 2) (b 3) (o 0) (o 1) (o 2) (o 3))
    (key_row0 (b 4) (b 5) (b 6) (b 7) (o 4) (o 5) (o 6) (o 7))
    (key_row1 (b 4) (b 5) (b 6) (b 7) (o 4) (o 5) (o 6) (o 7))
    (key_row2 (b 4) (b 5) (b 6) (b 7) (o 4) (o 5) (o 6) (o 7))
    (key_row3 (b 4) (b 5) (b 6) (b 7) (o 4) (o 5) (o 6) (o 7))
    (key_row0 (b 8) (b 9) (b 10) (b 11) (o 8) (o 9) (o 10) (o 11))
    (key_row1 (b 8) (b 9) (b 10) (b 11) (o 8) (o 9) (o 10) (o 11))
    (key_row2 (b 8) (b 9) (b 10) (b 11) (o 8) (o 9) (o 10) (o 11))
    (key_row3 (b 8) (b 9) (b 10) (b 11) (o 8) (o 9) (o 10) (o 11))
    (key_row0 (b 12) (b 13) (b 14) (b 15) (o 12) (o 13) (o 14) (o 15))
    (key_row1 (b 12) (b 13) (b 14) (b 15) (o 12) (o 13) (o 14) (o 15))
    (key_row2 (b 12) (b 13) (b 14) (b 15) (o 12) (o 13) (o 14) (o 15))
    (key_row3 (b 12) (b 13) (b 14) (b 15) (o 12) (o 13) (o 14) (o 15))

pub unmixed_is : (keys k n t e f n1 n2 n3 : List ℕ) (round : ℕ) → round ≤ 14 → AreOctets keys → k ≡ round_key keys round
    → n ≡ bytes_by 16 (λ i. read_halves CROSSED_NINE_LOW CROSSED_NINE_HIGH (slice_index k i)) → t ≡ bytes_by 16 (λ i. read_halves CROSSED_THIRTEEN_LOW CROSSED_THIRTEEN_HIGH (slice_index k i))
    → e ≡ bytes_by 16 (λ i. read_halves CROSSED_ELEVEN_LOW CROSSED_ELEVEN_HIGH (slice_index k i)) → f ≡ bytes_by 16 (λ i. read_halves CROSSED_FOURTEEN_LOW CROSSED_FOURTEEN_HIGH (slice_index k i))
    → n1 ≡ bytes_by 16 (λ i. slice_index n (next_index i)) → n2 ≡ bytes_by 16 (λ i. slice_index (zip2 bit_xor n1 t) (next_index i)) → n3 ≡ bytes_by 16 (λ i. slice_index (zip2 bit_xor n2 e) (next_index i))
    → inverse_key_bytes (zip2 bit_xor n3 f) ≡ inverse_mix_columns (round_key (keys_left keys) round)
unmixed_is keys k n t e f n1 n2 n3 round l o ek en et ee ef e1 e2 e3 =
    let y = round_key keys round in
    let b = λ (i : ℕ). slice_index keys (16 * round + i) in
    let N = λ (i : ℕ). read_halves CROSSED_NINE_LOW CROSSED_NINE_HIGH (b i) in
    let M = λ (i : ℕ). read_halves CROSSED_THIRTEEN_LOW CROSSED_THIRTEEN_HIGH (b i) in
    let E = λ (i : ℕ). read_halves CROSSED_ELEVEN_LOW CROSSED_ELEVEN_HIGH (b i) in
    let F = λ (i : ℕ). read_halves CROSSED_FOURTEEN_LOW CROSSED_FOURTEEN_HIGH (b i) in
    let n0 = through (read_halves CROSSED_NINE_LOW CROSSED_NINE_HIGH) k y n ek en in
    let t0 = through (read_halves CROSSED_THIRTEEN_LOW CROSSED_THIRTEEN_HIGH) k y t ek et in
    let e0 = through (read_halves CROSSED_ELEVEN_LOW CROSSED_ELEVEN_HIGH) k y e ek ee in
    let f0 = through (read_halves CROSSED_FOURTEEN_LOW CROSSED_FOURTEEN_HIGH) k y f ek ef in
    let a1 = next_by N n n1 n0 e1 in
    let b1 = zip_by (λ i. N (next_index i)) M n1 t a1 t0 in
    let B = λ (i : ℕ). bit_xor (N (next_index i)) (M i) in
    let a2 = next_by B (zip2 bit_xor n1 t) n2 b1 e2 in
    let b2 = zip_by (λ i. B (next_index i)) E n2 e a2 e0 in
    let C = λ (i : ℕ). bit_xor (B (next_index i)) (E i) in
    let a3 = next_by C (zip2 bit_xor n2 e) n3 b2 e3 in
    let d = zip_by (λ i. C (next_index i)) F n3 f a3 f0 in
    ap inverse_key_bytes d ∙ key_rows b (λ i. o (16 * round + i))
    ∙ ap inverse_mix_columns (bytes_by-same 16 (λ i. key_byte (b i)) (λ i. slice_index (keys_left keys) (16 * round + i)) (λ i h. sym (keys_left-at keys (16 * round + i) (omega arith))))

-- ---- the substitution of a word

abbrev substituted_byte : ℕ → ℕ
substituted_byte b = bit_xor (read_halves LEFT_LOW LEFT_HIGH (by_places SUBSTITUTED_FIRST SUBSTITUTED_SECOND (read_halves ENTERED_LOW ENTERED_HIGH (bit_xor b 0x63)))) 0x63

-- the first four bytes
abbrev pub four_of : List ℕ → List ℕ
four_of s = slice_index s 0 ∷ slice_index s 1 ∷ slice_index s 2 ∷ slice_index s 3 ∷ []

four-list : {a b c d e f g h : ℕ} → a ≡ e → b ≡ f → c ≡ g → d ≡ h → a ∷ b ∷ c ∷ d ∷ [] ≡ e ∷ f ∷ g ∷ h ∷ []
four-list p q r s = rw (p, q, r, s) refl

substituted_test : all_below 256 (λ b. eqb (substituted_byte b) (substitute b)) ≡ true
unfolding read_halves read_parts first_place second_place substitute times_squares product_modulo polynomial_product remainder
substituted_test = refl

substituted_byte-is : (b : ℕ) → b < 256 → substituted_byte b ≡ substitute b
substituted_byte-is b h = eqb-true _ _ (all_below-at 256 (λ b. eqb (substituted_byte b) (substitute b)) substituted_test b h)

pub substituted_is : (a b c d : ℕ) (v x p q o l : List ℕ) → a < 256 → b < 256 → c < 256 → d < 256
    → v ≡ zip2 bit_xor (a ∷ b ∷ c ∷ d ∷ 0 ∷ 0 ∷ 0 ∷ 0 ∷ 0 ∷ 0 ∷ 0 ∷ 0 ∷ 0 ∷ 0 ∷ 0 ∷ 0 ∷ []) (replicate 16 0x63)
    → x ≡ bytes_by 16 (λ i. read_halves ENTERED_LOW ENTERED_HIGH (slice_index v i)) → p ≡ bytes_by 16 (λ i. first_place (slice_index x i)) → q ≡ bytes_by 16 (λ i. second_place (slice_index x i))
    → o ≡ bytes_by 16 (λ i. read_parts SUBSTITUTED_FIRST SUBSTITUTED_SECOND (slice_index p i) (slice_index q i)) → l ≡ bytes_by 16 (λ i. read_halves LEFT_LOW LEFT_HIGH (slice_index o i))
    → four_of (zip2 bit_xor l (replicate 16 0x63)) ≡ substitute a ∷ substitute b ∷ substitute c ∷ substitute d ∷ []
substituted_is a b c d v x p q o l ha hb hc hd ev ex ep eq eo el =
    let y = zip2 bit_xor (a ∷ b ∷ c ∷ d ∷ 0 ∷ 0 ∷ 0 ∷ 0 ∷ 0 ∷ 0 ∷ 0 ∷ 0 ∷ 0 ∷ 0 ∷ 0 ∷ 0 ∷ []) (replicate 16 0x63) in
    let x1 = through (read_halves ENTERED_LOW ENTERED_HIGH) v y x ev ex in
    let o1 = parts_are SUBSTITUTED_FIRST SUBSTITUTED_SECOND x p q o ep eq eo in
    let o2 = through (by_places SUBSTITUTED_FIRST SUBSTITUTED_SECOND) x (bytes_by 16 (λ i. read_halves ENTERED_LOW ENTERED_HIGH (slice_index y i))) o x1 o1 in
    let l1 = through (read_halves LEFT_LOW LEFT_HIGH) o (bytes_by 16 (λ i. by_places SUBSTITUTED_FIRST SUBSTITUTED_SECOND (read_halves ENTERED_LOW ENTERED_HIGH (slice_index y i)))) l o2 el in
    ap (λ z. four_of (zip2 bit_xor z (replicate 16 0x63))) l1
    ∙ four-list (substituted_byte-is a ha) (substituted_byte-is b hb) (substituted_byte-is c hc) (substituted_byte-is d hd)
