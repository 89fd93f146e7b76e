-- The key schedule, word by word, and what reads only its front.
use Rattle.std.proofs.Common.{◌++◌, ◌≡◌, ◌≢◌, ℕ, zero, suc, ◌+◌, ◌-◌, ◌*◌, ◌/◌, ◌%◌, ◌<◌, ◌≤◌, ◌&&◌, inl, inr, true, false, cond, eqb, List, length, take, slice_index, arith, refl, sym, ap, ◌∙◌}
use Rattle.std.specs.Prelude.{bit_xor}
use Rattle.std.proofs.lemmas.Bool.{eq-eqb}
use Rattle.std.proofs.lemmas.Bool.Decides.{nat_tests}
use Rattle.std.proofs.lemmas.List.{get_or-take, length-append, length-take-le, take-take, take_all, take-append-le}
use Rattle.std.proofs.lemmas.List.FromFn.{fill_by_all, length-map-range_with_len, get_or-map-range_with_len}
use Rattle.ssh_aes.specs.Aes.{bytes_by, bytes_of, substitute, round_constant, word_byte, plus_word, next_word, schedule, expanded_key, key_words, add_round_key, cipher, inverse_cipher, aes, inverse_aes}
use Rattle.ssh_aes.specs.Keys.{IsKeyLength, IsExpanded, key_in}
use Rattle.ssh_aes.specs.Laws.{AreOctets}

-- ---- lists by index

pub length-bytes_by : (n : ℕ) (f : ℕ → ℕ) → length (bytes_by n f) ≡ n
length-bytes_by n f = length-map-range_with_len f 0 n

pub bytes_by-at : (n : ℕ) (f : ℕ → ℕ) (i : ℕ) → i < n → slice_index (bytes_by n f) i ≡ f i
bytes_by-at n f i h = get_or-map-range_with_len f 0 n i i 0 h (omega arith)

pub bytes_by-same : (n : ℕ) (f g : ℕ → ℕ) → ((i : ℕ) → i < n → f i ≡ g i) → bytes_by n f ≡ bytes_by n g
bytes_by-same n f g h = fill_by_all g (bytes_by n f) n 0 (length-bytes_by n f) (λ k l. bytes_by-at n f k l ∙ h k l)

pub bytes_of-same : (n : ℕ) (s : List ℕ) → length s ≡ n → AreOctets s → bytes_of n s ≡ s
bytes_of-same n s e h = sym (fill_by_all (λ i. slice_index s i % 256) s n 0 e (λ k l. let b = h k in let r : slice_index s k % 256 ≡ slice_index s k = omega arith in sym r))

-- ---- a word and the words before it

word_byte-take : (w : List ℕ) (n i j : ℕ) → i < n → j < 4 → word_byte (take (4 * n) w) i j ≡ word_byte w i j
word_byte-take w n i j h k = get_or-take (4 * n) w (4 * i + j) 0 (omega arith)

pub next_word-take : (n : ℕ) (w : List ℕ) (i : ℕ) → 0 < n → n ≤ i → next_word n (take (4 * i) w) i ≡ next_word n w i
unfolding next_word
next_word-take n w i h l =
    let a = word_byte-take w i (i - 1) 0 (omega arith) (omega arith) in
    let b = word_byte-take w i (i - 1) 1 (omega arith) (omega arith) in
    let c = word_byte-take w i (i - 1) 2 (omega arith) (omega arith) in
    let d = word_byte-take w i (i - 1) 3 (omega arith) (omega arith) in
    let p = word_byte-take w i (i - n) 0 (omega arith) (omega arith) in
    let q = word_byte-take w i (i - n) 1 (omega arith) (omega arith) in
    let r = word_byte-take w i (i - n) 2 (omega arith) (omega arith) in
    let s = word_byte-take w i (i - n) 3 (omega arith) (omega arith) in
    simp (a, b, c, d, p, q, r, s) refl

pub next_word-first : (n : ℕ) (w : List ℕ) (i : ℕ) → i % n ≡ 0
    → next_word n w i ≡ plus_word w (i - n) (bit_xor (substitute (word_byte w (i - 1) 1)) (round_constant (i / n - 1))) (substitute (word_byte w (i - 1) 2)) (substitute (word_byte w (i - 1) 3)) (substitute (word_byte w (i - 1) 0))
unfolding next_word
next_word-first n w i h = let e = eq-eqb (i % n) 0 h in rw e refl

pub next_word-middle : (n : ℕ) (w : List ℕ) (i : ℕ) → i % n ≢ 0 → n ≡ 8 → i % 8 ≡ 4
    → next_word n w i ≡ plus_word w (i - n) (substitute (word_byte w (i - 1) 0)) (substitute (word_byte w (i - 1) 1)) (substitute (word_byte w (i - 1) 2)) (substitute (word_byte w (i - 1) 3))
unfolding next_word
next_word-middle n w i h e f =
    let a : eqb (i % n) 0 ≡ false = grind (arith, nat_tests) in
    let b = eq-eqb n 8 e in
    let d = eq-eqb (i % 8) 4 f in
    rw (a, b, d) refl

pub next_word-plain : (n : ℕ) (w : List ℕ) (i : ℕ) → i % n ≢ 0 → (n ≡ 8 → i % 8 ≢ 4)
    → next_word n w i ≡ plus_word w (i - n) (word_byte w (i - 1) 0) (word_byte w (i - 1) 1) (word_byte w (i - 1) 2) (word_byte w (i - 1) 3)
unfolding next_word
next_word-plain n w i h e =
    let a : eqb (i % n) 0 ≡ false = grind (arith, nat_tests) in
    let b : (eqb n 8 && eqb (i % 8) 4) ≡ false = grind (arith, nat_tests) in
    rw (a, b) refl

-- the places of the round constants
pub constant_index : (n i : ℕ) → IsKeyLength (4 * n) → i < 4 * (n + 7) → i / n - 1 < 10
constant_index n i (inl a) h = let g : n ≡ 4 = omega arith in rw g (omega (arith, g))
constant_index n i (inr (inl a)) h = let g : n ≡ 6 = omega arith in rw g (omega (arith, g))
constant_index n i (inr (inr a)) h = let g : n ≡ 8 = omega arith in rw g (omega (arith, g))

-- each word has four bytes
pub length-next_word : (n : ℕ) (w : List ℕ) (i : ℕ) → length (next_word n w i) ≡ 4
unfolding next_word
length-next_word n w i =
    elim (eqb (i % n) 0) as (λ t. length (cond t (plus_word w (i - n) (bit_xor (substitute (word_byte w (i - 1) 1)) (round_constant (i / n - 1))) (substitute (word_byte w (i - 1) 2)) (substitute (word_byte w (i - 1) 3)) (substitute (word_byte w (i - 1) 0))) (cond (eqb n 8 && eqb (i % 8) 4) (plus_word w (i - n) (substitute (word_byte w (i - 1) 0)) (substitute (word_byte w (i - 1) 1)) (substitute (word_byte w (i - 1) 2)) (substitute (word_byte w (i - 1) 3))) (plus_word w (i - n) (word_byte w (i - 1) 0) (word_byte w (i - 1) 1) (word_byte w (i - 1) 2) (word_byte w (i - 1) 3)))) ≡ 4) [
      | true ↦ refl
      | false ↦ elim (eqb n 8 && eqb (i % 8) 4) as (λ t. length (cond t (plus_word w (i - n) (substitute (word_byte w (i - 1) 0)) (substitute (word_byte w (i - 1) 1)) (substitute (word_byte w (i - 1) 2)) (substitute (word_byte w (i - 1) 3))) (plus_word w (i - n) (word_byte w (i - 1) 0) (word_byte w (i - 1) 1) (word_byte w (i - 1) 2) (word_byte w (i - 1) 3))) ≡ 4) [ true ↦ refl | false ↦ refl ]
    ]

-- ---- the schedule

-- one word more
pub schedule-more : (n : ℕ) (key : List ℕ) (i : ℕ) (w : List ℕ) → n ≤ i → w ≡ schedule n key (i - n) → w ++ next_word n w i ≡ schedule n key (i + 1 - n)
unfolding schedule
schedule-more n key i w h e =
    let a : i + 1 - n ≡ suc (i - n) = omega arith in
    let b : n + (i - n) ≡ i = omega arith in
    rw (a, b, ← e) refl

pub length-schedule : (n : ℕ) (key : List ℕ) (k : ℕ) → length (schedule n key k) ≡ 4 * (n + k)
unfolding schedule
length-schedule n key zero = length-bytes_by (4 * n) (λ i. slice_index key i % 256) ∙ omega arith
length-schedule n key (suc k) =
    length-append (schedule n key k) (next_word n (schedule n key k) (n + k))
    ∙ omega (arith, length-schedule n key k, length-next_word n (schedule n key k) (n + k))

-- the number of words, from the length
pub key_words-is : (n : ℕ) (key : List ℕ) → IsKeyLength (4 * n) → length key ≡ 4 * n → key_words key ≡ n
key_words-is n key (inl a) e =
    let f : length key ≡ 16 = omega arith in let g : n ≡ 4 = omega arith in rw (f, g) refl
key_words-is n key (inr (inl a)) e =
    let f : length key ≡ 24 = omega arith in let g : n ≡ 6 = omega arith in rw (f, g) refl
key_words-is n key (inr (inr a)) e =
    let f : length key ≡ 32 = omega arith in let g : n ≡ 8 = omega arith in rw (f, g) refl

-- a round key from the front of the schedule
pub add_round_key-take : (w : List ℕ) (n round : ℕ) (s : List ℕ) → 16 * (round + 1) ≤ n → add_round_key (take n w) round s ≡ add_round_key w round s
unfolding add_round_key
add_round_key-take w n round s h =
    bytes_by-same 16 (λ i. bit_xor (slice_index s i) (slice_index (take n w) (16 * round + i))) (λ i. bit_xor (slice_index s i) (slice_index w (16 * round + i)))
    (λ i l. ap (bit_xor (slice_index s i)) (get_or-take n w (16 * round + i) 0 (omega arith)))

-- a block of bytes is itself
pub block-same : (s : List ℕ) → length s ≡ 16 → AreOctets s → bytes_of 16 s ≡ s
block-same s e h = bytes_of-same 16 s e h

at_most : (n : ℕ) {m : ℕ} → IsKeyLength (4 * n) → 32 ≤ m → 4 * n ≤ m
at_most n (inl a) h = omega arith
at_most n (inr (inl a)) h = omega arith
at_most n (inr (inr a)) h = omega arith

-- the number of words of the key at the front of a schedule
pub view_words : (n : ℕ) (keys : List ℕ) → 32 ≤ length keys → IsKeyLength (4 * n) → key_words (take (4 * n) keys) ≡ n
view_words n keys e h = key_words-is n (take (4 * n) keys) h (length-take-le (4 * n) keys (at_most n h e))

-- the number of words of a key of such a length
pub whole_words : (m : ℕ) → IsKeyLength m → 4 * (m / 4) ≡ m
whole_words m (inl a) = omega (arith, a)
whole_words m (inr (inl a)) = omega (arith, a)
whole_words m (inr (inr a)) = omega (arith, a)

pub key_length : (m : ℕ) → IsKeyLength m → IsKeyLength (4 * (m / 4))
key_length m h = rw (whole_words m h) h

pub same_front : (n m : ℕ) (keys key : List ℕ) → n ≤ m → take m keys ≡ key → take n keys ≡ take n key
same_front n m keys key h e = sym (take-take n m keys h) ∙ ap (take n) e

-- the front of a schedule is the key
pub take-schedule : (n : ℕ) (key : List ℕ) (k : ℕ) → length key ≡ 4 * n → AreOctets key → take (4 * n) (schedule n key k) ≡ key
unfolding schedule
take-schedule n key zero e h = ap (take (4 * n)) (bytes_of-same (4 * n) key e h) ∙ take_all (4 * n) key (omega arith)
take-schedule n key (suc k) e h =
    take-append-le (4 * n) (schedule n key k) (next_word n (schedule n key k) (n + k)) (omega (arith, length-schedule n key k))
    ∙ take-schedule n key k e h

-- after the last word the schedule is whole, and it begins with the key
pub expanded-made : (m : ℕ) (key keys : List ℕ) → IsKeyLength m → length key ≡ m → AreOctets key → take (4 * (4 * (m / 4 + 7))) keys ≡ schedule (m / 4) key (4 * (m / 4 + 7) - m / 4) → (take (4 * (m / 4)) keys ≡ key) × (take (16 * (m / 4 + 7)) keys ≡ expanded_key key)
unfolding expanded_key
expanded-made m key keys h e b w =
    let l = whole_words m h in
    let a : length key ≡ 4 * (m / 4) = omega arith in
    let f = same_front (4 * (m / 4)) (4 * (4 * (m / 4 + 7))) keys _ (omega arith) w ∙ take-schedule (m / 4) key (4 * (m / 4 + 7) - m / 4) a b in
    let g : 16 * (m / 4 + 7) ≡ 4 * (4 * (m / 4 + 7)) = omega arith in
    let k : 4 * (m / 4 + 7) - m / 4 ≡ 3 * (m / 4) + 28 = omega arith in
    let x = key_words-is (m / 4) key (key_length m h) a in
    (f, ap (λ z. take z keys) g ∙ w ∙ ap (schedule (m / 4) key) k ∙ ap (λ z. schedule z key (3 * z + 28)) (sym x))

-- the cipher under a schedule is the cipher under its key
pub encrypted : (n : ℕ) (keys key s : List ℕ) → IsExpanded n keys → length keys ≡ 240 → key_in n keys ≡ key → length s ≡ 16 → AreOctets s → cipher (take (16 * (n + 7)) keys) (n + 5) s ≡ aes key s
unfolding aes
encrypted n keys key s x l e m b =
    ap (λ w. cipher w (n + 5) s) (x.keys_are ∙ ap expanded_key e)
    ∙ ap (λ k. cipher (expanded_key key) (k + 5) s) (sym (ap key_words (sym e) ∙ view_words n keys (omega arith) x.length_is))
    ∙ ap (cipher (expanded_key key) (key_words key + 5)) (sym (block-same s m b))

pub decrypted : (n : ℕ) (keys key s : List ℕ) → IsExpanded n keys → length keys ≡ 240 → key_in n keys ≡ key → length s ≡ 16 → AreOctets s → inverse_cipher (take (16 * (n + 7)) keys) (n + 5) s ≡ inverse_aes key s
unfolding inverse_aes
decrypted n keys key s x l e m b =
    ap (λ w. inverse_cipher w (n + 5) s) (x.keys_are ∙ ap expanded_key e)
    ∙ ap (λ k. inverse_cipher (expanded_key key) (k + 5) s) (sym (ap key_words (sym e) ∙ view_words n keys (omega arith) x.length_is))
    ∙ ap (inverse_cipher (expanded_key key) (key_words key + 5)) (sym (block-same s m b))

pub some_words : (m : ℕ) → IsKeyLength m → 0 < m / 4
some_words m (inl a) = omega (arith, a)
some_words m (inr (inl a)) = omega (arith, a)
some_words m (inr (inr a)) = omega (arith, a)
