-- The laws of both modes.
use Rattle.std.proofs.Common.{◌++◌, ◌≡◌, ℕ, zero, suc, ◌+◌, ◌-◌, ◌*◌, ◌/◌, ◌%◌, ◌^◌, ◌<◌, ◌≤◌, List, length, take, drop, slice_index, arith, refl, sym, ap, ◌∙◌, subst, append_assoc}
use Rattle.std.specs.Prelude.{bit_xor}
use Rattle.std.proofs.lemmas.List.{get_or-take, get_or-drop, get_or_append_left, length-append, length-drop, length-take-le, take-take, take_at, take-append-drop, take-append-le}
use Rattle.std.proofs.Math.Seq.{drop-append_seam}
use Rattle.std.proofs.lemmas.List.FromFn.{fill_by_all}
use Rattle.ssh_aes.specs.Aes.{bytes_by, block, inverse_aes, inverse_cipher, expanded_key, key_words}
use Rattle.ssh_aes.specs.Modes.{Running, Ctr, Cbc, block_sum, stream_byte, counter_text, chained_block, chained_text, unchained_text, masked_text, unmasked_text, running_past, shortest_text}
use Rattle.ssh_aes.specs.Laws.{AreOctets, RunsWell, OpensWell, StreamsUndone}
use Rattle.ssh_aes.proofs.Polynomials.{xor_cancel}
use Rattle.ssh_aes.proofs.Schedules.{length-bytes_by, bytes_by-at, bytes_by-same, block-same}
use Rattle.ssh_aes.proofs.Written.{sixteen-elements}
use Rattle.ssh_aes.proofs.Inverses.{IsBlock, IsBlock-bytes_by, block-block, aes-block, aes-back, xor-lt}

-- ---- lists by index

pub front-bytes_by : (n : ℕ) (s : List ℕ) → n ≤ length s → take n s ≡ bytes_by n (slice_index s)
front-bytes_by n s h = fill_by_all (slice_index s) (take n s) n 0 (length-take-le n s h) (λ k l. get_or-take n s k 0 l)

pub all-bytes_by : (s : List ℕ) → bytes_by (length s) (slice_index s) ≡ s
all-bytes_by s = sym (fill_by_all (slice_index s) s (length s) 0 refl (λ k l. refl))

pub take-same : (n : ℕ) (s t : List ℕ) → n ≤ length s → n ≤ length t → ((i : ℕ) → i < n → slice_index s i ≡ slice_index t i) → take n s ≡ take n t
take-same n s t h k e = front-bytes_by n s h ∙ bytes_by-same n (slice_index s) (slice_index t) e ∙ sym (front-bytes_by n t k)

-- ---- counter mode

pub length-counter_text : (key iv : List ℕ) (p : ℕ) (t : List ℕ) → length (counter_text key iv p t) ≡ length t
unfolding counter_text
length-counter_text key iv p t = length-bytes_by (length t) (λ i. bit_xor (slice_index t i) (stream_byte key iv ((p + i) % 2 ^ 64)))

pub counter_text-at : (key iv : List ℕ) (p : ℕ) (t : List ℕ) (i : ℕ) → i < length t → slice_index (counter_text key iv p t) i ≡ bit_xor (slice_index t i) (stream_byte key iv ((p + i) % 2 ^ 64))
unfolding counter_text
counter_text-at key iv p t i h = bytes_by-at (length t) (λ j. bit_xor (slice_index t j) (stream_byte key iv ((p + j) % 2 ^ 64))) i h

-- a byte that was encrypted at its place is decrypted there
counter_text-again : (key iv : List ℕ) (p : ℕ) (t y : List ℕ) (i : ℕ) → i < length t → i < length y → slice_index y i ≡ slice_index (counter_text key iv p t) i → slice_index (counter_text key iv p y) i ≡ slice_index t i
counter_text-again key iv p t y i h k e =
    counter_text-at key iv p y i k ∙ ap (λ x. bit_xor x (stream_byte key iv ((p + i) % 2 ^ 64))) (e ∙ counter_text-at key iv p t i h) ∙ xor_cancel (slice_index t i) (stream_byte key iv ((p + i) % 2 ^ 64))

pub counter_text-back : (key iv : List ℕ) (p : ℕ) (t : List ℕ) → counter_text key iv p (counter_text key iv p t) ≡ t
counter_text-back key iv p t =
    let l = length-counter_text key iv p t in
    let m = length-counter_text key iv p (counter_text key iv p t) in
    fill_by_all (slice_index t) (counter_text key iv p (counter_text key iv p t)) (length t) 0 (m ∙ l) (λ i h. counter_text-again key iv p t (counter_text key iv p t) i h (omega arith) refl) ∙ all-bytes_by t

counter_text-front : (key iv : List ℕ) (p : ℕ) (t y : List ℕ) → 4 ≤ length t → 4 ≤ length y → ((i : ℕ) → i < 4 → slice_index y i ≡ slice_index (counter_text key iv p t) i) → take 4 (counter_text key iv p y) ≡ take 4 t
counter_text-front key iv p t y h k e =
    take-same 4 (counter_text key iv p y) t (omega (arith, length-counter_text key iv p y)) h
    (λ i l. counter_text-again key iv p t y i (omega arith) (omega arith) (e i l))

-- ---- chaining mode

pub block_sum-block : (a b : List ℕ) → AreOctets a → AreOctets b → IsBlock (block_sum a b)
block_sum-block a b h k = IsBlock-bytes_by (λ i. bit_xor (slice_index a i) (slice_index b i)) (λ i l. xor-lt (slice_index a i) (slice_index b i) (h i) (k i))

pub block_sum-back : (a b : List ℕ) → length a ≡ 16 → block_sum (block_sum a b) b ≡ a
block_sum-back a b h =
    bytes_by-same 16 (λ i. bit_xor (slice_index (block_sum a b) i) (slice_index b i)) (slice_index a)
    (λ i l. ap (λ x. bit_xor x (slice_index b i)) (bytes_by-at 16 (λ j. bit_xor (slice_index a j) (slice_index b j)) i l) ∙ xor_cancel (slice_index a i) (slice_index b i))
    ∙ sixteen-elements a h

pub block-front : (c x : List ℕ) → length c ≡ 16 → AreOctets c → block (c ++ x) ≡ c
block-front c x l b =
    bytes_by-same 16 (λ i. slice_index (c ++ x) i % 256) (λ i. slice_index c i % 256)
    (λ i h. ap (λ y. y % 256) (get_or_append_left c x 0 i (omega arith))) ∙ block-same c l b

pub block-take : (y : List ℕ) → block (take 16 y) ≡ block y
block-take y = bytes_by-same 16 (λ i. slice_index (take 16 y) i % 256) (λ i. slice_index y i % 256) (λ i h. ap (λ x. x % 256) (get_or-take 16 y i 0 h))

pub take-block : (t : List ℕ) → AreOctets t → 16 ≤ length t → block t ≡ take 16 t
take-block t b h =
    bytes_by-same 16 (λ i. slice_index t i % 256) (slice_index t) (λ i l. let k = b i in let r : slice_index t i % 256 ≡ slice_index t i = omega arith in r)
    ∙ sym (front-bytes_by 16 t h)

-- the inverse reads the first block alone
pub inverse_aes-block : (key y : List ℕ) → inverse_aes key y ≡ inverse_aes key (block y)
unfolding inverse_aes
inverse_aes-block key y =
    let b = block-block y in
    ap (inverse_cipher (expanded_key key) (key_words key + 5)) (sym (block-same (block y) b.length_is b.bytes))

pub chained_block-block : (key last t : List ℕ) → IsBlock (chained_block key last t)
chained_block-block key last t = aes-block key (block_sum (block t) (block last))

-- a text's block from its cipher block
pub plain_block : (key last t y : List ℕ) → block y ≡ chained_block key last t → block_sum (inverse_aes key y) (block last) ≡ block t
plain_block key last t y e =
    let b = block-block t in
    let l = block-block last in
    let s = block_sum-block (block t) (block last) b.bytes l.bytes in
    ap (λ x. block_sum x (block last)) (inverse_aes-block key y ∙ ap (inverse_aes key) e ∙ aes-back key (block_sum (block t) (block last)) ∙ block-same (block_sum (block t) (block last)) s.length_is s.bytes)
    ∙ block_sum-back (block t) (block last) b.length_is

pub length-chained_text : (key last : List ℕ) (n : ℕ) (t : List ℕ) → 16 * n ≤ length t → length (chained_text key last n t) ≡ length t
unfolding chained_text
length-chained_text key last zero t h = refl
length-chained_text key last (suc n) t h =
    let c = chained_block-block key last t in
    length-append (chained_block key last t) (chained_text key (chained_block key last t) n (drop 16 t))
    ∙ omega (arith, c.length_is, length-drop 16 t, length-chained_text key (chained_block key last t) n (drop 16 t) (omega (arith, length-drop 16 t)))

pub AreOctets-drop : (n : ℕ) (t : List ℕ) → AreOctets t → AreOctets (drop n t)
AreOctets-drop n t b i = subst (λ (x : ℕ). x < 256) (sym (get_or-drop n t i 0)) (b (n + i))

chained_text-back : (key last : List ℕ) (n : ℕ) (t : List ℕ) → AreOctets t → 16 * n ≤ length t → unchained_text key last n (chained_text key last n t) ≡ t
unfolding chained_text unchained_text
chained_text-back key last zero t b h = refl
chained_text-back key last (suc n) t b h =
    let c = chained_block key last t in
    let k = chained_block-block key last t in
    let r = chained_text key (chained_block key last t) n (drop 16 t) in
    let p : block_sum (inverse_aes key (c ++ r)) (block last) ≡ take 16 t = plain_block key last t (c ++ r) (block-front c r k.length_is k.bytes) ∙ take-block t b (omega arith) in
    let q : take 16 (c ++ r) ≡ c = take_at c r 16 k.length_is in
    let d : drop 16 (c ++ r) ≡ r = subst (λ (m : ℕ). drop m (c ++ r) ≡ r) k.length_is (drop-append_seam c r) in
    let i : unchained_text key c n r ≡ drop 16 t = chained_text-back key c n (drop 16 t) (AreOctets-drop 16 t b) (omega (arith, length-drop 16 t)) in
    ap (λ x. x ++ unchained_text key (take 16 (c ++ r)) n (drop 16 (c ++ r))) p
    ∙ ap (λ x. take 16 t ++ unchained_text key x n (drop 16 (c ++ r))) q
    ∙ ap (λ x. take 16 t ++ unchained_text key c n x) d
    ∙ ap (λ x. take 16 t ++ x) i
    ∙ take-append-drop 16 t

unchained_text-front : (key last : List ℕ) (m : ℕ) (t y : List ℕ) → AreOctets t → 16 ≤ length t → block y ≡ chained_block key last t → take 4 (unchained_text key last (suc m) y) ≡ take 4 t
unfolding unchained_text
unchained_text-front key last m t y b h e =
    let l = block-block t in
    let p = plain_block key last t y e in
    ap (λ x. take 4 (x ++ unchained_text key (take 16 y) m (drop 16 y))) p
    ∙ take-append-le 4 (block t) (unchained_text key (take 16 y) m (drop 16 y)) (omega (arith, l.length_is))
    ∙ ap (take 4) (take-block t b h)
    ∙ take-take 4 16 t (omega arith)

chained_text-block : (key last : List ℕ) (m : ℕ) (t x : List ℕ) → block (chained_text key last (suc m) t ++ x) ≡ chained_block key last t
unfolding chained_text
chained_text-block key last m t x =
    let c = chained_block-block key last t in
    ap block (append_assoc (chained_block key last t) (chained_text key (chained_block key last t) m (drop 16 t)) x)
    ∙ block-front (chained_block key last t) (chained_text key (chained_block key last t) m (drop 16 t) ++ x) c.length_is c.bytes

-- ---- both

pub length-masked_text : (r : Running) (t : List ℕ) → length (masked_text r t) ≡ length t
length-masked_text (Ctr key iv p) t = length-counter_text key iv p t
length-masked_text (Cbc key last) t = length-chained_text key last (length t / 16) t (omega arith)

pub unmasked_text-masked_text : (r : Running) (t : List ℕ) → AreOctets t → unmasked_text r (masked_text r t) ≡ t
unmasked_text-masked_text (Ctr key iv p) t b = counter_text-back key iv p t
unmasked_text-masked_text (Cbc key last) t b =
    ap (λ n. unchained_text key last (n / 16) (chained_text key last (length t / 16) t)) (length-chained_text key last (length t / 16) t (omega arith))
    ∙ chained_text-back key last (length t / 16) t b (omega arith)

-- the first four bytes of a text, from any bytes that begin with its cipher text
pub shown : (r : Running) (t x : List ℕ) → AreOctets t → shortest_text r ≤ length t → take 4 (unmasked_text r (masked_text r t ++ x)) ≡ take 4 t
shown (Ctr key iv p) t x b h =
    let l = length-counter_text key iv p t in
    let m = length-append (counter_text key iv p t) x in
    counter_text-front key iv p t (counter_text key iv p t ++ x) h (omega arith) (λ i k. get_or_append_left (counter_text key iv p t) x 0 i (omega arith))
shown (Cbc key last) t x b h =
    let n : length t / 16 ≡ suc (length t / 16 - 1) = omega arith in
    let c = chained_text key last (length t / 16) t in
    let l = length-chained_text key last (length t / 16) t (omega arith) in
    let m = length-append c x in
    let k : length (c ++ x) / 16 ≡ suc (length (c ++ x) / 16 - 1) = omega arith in
    ap (λ j. take 4 (unchained_text key last j (c ++ x))) k
    ∙ unchained_text-front key last (length (c ++ x) / 16 - 1) t (c ++ x) b h (ap (λ j. block (chained_text key last j t ++ x)) n ∙ chained_text-block key last (length t / 16 - 1) t x)

pub shown-early : (r : Running) (t x : List ℕ) → AreOctets t → shortest_text r ≤ length t → 16 ≤ length (masked_text r t ++ x) → take 4 (unmasked_text r (take 16 (masked_text r t ++ x))) ≡ take 4 t
shown-early (Ctr key iv p) t x b h g =
    let l = length-counter_text key iv p t in
    let z = counter_text key iv p t ++ x in
    counter_text-front key iv p t (take 16 z) h (omega (arith, length-take-le 16 z g)) (λ i k. get_or-take 16 z i 0 (omega arith) ∙ get_or_append_left (counter_text key iv p t) x 0 i (omega arith))
shown-early (Cbc key last) t x b h g =
    let n : length t / 16 ≡ suc (length t / 16 - 1) = omega arith in
    let z = chained_text key last (length t / 16) t ++ x in
    let k = length-take-le 16 z g in
    ap (λ j. take 4 (unchained_text key last (j / 16) (take 16 z))) k
    ∙ unchained_text-front key last 0 t (take 16 z) b h (block-take z ∙ ap (λ j. block (chained_text key last j t ++ x)) n ∙ chained_text-block key last (length t / 16 - 1) t x)

pub runs_well : (r : Running) → RunsWell r
runs_well r = record {
  same_length = length-masked_text r;
  injective = λ s t b c l e. sym (unmasked_text-masked_text r s b) ∙ ap (unmasked_text r) e ∙ unmasked_text-masked_text r t c;
  front = λ s t x y b c h k e. sym (shown r s x b h) ∙ ap (λ z. take 4 (unmasked_text r z)) e ∙ shown r t y c k;
}

pub opens_well : (r : Running) → OpensWell r
opens_well r = record {
  opens = unmasked_text-masked_text r;
  leaves = λ t. refl;
  early = shown-early r;
}

pub streams_undone : {S : Type 0} (running : S → Running) → StreamsUndone running
streams_undone running s t text e b = record {
  text_is = ap (λ v. unmasked_text v (masked_text (running s) text)) (sym e) ∙ unmasked_text-masked_text (running s) text b;
  state_is = ap (λ v. running_past v (masked_text (running s) text)) (sym e);
}
