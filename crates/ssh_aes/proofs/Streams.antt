-- A text at a place of the key stream, in parts.
use Rattle.std.proofs.Common.{[], ◌∷◌, ◌++◌, ◌≡◌, ℕ, ◌+◌, ◌-◌, ◌*◌, ◌/◌, ◌%◌, ◌^◌, ◌<◌, ◌≤◌, inl, inr, List, length, take, drop, slice_index, arith, refl, sym, subst, ap, ◌∙◌}
use Rattle.std.specs.Prelude.{bit_xor}
use Rattle.std.specs.Int.{bytes_high_first}
use Rattle.std.proofs.lemmas.Bool.{cases_lt}
use Rattle.std.proofs.lemmas.List.{length-append, get_or_append_left, get_or-append_right, get_or-take, get_or-drop}
use Rattle.std.proofs.lemmas.List.FromFn.{fill_by_all}
use Rattle.ssh_aes.specs.Aes.{aes}
use Rattle.ssh_aes.specs.Gcm.{nonce_block, nonce_stream, gcm_counter_text}
use Rattle.ssh_aes.specs.Laws.{AreOctets}
use Rattle.ssh_aes.specs.Modes.{block_sum, counter_block, stream_block, stream_byte, counter_text}
use Rattle.ssh_aes.proofs.Numbers.{from_high, high_bytes, AreOctets-sixteen}
use Rattle.ssh_aes.proofs.Running.{length-counter_text, counter_text-at}
use Rattle.ssh_aes.proofs.Schedules.{bytes_by-at, bytes_by-same}
use Rattle.ssh_aes.proofs.Written.{IsWritten, IsWritten-block}

-- byte i of a text at a place, combined
abbrev pub masked_byte : (key iv : List ℕ) (place : ℕ) (text : List ℕ) → ℕ → ℕ
masked_byte key iv place text i = bit_xor (slice_index text i) (stream_byte key iv ((place + i) % 2 ^ 64))

-- no bytes
pub counter_text-none : (key iv : List ℕ) (p : ℕ) (t : List ℕ) → length t ≡ 0 → t ≡ counter_text key iv p t
unfolding counter_text
counter_text-none key iv p t e = fill_by_all (masked_byte key iv p t) t (length t) 0 refl (λ k h. absurd (omega arith))

-- two parts, one after another
pub counter_text-joined : (key iv : List ℕ) (p : ℕ) (a b : List ℕ) → counter_text key iv p a ++ counter_text key iv ((p + length a) % 2 ^ 64) b ≡ counter_text key iv p (a ++ b)
unfolding counter_text
counter_text-joined key iv p a b =
    let n = length a in
    let q = (p + n) % 2 ^ 64 in
    let x = counter_text key iv p a in
    let y = counter_text key iv q b in
    let l = length-counter_text key iv p a in
    let m = length-counter_text key iv q b in
    let total = length-append a b in
    let front : (k : ℕ) → k < n → slice_index (x ++ y) k ≡ masked_byte key iv p (a ++ b) k = λ k h.
    get_or_append_left x y 0 k (omega arith) ∙ counter_text-at key iv p a k h
    ∙ ap (λ u. bit_xor u (stream_byte key iv ((p + k) % 2 ^ 64))) (sym (get_or_append_left a b 0 k h)) in
    let back : (k : ℕ) → n ≤ k → k < length (a ++ b) → slice_index (x ++ y) k ≡ masked_byte key iv p (a ++ b) k = λ k g h.
    let e : (q + (k - n)) % 2 ^ 64 ≡ (p + k) % 2 ^ 64 = omega arith in
    get_or-append_right x y n k 0 l g ∙ counter_text-at key iv q b (k - n) (omega arith)
    ∙ ap (λ (j : ℕ). bit_xor (slice_index b (k - n)) (stream_byte key iv j)) e
    ∙ ap (λ u. bit_xor u (stream_byte key iv ((p + k) % 2 ^ 64))) (sym (get_or-append_right a b n k 0 refl g)) in
    fill_by_all (masked_byte key iv p (a ++ b)) (x ++ y) (length (a ++ b)) 0 (length-append x y ∙ omega arith)
    (λ k h. elim (cases_lt k n) [ inl g ↦ front k g | inr g ↦ back k g h ])

-- a whole block at the front of a block
pub masked_block : (key iv : List ℕ) (place k : ℕ) (now old s : List ℕ) (j : ℕ) → j < 16 → place % 16 ≡ 0 → s ≡ stream_block key iv ((place + 16 * k) % 2 ^ 64 / 16) → slice_index now (16 * k + j) ≡ slice_index old (16 * k + j)
    → slice_index (block_sum (take 16 (drop (16 * k) now)) s) j ≡ masked_byte key iv place old (16 * k + j)
masked_block key iv place k now old s j h a e f =
    let t = take 16 (drop (16 * k) now) in
    let n : (place + 16 * k) % 2 ^ 64 / 16 ≡ (place + (16 * k + j)) % 2 ^ 64 / 16 = omega arith in
    let m : j ≡ (place + (16 * k + j)) % 2 ^ 64 % 16 = omega arith in
    bytes_by-at 16 (λ i. bit_xor (slice_index t i) (slice_index s i)) j h
    ∙ ap (λ u. bit_xor u (slice_index s j)) (get_or-take 16 (drop (16 * k) now) j 0 h ∙ get_or-drop (16 * k) now j 0 ∙ f)
    ∙ ap (λ u. bit_xor (slice_index old (16 * k + j)) (slice_index u j)) (e ∙ ap (stream_block key iv) n)
    ∙ ap (λ (i : ℕ). bit_xor (slice_index old (16 * k + j)) (slice_index (stream_block key iv ((place + (16 * k + j)) % 2 ^ 64 / 16)) i)) m

-- one block more
pub block_masked : (key iv : List ℕ) (place k : ℕ) (now old s new : List ℕ) → 16 * k + 16 ≤ length old → place % 16 ≡ 0 → s ≡ stream_block key iv ((place + 16 * k) % 2 ^ 64 / 16)
    → new ≡ take (16 * k) now ++ block_sum (take 16 (drop (16 * k) now)) s ++ drop (16 * k + 16) now → IsWritten (masked_byte key iv place old) now old (16 * k) → IsWritten (masked_byte key iv place old) new old (16 * (k + 1))
block_masked key iv place k now old s new h a e f w =
    let m = block_sum (take 16 (drop (16 * k) now)) s in
    let l : 16 * k + 16 ≡ 16 * (k + 1) = omega arith in
    subst (λ i. IsWritten (masked_byte key iv place old) new old i) l (subst (λ x. IsWritten (masked_byte key iv place old) x old (16 * k + 16)) (sym f)
    (IsWritten-block (masked_byte key iv place old) now old m (16 * k) h refl (λ j g. masked_block key iv place k now old s j g a e (w.rest (16 * k + j) (omega arith))) w))

-- a byte of a part of a block
pub masked_byte-is : (key iv : List ℕ) (place i : ℕ) (now old s : List ℕ) → place < 2 ^ 64 → place % 16 + i < 16 → s ≡ stream_block key iv (place / 16) → slice_index now i ≡ slice_index old i
    → bit_xor (slice_index now i) (slice_index s (place % 16 + i)) ≡ masked_byte key iv place old i
masked_byte-is key iv place i now old s l h e f =
    let n : place / 16 ≡ (place + i) % 2 ^ 64 / 16 = omega arith in
    let m : place % 16 + i ≡ (place + i) % 2 ^ 64 % 16 = omega arith in
    ap (λ u. bit_xor u (slice_index s (place % 16 + i))) f
    ∙ ap (λ u. bit_xor (slice_index old i) (slice_index u (place % 16 + i))) (e ∙ ap (stream_block key iv) n)
    ∙ ap (λ (j : ℕ). bit_xor (slice_index old i) (slice_index (stream_block key iv ((place + i) % 2 ^ 64 / 16)) j)) m

-- a text in two parts, each combined at its place
pub two_parts : (key iv : List ℕ) (p m : ℕ) (a b t x y : List ℕ) → t ≡ a ++ b → length a ≡ m → x ≡ counter_text key iv p a → y ≡ counter_text key iv ((p + m) % 2 ^ 64) b → x ++ y ≡ counter_text key iv p t
two_parts key iv p m a b t x y e l f g =
    ap (λ u. u ++ y) f
    ∙ ap (λ u. counter_text key iv p a ++ u) (g ∙ ap (λ (n : ℕ). counter_text key iv ((p + n) % 2 ^ 64) b) (sym l))
    ∙ counter_text-joined key iv p a b
    ∙ ap (counter_text key iv p) (sym e)

-- ---- the counter blocks of Galois counter mode

counter-sum : (s0 s1 s2 s3 s4 s5 s6 s7 s8 s9 s10 s11 b3 b2 b1 b0 n : ℕ) → s0 < 256 → s1 < 256 → s2 < 256 → s3 < 256 → s4 < 256 → s5 < 256 → s6 < 256 → s7 < 256 → s8 < 256 → s9 < 256 → s10 < 256 → s11 < 256 → b3 < 256 → b2 < 256 → b1 < 256 → b0 < 256 → n ≡ b3 * 16777216 + b2 * 65536 + b1 * 256 + b0
    → (s0 * 1329227995784915872903807060280344576 + s1 * 5192296858534827628530496329220096 + s2 * 20282409603651670423947251286016 + s3 * 79228162514264337593543950336 + s4 * 309485009821345068724781056 + s5 * 1208925819614629174706176 + s6 * 4722366482869645213696 + s7 * 18446744073709551616 + s8 * 72057594037927936 + s9 * 281474976710656 + s10 * 1099511627776 + s11 * 4294967296 + 0 + 0 + 0 + 0 + n) % 340282366920938463463374607431768211456 ≡ from_high 0 (s0 ∷ s1 ∷ s2 ∷ s3 ∷ s4 ∷ s5 ∷ s6 ∷ s7 ∷ s8 ∷ s9 ∷ s10 ∷ s11 ∷ b3 ∷ b2 ∷ b1 ∷ b0 ∷ [])
counter-sum s0 s1 s2 s3 s4 s5 s6 s7 s8 s9 s10 s11 b3 b2 b1 b0 n hs0 hs1 hs2 hs3 hs4 hs5 hs6 hs7 hs8 hs9 hs10 hs11 hb3 hb2 hb1 hb0 e = omega arith

-- the first of them, and a number added to it
pub counter_block-nonce : (nonce : List ℕ) (n : ℕ) → AreOctets nonce → n < 2 ^ 32 → counter_block (nonce_block nonce 0) n ≡ nonce_block nonce n
counter_block-nonce nonce n b h =
    let e : n ≡ (n % 4294967296 / 16777216 % 256) * 16777216 + (n % 4294967296 / 65536 % 256) * 65536 + (n % 4294967296 / 256 % 256) * 256 + (n % 4294967296 % 256) = omega arith in
    let x = counter-sum (slice_index nonce 0) (slice_index nonce 1) (slice_index nonce 2) (slice_index nonce 3) (slice_index nonce 4) (slice_index nonce 5) (slice_index nonce 6) (slice_index nonce 7) (slice_index nonce 8) (slice_index nonce 9) (slice_index nonce 10) (slice_index nonce 11) (n % 4294967296 / 16777216 % 256) (n % 4294967296 / 65536 % 256) (n % 4294967296 / 256 % 256) (n % 4294967296 % 256) n (b 0) (b 1) (b 2) (b 3) (b 4) (b 5) (b 6) (b 7) (b 8) (b 9) (b 10) (b 11) (omega arith) (omega arith) (omega arith) (omega arith) e in
    ap (bytes_high_first 16) x
    ∙ high_bytes 0 (nonce_block nonce n) (AreOctets-sixteen (slice_index nonce 0) (slice_index nonce 1) (slice_index nonce 2) (slice_index nonce 3) (slice_index nonce 4) (slice_index nonce 5) (slice_index nonce 6) (slice_index nonce 7) (slice_index nonce 8) (slice_index nonce 9) (slice_index nonce 10) (slice_index nonce 11) (n % 4294967296 / 16777216 % 256) (n % 4294967296 / 65536 % 256) (n % 4294967296 / 256 % 256) (n % 4294967296 % 256) (b 0) (b 1) (b 2) (b 3) (b 4) (b 5) (b 6) (b 7) (b 8) (b 9) (b 10) (b 11) (omega arith) (omega arith) (omega arith) (omega arith))

-- the text of Galois counter mode is that of counter mode, from counter block 2 on
pub gcm_counted-is : (key nonce t : List ℕ) → AreOctets nonce → length t < 2 ^ 32 → counter_text key (nonce_block nonce 0) 32 t ≡ gcm_counter_text key nonce t
unfolding counter_text gcm_counter_text stream_block nonce_stream
gcm_counted-is key nonce t b h =
    bytes_by-same (length t) (masked_byte key (nonce_block nonce 0) 32 t) (λ i. bit_xor (slice_index t i) (slice_index (nonce_stream key nonce (i / 16 + 2)) (i % 16)))
    (λ i l.
    let e : (32 + i) % 2 ^ 64 / 16 ≡ i / 16 + 2 = omega arith in
    let f : (32 + i) % 2 ^ 64 % 16 ≡ i % 16 = omega arith in
    ap (λ (j : ℕ). bit_xor (slice_index t i) (slice_index (stream_block key (nonce_block nonce 0) j) ((32 + i) % 2 ^ 64 % 16))) e
    ∙ ap (λ (j : ℕ). bit_xor (slice_index t i) (slice_index (stream_block key (nonce_block nonce 0) (i / 16 + 2)) j)) f
    ∙ ap (λ u. bit_xor (slice_index t i) (slice_index (aes key u) (i % 16))) (counter_block-nonce nonce (i / 16 + 2) b (omega arith)))
