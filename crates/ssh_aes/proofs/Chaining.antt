-- A text in chaining mode, block by block in place.
use Rattle.std.proofs.Common.{◌++◌, ◌≡◌, ℕ, zero, suc, ◌+◌, ◌-◌, ◌*◌, ◌<◌, ◌≤◌, List, length, take, drop, arith, refl, sym, ap, ◌∙◌, subst, append_assoc}
use Rattle.std.proofs.lemmas.List.{length-append, length-take-le, take_at, take-append-drop, drop-drop}
use Rattle.std.proofs.Math.Seq.{drop-append_seam}
use Rattle.ssh_aes.specs.Aes.{block, inverse_aes}
use Rattle.ssh_aes.specs.Modes.{block_sum, chained_block, chained_text, unchained_text, last_block}
use Rattle.ssh_aes.proofs.Running.{chained_block-block, inverse_aes-block, block-take}

-- a list with a block in place of what stood at a place
abbrev pub put_in : ℕ → List ℕ → List ℕ → List ℕ
put_in at b c = take at b ++ c ++ drop (at + 16) b

take-put_in : (at : ℕ) (b c : List ℕ) → length c ≡ 16 → at + 16 ≤ length b → take (at + 16) (put_in at b c) ≡ take at b ++ c
take-put_in at b c e h =
    take_at (take at b ++ c) (drop (at + 16) b) (at + 16) (length-append (take at b) c ∙ omega (arith, length-take-le at b (omega arith)))

drop-put_in : (at : ℕ) (b c : List ℕ) → length c ≡ 16 → at + 16 ≤ length b → drop (at + 16) (put_in at b c) ≡ drop (at + 16) b
drop-put_in at b c e h =
    let l : length (take at b ++ c) ≡ at + 16 = length-append (take at b) c ∙ omega (arith, length-take-le at b (omega arith)) in
    subst (λ (m : ℕ). drop m (put_in at b c) ≡ drop (at + 16) b) l (drop-append_seam (take at b ++ c) (drop (at + 16) b))

block-put_in : (at : ℕ) (b c : List ℕ) → length c ≡ 16 → at + 16 ≤ length b → take 16 (drop at (put_in at b c)) ≡ c
block-put_in at b c e h =
    let l = length-take-le at b (omega arith) in
    let d : drop at (put_in at b c) ≡ c ++ drop (at + 16) b = ap (drop at) (append_assoc (take at b) c (drop (at + 16) b)) ∙ subst (λ (m : ℕ). drop m (take at b ++ (c ++ drop (at + 16) b)) ≡ c ++ drop (at + 16) b) l (drop-append_seam (take at b) (c ++ drop (at + 16) b)) in
    ap (take 16) d ∙ take_at c (drop (at + 16) b) 16 e

next_place : (k : ℕ) → 16 * (k + 1) ≡ 16 * k + 16
next_place k = omega arith

-- one block more is encrypted
pub chained_text-more : (key last : List ℕ) (b c total : List ℕ) (k n : ℕ) → k < n → 16 * n ≤ length b → c ≡ chained_block key last (drop (16 * k) b)
    → take (16 * k) b ++ chained_text key last (n - k) (drop (16 * k) b) ≡ total
    → take (16 * (k + 1)) (put_in (16 * k) b c) ++ chained_text key c (n - (k + 1)) (drop (16 * (k + 1)) (put_in (16 * k) b c)) ≡ total
unfolding chained_text
chained_text-more key last b c total k n h l e i =
    let g = chained_block-block key last (drop (16 * k) b) in
    let m : length c ≡ 16 = ap length e ∙ g.length_is in
    let f : n - k ≡ suc (n - (k + 1)) = omega arith in
    let t = take-put_in (16 * k) b c m (omega arith) in
    let d = drop-put_in (16 * k) b c m (omega arith) in
    let P = chained_text key c (n - (k + 1)) in
    ap (λ j. take j (put_in (16 * k) b c) ++ P (drop j (put_in (16 * k) b c))) (next_place k)
    ∙ ap (λ x. x ++ P (drop (16 * k + 16) (put_in (16 * k) b c))) t
    ∙ ap (λ x. (take (16 * k) b ++ c) ++ P x) d
    ∙ append_assoc (take (16 * k) b) c (P (drop (16 * k + 16) b))
    ∙ ap (λ x. take (16 * k) b ++ (c ++ P x)) (sym (drop-drop 16 (16 * k) b))
    ∙ ap (λ x. take (16 * k) b ++ (x ++ chained_text key x (n - (k + 1)) (drop 16 (drop (16 * k) b)))) e
    ∙ ap (λ j. take (16 * k) b ++ chained_text key last j (drop (16 * k) b)) (sym f)
    ∙ i

last_block-suc : (last : List ℕ) (k : ℕ) (t : List ℕ) → last_block last (suc k) t ≡ take 16 (drop (16 * k) t)
unfolding last_block
last_block-suc last zero t = refl
last_block-suc last (suc k) t =
    last_block-suc (take 16 t) k (drop 16 t) ∙ ap (take 16) (drop-drop (16 * k) 16 t) ∙ ap (λ j. take 16 (drop j t)) (let e : 16 + 16 * k ≡ 16 * suc k = omega arith in e)

-- and it is the last
pub last_block-more : (last : List ℕ) (k : ℕ) (b c : List ℕ) → length c ≡ 16 → 16 * k + 16 ≤ length b → c ≡ last_block last (k + 1) (put_in (16 * k) b c)
last_block-more last k b c e h =
    sym (ap (λ j. last_block last j (put_in (16 * k) b c)) (let f : k + 1 ≡ suc k = omega arith in f) ∙ last_block-suc last k (put_in (16 * k) b c) ∙ block-put_in (16 * k) b c e h)

-- a block decrypted, from the first 16 bytes alone
pub inverse_aes-take : (key d : List ℕ) → inverse_aes key (take 16 d) ≡ inverse_aes key d
inverse_aes-take key d = inverse_aes-block key (take 16 d) ∙ ap (inverse_aes key) (block-take d) ∙ sym (inverse_aes-block key d)

-- one block more is decrypted
pub unchained_text-more : (key last : List ℕ) (b c p total : List ℕ) (k n : ℕ) → k < n → 16 * n ≤ length b → length p ≡ 16 → p ≡ block_sum (inverse_aes key (drop (16 * k) b)) (block last) → c ≡ take 16 (drop (16 * k) b)
    → take (16 * k) b ++ unchained_text key last (n - k) (drop (16 * k) b) ≡ total
    → take (16 * (k + 1)) (put_in (16 * k) b p) ++ unchained_text key c (n - (k + 1)) (drop (16 * (k + 1)) (put_in (16 * k) b p)) ≡ total
unfolding unchained_text
unchained_text-more key last b c p total k n h l m e g i =
    let f : n - k ≡ suc (n - (k + 1)) = omega arith in
    let t = take-put_in (16 * k) b p m (omega arith) in
    let d = drop-put_in (16 * k) b p m (omega arith) in
    let P = unchained_text key c (n - (k + 1)) in
    ap (λ j. take j (put_in (16 * k) b p) ++ P (drop j (put_in (16 * k) b p))) (next_place k)
    ∙ ap (λ x. x ++ P (drop (16 * k + 16) (put_in (16 * k) b p))) t
    ∙ ap (λ x. (take (16 * k) b ++ p) ++ P x) d
    ∙ append_assoc (take (16 * k) b) p (P (drop (16 * k + 16) b))
    ∙ ap (λ x. take (16 * k) b ++ (p ++ P x)) (sym (drop-drop 16 (16 * k) b))
    ∙ ap (λ x. take (16 * k) b ++ (x ++ P (drop 16 (drop (16 * k) b)))) e
    ∙ ap (λ x. take (16 * k) b ++ (block_sum (inverse_aes key (drop (16 * k) b)) (block last) ++ unchained_text key x (n - (k + 1)) (drop 16 (drop (16 * k) b)))) g
    ∙ ap (λ j. take (16 * k) b ++ unchained_text key last j (drop (16 * k) b)) (sym f)
    ∙ i

-- and the cipher block is the last so far
pub last_block-rest : (last : List ℕ) (b c p total : List ℕ) (k n : ℕ) → k < n → 16 * n ≤ length b → length p ≡ 16 → c ≡ take 16 (drop (16 * k) b)
    → last_block last (n - k) (drop (16 * k) b) ≡ total
    → last_block c (n - (k + 1)) (drop (16 * (k + 1)) (put_in (16 * k) b p)) ≡ total
unfolding last_block
last_block-rest last b c p total k n h l m g i =
    let f : n - k ≡ suc (n - (k + 1)) = omega arith in
    let d = drop-put_in (16 * k) b p m (omega arith) in
    ap (λ j. last_block c (n - (k + 1)) (drop j (put_in (16 * k) b p))) (next_place k)
    ∙ ap (last_block c (n - (k + 1))) (d ∙ sym (drop-drop 16 (16 * k) b))
    ∙ ap (λ x. last_block x (n - (k + 1)) (drop 16 (drop (16 * k) b))) g
    ∙ ap (λ j. last_block last j (drop (16 * k) b)) (sym f)
    ∙ i

-- with no block left the text is done
pub chained_text-done : (key last : List ℕ) (b total : List ℕ) (k n : ℕ) → n ≤ k → take (16 * k) b ++ chained_text key last (n - k) (drop (16 * k) b) ≡ total → b ≡ total
unfolding chained_text
chained_text-done key last b total k n h i =
    let f : n - k ≡ 0 = omega arith in
    sym (take-append-drop (16 * k) b) ∙ ap (λ j. take (16 * k) b ++ chained_text key last j (drop (16 * k) b)) (sym f) ∙ i

pub unchained_text-done : (key last : List ℕ) (b total : List ℕ) (k n : ℕ) → n ≤ k → take (16 * k) b ++ unchained_text key last (n - k) (drop (16 * k) b) ≡ total → b ≡ total
unfolding unchained_text
unchained_text-done key last b total k n h i =
    let f : n - k ≡ 0 = omega arith in
    sym (take-append-drop (16 * k) b) ∙ ap (λ j. take (16 * k) b ++ unchained_text key last j (drop (16 * k) b)) (sym f) ∙ i

pub last_block-done : (last : List ℕ) (t total : List ℕ) (k n : ℕ) → n ≤ k → last_block last (n - k) t ≡ total → last ≡ total
unfolding last_block
last_block-done last t total k n h i = let f : n - k ≡ 0 = omega arith in ap (λ j. last_block last j t) (sym f) ∙ i
