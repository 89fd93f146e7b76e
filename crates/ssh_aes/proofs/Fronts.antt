-- Fronts of masked texts.
use Rattle.std.proofs.Common.{◌++◌, ◌≡◌, ℕ, zero, suc, ◌+◌, ◌*◌, ◌/◌, ◌%◌, ◌^◌, ◌≤◌, inl, inr, List, length, take, drop, slice_index, arith, refl, sym, ap, ◌∙◌, subst}
use Rattle.std.specs.Prelude.{bit_xor}
use Rattle.std.proofs.lemmas.Bool.{cases_lt}
use Rattle.std.proofs.lemmas.List.{get_or-take, length-drop, length-take-le, take_all, drop-take}
use Rattle.std.proofs.Math.Seq.{take-append-add}
use Rattle.ssh_aes.specs.Aes.{bytes_by, block, aes}
use Rattle.ssh_aes.specs.Modes.{Running, Ctr, Cbc, block_sum, stream_byte, counter_text, chained_block, chained_text, masked_text}
use Rattle.ssh_aes.specs.Laws.{FrontsKept}
use Rattle.ssh_aes.proofs.Schedules.{bytes_by-same}
use Rattle.ssh_aes.proofs.Running.{front-bytes_by, length-counter_text, counter_text-at, length-masked_text, chained_block-block}

counter_text-take : (key iv : List ℕ) (p n : ℕ) (t : List ℕ) → n ≤ length t → take n (counter_text key iv p t) ≡ counter_text key iv p (take n t)
unfolding counter_text
counter_text-take key iv p n t h =
    let s = λ (i : ℕ). stream_byte key iv ((p + i) % 2 ^ 64) in
    let f = λ (i : ℕ). bit_xor (slice_index (take n t) i) (s i) in
    front-bytes_by n (counter_text key iv p t) (omega (arith, length-counter_text key iv p t))
    ∙ bytes_by-same n (slice_index (counter_text key iv p t)) f (λ i l. counter_text-at key iv p t i (omega arith) ∙ ap (λ x. bit_xor x (s i)) (sym (get_or-take n t i 0 l)))
    ∙ ap (λ m. bytes_by m f) (sym (length-take-le n t h))

block-longer : (k : ℕ) (t : List ℕ) → block (take (16 + 16 * k) t) ≡ block t
block-longer k t = bytes_by-same 16 (λ i. slice_index (take (16 + 16 * k) t) i % 256) (λ i. slice_index t i % 256) (λ i l. ap (λ x. x % 256) (get_or-take (16 + 16 * k) t i 0 (omega arith)))

chained_text-take : (key last : List ℕ) (k n : ℕ) (t : List ℕ) → k ≤ n → 16 * n ≤ length t → take (16 * k) (chained_text key last n t) ≡ chained_text key last k (take (16 * k) t)
unfolding chained_text
chained_text-take key last zero n t h l = refl
chained_text-take key last (suc k) zero t h l = absurd (omega arith)
chained_text-take key last (suc k) (suc n) t h l =
    let c = chained_block key last t in
    let g = chained_block-block key last t in
    let e : 16 * suc k ≡ 16 + 16 * k = omega arith in
    let b : chained_block key last (take (16 + 16 * k) t) ≡ chained_block key last t = ap (λ x. aes key (block_sum x (block last))) (block-longer k t) in
    ap (λ m. take m (c ++ chained_text key c n (drop 16 t))) e
    ∙ subst (λ (m : ℕ). take (m + 16 * k) (c ++ chained_text key c n (drop 16 t)) ≡ c ++ take (16 * k) (chained_text key c n (drop 16 t))) g.length_is (take-append-add c (chained_text key c n (drop 16 t)) (16 * k))
    ∙ ap (λ x. c ++ x) (chained_text-take key c k n (drop 16 t) (omega arith) (omega (arith, length-drop 16 t)))
    ∙ ap (λ x. c ++ chained_text key c k x) (sym (drop-take 16 (16 * k) t))
    ∙ ap (λ x. x ++ chained_text key x k (drop 16 (take (16 + 16 * k) t))) (sym b)
    ∙ ap (λ m. chained_block key last (take m t) ++ chained_text key (chained_block key last (take m t)) k (drop 16 (take m t))) (sym e)

kept : (r : Running) (k : ℕ) (t : List ℕ) → 16 * k ≤ length t → take (16 * k) (masked_text r t) ≡ masked_text r (take (16 * k) t)
kept (Ctr key iv p) k t h = counter_text-take key iv p (16 * k) t h
kept (Cbc key last) k t h =
    let e : length (take (16 * k) t) / 16 ≡ k = omega (arith, length-take-le (16 * k) t h) in
    chained_text-take key last k (length t / 16) t (omega arith) (omega arith) ∙ ap (λ m. chained_text key last m (take (16 * k) t)) (sym e)

pub fronts_kept : FrontsKept
fronts_kept r k t =
    elim (cases_lt (length t) (16 * k)) [
      | inl h ↦ take_all (16 * k) (masked_text r t) (omega (arith, length-masked_text r t)) ∙ ap (masked_text r) (sym (take_all (16 * k) t (omega arith)))
      | inr h ↦ kept r k t h
    ]
