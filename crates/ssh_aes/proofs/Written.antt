-- Loops that write one element after another.
use Rattle.std.proofs.Common.{[], ◌∷◌, ◌++◌, sym, ap, ◌≡◌, ◌≢◌, ℕ, ◌+◌, ◌-◌, ◌<◌, ◌≤◌, inl, inr, List, length, take, drop, set, slice_index, arith, refl, below_more, get_or-set_same, get_or-set_other, ◌∙◌}
use Rattle.std.proofs.lemmas.Bool.{cases_lt}
use Rattle.std.proofs.lemmas.List.{length-append, length-drop, length-take-le, get_or_append_left, get_or-append_right, get_or-take, get_or-drop}
use Rattle.std.proofs.Math.ListN.{length-set}
use Rattle.std.proofs.lemmas.List.FromFn.{fill_by_all}
use Rattle.ssh_aes.specs.Aes.{bytes_by}

-- up to i the list has been written by f, and from i on it is the old one
pub record IsWritten (f : ℕ → ℕ) (now old : List ℕ) (i : ℕ) : Type 0 where
  pub done : (k : ℕ) → k < i → slice_index now k ≡ f k
  pub rest : (k : ℕ) → i ≤ k → slice_index now k ≡ slice_index old k
  pub same_length : length now ≡ length old

pub IsWritten-none : (f : ℕ → ℕ) (old : List ℕ) → IsWritten f old old 0
IsWritten-none f old = record { done = λ k h. absurd (omega arith); rest = λ k h. refl; same_length = refl }

pub IsWritten-more : (f : ℕ → ℕ) (now old : List ℕ) (i v : ℕ) → i < length old → v ≡ f i → IsWritten f now old i → IsWritten f (set now i v) old (i + 1)
IsWritten-more f now old i v h e w =
    let l : i < length now = rw w.same_length h in
    record {
      done = below_more _ _ (λ k l. let ne : k ≢ i = omega arith in rw get_or-set_other (w.done k l)) (rw get_or-set_same e);
      rest = λ k l. let ne : k ≢ i = omega arith in rw get_or-set_other (w.rest k (omega arith));
      same_length = rw length-set w.same_length;
    }

pub IsWritten-all : (f : ℕ → ℕ) (now old : List ℕ) (n : ℕ) → length old ≡ n → IsWritten f now old n → now ≡ bytes_by n f
IsWritten-all f now old n e w = fill_by_all f now n 0 (w.same_length ∙ e) w.done

-- a block of sixteen more
pub IsWritten-block : (f : ℕ → ℕ) (now old v : List ℕ) (i : ℕ) → i + 16 ≤ length old → length v ≡ 16 → ((j : ℕ) → j < 16 → slice_index v j ≡ f (i + j)) → IsWritten f now old i → IsWritten f (take i now ++ v ++ drop (i + 16) now) old (i + 16)
IsWritten-block f now old v i h e b w =
    let front = take i now in
    let back = drop (i + 16) now in
    let l : length front ≡ i = length-take-le i now (omega (arith, w.same_length)) in
    let m : length (front ++ v) ≡ i + 16 = length-append front v ∙ omega arith in
    let before : (k : ℕ) → k < i → slice_index (front ++ v ++ back) k ≡ slice_index now k = λ k h.
    get_or_append_left (front ++ v) back 0 k (omega arith) ∙ get_or_append_left front v 0 k (omega arith) ∙ get_or-take i now k 0 h in
    let inside : (k : ℕ) → i ≤ k → k < i + 16 → slice_index (front ++ v ++ back) k ≡ f k = λ k h g.
    let j : i + (k - i) ≡ k = omega arith in
    get_or_append_left (front ++ v) back 0 k (omega arith) ∙ get_or-append_right front v i k 0 l h ∙ b (k - i) (omega arith) ∙ ap f j in
    let after : (k : ℕ) → i + 16 ≤ k → slice_index (front ++ v ++ back) k ≡ slice_index now k = λ k h.
    let j : i + 16 + (k - (i + 16)) ≡ k = omega arith in
    get_or-append_right (front ++ v) back (i + 16) k 0 m h ∙ get_or-drop (i + 16) now (k - (i + 16)) 0 ∙ ap (slice_index now) j in
    record {
      done = λ k h. elim (cases_lt k i) [ inl g ↦ before k g ∙ w.done k g | inr g ↦ inside k g h ];
      rest = λ k h. after k h ∙ w.rest k (omega arith);
      same_length = length-append (front ++ v) back ∙ omega (arith, length-drop (i + 16) now, w.same_length);
    }

-- a list written out, by its elements
pub four-elements : (s : List ℕ) → length s ≡ 4 → slice_index s 0 ∷ slice_index s 1 ∷ slice_index s 2 ∷ slice_index s 3 ∷ [] ≡ s
four-elements s h = sym (fill_by_all (slice_index s) s 4 0 h (λ k l. refl))

pub sixteen-elements : (s : List ℕ) → length s ≡ 16 → bytes_by 16 (slice_index s) ≡ s
sixteen-elements s h = sym (fill_by_all (slice_index s) s 16 0 h (λ k l. refl))

pub four-fours : (p q r s : List ℕ) → length p ≡ 4 → length q ≡ 4 → length r ≡ 4 → length s ≡ 4
    → slice_index p 0 ∷ slice_index p 1 ∷ slice_index p 2 ∷ slice_index p 3 ∷ slice_index q 0 ∷ slice_index q 1 ∷ slice_index q 2 ∷ slice_index q 3
    ∷ slice_index r 0 ∷ slice_index r 1 ∷ slice_index r 2 ∷ slice_index r 3 ∷ slice_index s 0 ∷ slice_index s 1 ∷ slice_index s 2 ∷ slice_index s 3 ∷ [] ≡ p ++ q ++ r ++ s
four-fours p q r s hp hq hr hs =
    ap (λ x. x ++ (slice_index q 0 ∷ slice_index q 1 ∷ slice_index q 2 ∷ slice_index q 3 ∷ []) ++ (slice_index r 0 ∷ slice_index r 1 ∷ slice_index r 2 ∷ slice_index r 3 ∷ []) ++ (slice_index s 0 ∷ slice_index s 1 ∷ slice_index s 2 ∷ slice_index s 3 ∷ [])) (four-elements p hp)
    ∙ ap (λ x. p ++ x ++ (slice_index r 0 ∷ slice_index r 1 ∷ slice_index r 2 ∷ slice_index r 3 ∷ []) ++ (slice_index s 0 ∷ slice_index s 1 ∷ slice_index s 2 ∷ slice_index s 3 ∷ [])) (four-elements q hq)
    ∙ ap (λ x. p ++ q ++ x ++ (slice_index s 0 ∷ slice_index s 1 ∷ slice_index s 2 ∷ slice_index s 3 ∷ [])) (four-elements r hr)
    ∙ ap (λ x. p ++ q ++ r ++ x) (four-elements s hs)
