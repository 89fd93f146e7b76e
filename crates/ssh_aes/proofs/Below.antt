-- A test of each number below a bound, which computes.
use Rattle.std.proofs.Common.{◌≡◌, ℕ, zero, suc, ◌<◌, ◌⊎◌, inl, inr, Bool, true, ◌&&◌, arith, sym, subst}
use Rattle.std.proofs.lemmas.Bool.{and_parts}

-- the test holds of each number below n
abbrev pub all_below : ℕ → (ℕ → Bool) → Bool
all_below zero test = true
all_below (suc n) test = test n && all_below n test

same_or_below : (n k : ℕ) → k < suc n → (k ≡ n) ⊎ (k < n)
same_or_below n k h = grind arith

pub all_below-at : (n : ℕ) (test : ℕ → Bool) → all_below n test ≡ true → (k : ℕ) → k < n → test k ≡ true
all_below-at zero test e k h = absurd (omega arith)
all_below-at (suc n) test e k h =
    let P : ℕ → Type 0 = λ j. test j ≡ true in
    let both = and_parts (test n) (all_below n test) e in
    elim (same_or_below n k h) [
      | inl q ↦ subst P (sym q) both.0
      | inr l ↦ all_below-at n test both.1 k l
    ]
