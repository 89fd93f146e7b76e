-- Bits that are gathered wherever two blocks differ.
use Rattle.std.proofs.Common.{◌≡◌, ℕ, ◌+◌, ◌<◌, ◌≤◌, List, true, take, get_or, length, refl, ap, sym, ◌∙◌, arith, bit_or, bit_xor, eqb}
use Rattle.std.proofs.lemmas.Nat.{le_or_l, le_or_r}
use Rattle.std.proofs.lemmas.List.{take_more_same, take-take, take_all, get_or-take}
use Rattle.std.proofs.lemmas.Bool.{eqb-true, eq-eqb}
use Rattle.std.specs.Int.Bits.{xor_self, xor_zero_l, xor_zero_r, xor_assoc}

-- nothing was gathered exactly where the first i bytes are the same
pub record IsGathered (difference : ℕ) (xs ys : List ℕ) (i : ℕ) : Type 0 where
  pub none : difference ≡ 0 → take i xs ≡ take i ys
  pub same : take i xs ≡ take i ys → difference ≡ 0

same_by_xor : (x y : ℕ) → bit_xor x y ≡ 0 → x ≡ y
same_by_xor x y none =
    (((sym (xor_zero_r x) ∙ ap (λ z. bit_xor x z) (sym (xor_self y))) ∙ sym (xor_assoc x y y)) ∙ ap (λ z. bit_xor z y) none) ∙ xor_zero_l y

nothing_more : (d x y : ℕ) → d ≡ 0 → x ≡ y → bit_or d (bit_xor x y) ≡ 0
nothing_more d x y none same = rw (none, same, xor_self y) refl

same_before : (xs ys : List ℕ) (i : ℕ) → take (i + 1) xs ≡ take (i + 1) ys → take i xs ≡ take i ys
same_before xs ys i same =
    let front = λ (l : List ℕ). take-take i (i + 1) l (omega arith) in
    (sym (front xs) ∙ ap (take i) same) ∙ front ys

same_at : (xs ys : List ℕ) (i : ℕ) → take (i + 1) xs ≡ take (i + 1) ys → get_or xs i 0 ≡ get_or ys i 0
same_at xs ys i same =
    (sym (get_or-take (i + 1) xs i 0 (omega arith)) ∙ ap (λ l. get_or l i 0) same) ∙ get_or-take (i + 1) ys i 0 (omega arith)

pub gathered_more : (d : ℕ) (xs ys : List ℕ) (i : ℕ) → i < length xs → i < length ys → IsGathered d xs ys i →
    IsGathered (bit_or d (bit_xor (get_or xs i 0) (get_or ys i 0))) xs ys (i + 1)
gathered_more d xs ys i within within_other before = record {
  none = λ e. take_more_same xs ys i 0 within within_other (before.none (omega (arith, le_or_l d (bit_xor (get_or xs i 0) (get_or ys i 0)), e)))
      (same_by_xor _ _ (omega (arith, le_or_r d (bit_xor (get_or xs i 0) (get_or ys i 0)), e)));
  same = λ e. nothing_more d _ _ (before.same (same_before xs ys i e)) (same_at xs ys i e);
}

pub gathered_all : (d : ℕ) (xs ys : List ℕ) (i : ℕ) → length xs ≤ i → length ys ≤ i → IsGathered d xs ys i → eqb d 0 ≡ true → ys ≡ xs
gathered_all d xs ys i within within_other all e = sym ((sym (take_all i xs within) ∙ all.none (eqb-true d 0 e)) ∙ take_all i ys within_other)

pub none_gathered : (d : ℕ) (xs ys : List ℕ) (i : ℕ) → IsGathered d xs ys i → ys ≡ xs → eqb d 0 ≡ true
none_gathered d xs ys i all e = eq-eqb d 0 (all.same (ap (take i) (sym e)))
