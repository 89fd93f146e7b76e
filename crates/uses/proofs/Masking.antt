-- A mask that is laid on twice is off again.
use Rattle.std.proofs.Common.{◌≡◌, ◌⊎◌, inl, inr, ℕ, ◌≤◌, List, [], ◌∷◌, ◌++◌, length, bit_xor, refl, ap, arith, append_assoc, append-nil, ◌∙◌, sym}
use Rattle.std.specs.Int.Bits.{xor_assoc, xor_self, xor_zero_l}
use Rattle.uses.specs.Encapsulating.{masked}

xor_twice : (x y : ℕ) → bit_xor x (bit_xor x y) ≡ y
xor_twice x y = sym (xor_assoc x x y) ∙ ap (λ (z : ℕ). bit_xor z y) (xor_self x) ∙ xor_zero_l y

pub masked_twice : (xs ys : List ℕ) → length ys ≡ length xs → masked xs (masked xs ys) ≡ ys
unfolding masked
masked_twice [] [] h = refl
masked_twice [] (y ∷ ys) h = absurd (omega arith)
masked_twice (x ∷ xs) [] h = absurd (omega arith)
masked_twice (x ∷ xs) (y ∷ ys) h = rw (xor_twice x y, masked_twice xs ys (omega arith)) refl

pub masked_long : (xs ys : List ℕ) → length ys ≡ length xs → length (masked xs ys) ≡ length ys
unfolding masked
masked_long [] [] h = refl
masked_long [] (y ∷ ys) h = absurd (omega arith)
masked_long (x ∷ xs) [] h = refl
masked_long (x ∷ xs) (y ∷ ys) h = let e : length (masked xs ys) ≡ length ys = masked_long xs ys (omega arith) in omega arith

pub masked_short : (xs ys : List ℕ) → length (masked xs ys) ≤ length ys
unfolding masked
masked_short [] ys = omega arith
masked_short (x ∷ xs) [] = omega arith
masked_short (x ∷ xs) (y ∷ ys) = let e : length (masked xs ys) ≤ length ys = masked_short xs ys in omega arith

-- one byte more
pub masked_more : (done whole ps qs xs ys : List ℕ) (x y : ℕ) → ps ≡ x ∷ xs → qs ≡ y ∷ ys → done ++ masked ps qs ≡ whole
    → (done ++ (bit_xor x y ∷ [])) ++ masked xs ys ≡ whole
unfolding masked
masked_more done whole ps qs xs ys x y p q h =
    append_assoc done (bit_xor x y ∷ []) (masked xs ys) ∙ (ap (λ (z : List ℕ). done ++ z) (sym (step ps qs p q)) ∙ h)
  where
    step : (ps qs : List ℕ) → ps ≡ x ∷ xs → qs ≡ y ∷ ys → masked ps qs ≡ bit_xor x y ∷ masked xs ys
    step ps qs p q = rw (p, q) refl

-- and none
pub masked_end : (done whole ps qs : List ℕ) → (ps ≡ []) ⊎ (qs ≡ []) → done ++ masked ps qs ≡ whole → done ≡ whole
unfolding masked
masked_end done whole ps qs e h = sym (append-nil done) ∙ (ap (λ (z : List ℕ). done ++ z) (sym (none ps qs e)) ∙ h)
  where
    none : (ps qs : List ℕ) → (ps ≡ []) ⊎ (qs ≡ []) → masked ps qs ≡ []
    none [] qs e = refl
    none (p ∷ ps) [] e = refl
    none (p ∷ ps) (q ∷ qs) (inl e) = absurd (grind arith)
    none (p ∷ ps) (q ∷ qs) (inr e) = absurd (grind arith)
