-- Lists of four bytes, added and put together.
use Rattle.std.proofs.Common.{[], ◌∷◌, ◌++◌, ◌≡◌, ℕ, List, slice_index, ap, ◌∙◌}
use Rattle.std.specs.Prelude.{bit_xor}

-- the sum of two lists of four bytes
abbrev pub sum_of_four : List ℕ → List ℕ → List ℕ
sum_of_four s t = bit_xor (slice_index s 0) (slice_index t 0) ∷ bit_xor (slice_index s 1) (slice_index t 1) ∷ bit_xor (slice_index s 2) (slice_index t 2) ∷ bit_xor (slice_index s 3) (slice_index t 3) ∷ []

-- four lists, each for one that it equals
pub four-same : (p q r s t u v w : List ℕ) → p ≡ t → q ≡ u → r ≡ v → s ≡ w → p ++ q ++ r ++ s ≡ t ++ u ++ v ++ w
four-same p q r s t u v w e f g h =
    ap (λ x. x ++ q ++ r ++ s) e ∙ ap (λ x. t ++ x ++ r ++ s) f ∙ ap (λ x. t ++ u ++ x ++ s) g ∙ ap (λ x. t ++ u ++ v ++ x) h
