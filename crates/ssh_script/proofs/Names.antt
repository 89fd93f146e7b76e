-- A list with commas between.
use Rattle.std.proofs.Common.{◌≡◌, ℕ, List, [], ◌∷◌, ◌++◌, ap, append-nil}
use Rattle.std.specs.List.{flat_map, join_with_byte}

-- the first, and then each behind a comma
pub join_with_byte-first : (c : ℕ) (x : List ℕ) (xs : List (List ℕ)) → x ++ flat_map (λ name. c ∷ name) xs ≡ join_with_byte c (x ∷ xs)
join_with_byte-first c x [] = append-nil x
join_with_byte-first c x (y ∷ xs) = ap (λ rest. x ++ (c ∷ rest)) (join_with_byte-first c y xs)
