-- Texts that are appended piece by piece.
use Rattle.std.proofs.Common.{◌≡◌, ℕ, List, [], ◌∷◌, ◌++◌, ap, append-nil, append_assoc}
use Rattle.std.specs.List.{flat_map, join_with_byte}
use Rattle.ssh_lines.specs.Printed.{names_word}

-- a list with commas between: the first, and then each behind a comma
pub join_with_byte-first : (c : ℕ) (x : List ℕ) (xs : List (List ℕ)) → x ++ flat_map (λ name. c ∷ name) xs ≡ join_with_byte c (x ∷ xs)
join_with_byte-first c x [] = append-nil x
join_with_byte-first c x (y ∷ xs) = ap (λ rest. x ++ (c ∷ rest)) (join_with_byte-first c y xs)

pub names_behind : (new mid out first : List ℕ) (others names : List (List ℕ)) → new ≡ mid ++ flat_map (λ name. 44 ∷ name) others → mid ≡ out ++ first → names ≡ first ∷ others → new ≡ out ++ names_word names
names_behind new mid out first others names e m n = rw (e, m, n, append_assoc) (ap (λ t. out ++ t) (join_with_byte-first 44 first others))

pub two_behind : (new mid out a b c d : List ℕ) → new ≡ mid ++ (c ++ d) → mid ≡ out ++ (a ++ b) → new ≡ out ++ (a ++ b ++ c ++ d)
two_behind new mid out a b c d e m = rw (e, m) (simp append_assoc)

pub five_behind : (n4 n3 n2 n1 n0 out a b c d e f : List ℕ) → n4 ≡ n3 ++ f → n3 ≡ n2 ++ e → n2 ≡ n1 ++ d → n1 ≡ n0 ++ c → n0 ≡ out ++ (a ++ b) → n4 ≡ out ++ (a ++ b ++ c ++ d ++ e ++ f)
five_behind n4 n3 n2 n1 n0 out a b c d e f h4 h3 h2 h1 h0 = rw (h4, h3, h2, h1, h0) (simp append_assoc)
