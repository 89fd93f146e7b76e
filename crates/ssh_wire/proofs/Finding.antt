-- A search of a list by name, one element further.
use Rattle.std.proofs.Common.{◌≡◌, ℕ, suc, ◌+◌, ◌<◌, false, List, ◌∷◌, length, drop, get_or, Some, if◌then◌else◌, sym, ap, ◌∙◌, arith}
use Rattle.std.specs.Prelude.{find}
use Rattle.std.specs.Str.{bytes_eq}
use Rattle.std.proofs.Math.Seq.{drop-cons}

pub find_further : {X : Type 0} (name : X → List ℕ) (xs : List X) (i : ℕ) (d : X) (text s : List ℕ) → i < length xs → text ≡ name (get_or xs i d) → false ≡ bytes_eq text s → find (λ a. bytes_eq (name a) s) (drop (i + 1) xs) ≡ find (λ a. bytes_eq (name a) s) (drop i xs)
find_further {X = X} name xs i d text s h e other =
    let at : drop i xs ≡ get_or xs i d ∷ drop (suc i) xs = drop-cons xs i d h in
    let next : i + 1 ≡ suc i = omega arith in
    let same : drop (i + 1) xs ≡ drop (suc i) xs = ap (λ n. drop n xs) next in
    let test : false ≡ bytes_eq (name (get_or xs i d)) s = other ∙ ap (λ t. bytes_eq t s) e in
    ap (find (λ a. bytes_eq (name a) s)) same
    ∙ (ap (λ t. if t then Some (get_or xs i d) else find (λ a. bytes_eq (name a) s) (drop (suc i) xs)) test
    ∙ ap (find (λ a. bytes_eq (name a) s)) (sym at))
