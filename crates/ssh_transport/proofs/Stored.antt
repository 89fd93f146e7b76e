-- What stands at the front of a list, one element more.
use Rattle.std.proofs.Common.{◌≡◌, ℕ, suc, ◌+◌, ◌<◌, List, [], ◌∷◌, ◌++◌, length, take, get_or, sym, ◌∙◌, ap, arith}
use Rattle.std.proofs.Math.Seq.{take-suc}

pub taken_more : {A : Type 0} (xs : List A) (k : ℕ) (x : A) → x ≡ get_or xs k x → k < length xs
    → take (k + 1) xs ≡ take k xs ++ x ∷ []
taken_more xs k x e l = ap (λ n. take n xs) (let f : k + 1 ≡ suc k = omega arith in f)
    ∙ (take-suc xs k x l ∙ ap (λ y. take k xs ++ y ∷ []) (sym e))
