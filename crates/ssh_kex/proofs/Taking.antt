-- A text that is hashed piece by piece.
use Rattle.std.proofs.Common.{◌≡◌, ℕ, List, [], ◌++◌, sym, subst, append_assoc, append-nil}
use Rattle.ssh_mac.specs.Hashing.{IsHashing}
use Rattle.ssh_mac.specs.declared.digest.Hasher.{Hasher}
use Rattle.ssh_kex.specs.Hashing.{TakesIn}

-- nothing
pub takes_none : (a : Hasher) → TakesIn a a []
takes_none a kind text h = subst (IsHashing a kind) (sym (append-nil text)) h

-- one piece and what comes behind it
pub takes_both : (a b c : Hasher) (x y : List ℕ) → TakesIn a b x → TakesIn b c y → TakesIn a c (x ++ y)
takes_both a b c x y f g kind text h = subst (IsHashing c kind) (append_assoc text x y) (g kind (text ++ x) (f kind text h))

-- a form of a value that is equal to another
pub takes_form : {X : Type 0} (form : X → List ℕ) (a b : Hasher) (x y : X) → x ≡ y → TakesIn a b (form x) → TakesIn a b (form y)
takes_form form a b x y e f = subst (λ z. TakesIn a b (form z)) e f
