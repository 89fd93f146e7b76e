-- A group that a lookup of a list finds is one of the list.
use Rattle.std.proofs.Common.{suc, Bool, true, false, if◌then◌else◌, List, [], ◌∷◌, Contains, Some, IsSome, refl, arith}
use Rattle.ssh_kex.specs.declared.group.DhGroup.{DhGroup}
use Rattle.ssh_kex.specs.declared.group.GexParams.{GexParams}
use Rattle.uses.specs.Listed.{first_within, group_or_empty, is_within}

-- what a list contains stays when something is put before it
later : (g : DhGroup) (groups : List DhGroup) (x : DhGroup) → Contains groups x → Contains (g ∷ groups) x
later g groups x (k, below, here) = (suc k, omega arith, here)

pub found_listed : (sizes : GexParams) (groups : List DhGroup) → IsSome (first_within sizes groups)
    → Contains groups (group_or_empty (first_within sizes groups))
found_listed sizes [] h = cc
found_listed sizes (g ∷ groups) h = by (is_within sizes g) h (λ e. later g groups _ (found_listed sizes groups e)) where
  by : (b : Bool) → IsSome (if b then Some g else first_within sizes groups)
      → (IsSome (first_within sizes groups) → Contains (g ∷ groups) (group_or_empty (first_within sizes groups)))
      → Contains (g ∷ groups) (group_or_empty (if b then Some g else first_within sizes groups))
  by true e f = (0, omega arith, refl)
  by false e f = f e
