-- What the laws of a lookup ask of the group that is found. Proofs alone: they stand here since an `impl` cites none of
-- `proofs/`.
use Rattle.std.proofs.Common.{◌≡◌, ◌≤◌, Bool, true, false, if◌then◌else◌, List, [], ◌∷◌, All, Option, Some, IsSome, refl, arith}
use Rattle.std.proofs.lemmas.Bool.Decides.{nat_tests}
use Rattle.std.proofs.lemmas.List.Elements.{All-head, All-tail}
use Rattle.ssh_kex.specs.Messages.{bit_size}
use Rattle.ssh_kex.specs.declared.group.DhGroup.{DhGroup}
use Rattle.ssh_kex.specs.declared.group.GexParams.{GexParams}
use Rattle.uses.specs.Moduli.{IsLawfulGroup}
use Rattle.uses.specs.Listed.{first_within, group_or_empty, is_within}

-- a group of no bytes is written without zeros
empty_lawful : IsLawfulGroup (record { prime = []; generator = [] })
empty_lawful = record {
  canonical = record { prime = refl; generator = refl };
  prime = omega arith;
  generator = omega arith;
}

pub found_lawful : (sizes : GexParams) (groups : List DhGroup) → All IsLawfulGroup groups
    → IsLawfulGroup (group_or_empty (first_within sizes groups))
found_lawful sizes [] all = empty_lawful
found_lawful sizes (g ∷ groups) all =
    by (is_within sizes g) (found_lawful sizes groups (All-tail IsLawfulGroup g groups all)) where
      by : (b : Bool) → IsLawfulGroup (group_or_empty (first_within sizes groups))
          → IsLawfulGroup (group_or_empty (if b then Some g else first_within sizes groups))
      by true later = All-head IsLawfulGroup g groups all
      by false later = later

pub found_fits : (sizes : GexParams) (groups : List DhGroup) → IsSome (first_within sizes groups)
    → (sizes.min_group_size ≤ bit_size (group_or_empty (first_within sizes groups)).prime)
    × (bit_size (group_or_empty (first_within sizes groups)).prime ≤ sizes.max_group_size)
found_fits sizes [] h = cc
found_fits sizes (g ∷ groups) h = by (is_within sizes g) refl h (found_fits sizes groups) where
  Fitting : Option DhGroup → Type 0
  Fitting o =
      (sizes.min_group_size ≤ bit_size (group_or_empty o).prime)
      × (bit_size (group_or_empty o).prime ≤ sizes.max_group_size)

  by : (b : Bool) → is_within sizes g ≡ b → IsSome (if b then Some g else first_within sizes groups)
      → (IsSome (first_within sizes groups) → Fitting (first_within sizes groups))
      → Fitting (if b then Some g else first_within sizes groups)
  by true e h later = grind (arith, nat_tests)
  by false e h later = later h
