-- Names that are kept to be found fast.
use Rattle.std.specs.Prelude.{◌≡◌, ℕ, Bool, List, Option, Some, None}
use Rattle.std.specs.BTreeSet.{contains_by}
use Rattle.std.specs.Cmp.Lexicographic.{slice_cmp}
use Rattle.std.specs.Ordering.{nat_cmp}
use Rattle.ssh_service.specs.Answers.{has_name}
use Rattle.ssh_service.specs.declared.name_set.NameSet.{NameSet}

-- whether it is one of them
abbrev pub is_in : NameSet → List ℕ → Bool
is_in set name = contains_by (λ k. slice_cmp nat_cmp name k.items) set.names

-- they are these names
abbrev pub AreIn : NameSet → List (List ℕ) → Type 0
AreIn set names = (name : List ℕ) → is_in set name ≡ has_name name names

-- they are these names, where they were taken up at all
abbrev pub AreTaken : Option NameSet → List (List ℕ) → Type 0
AreTaken None names = Unit {0}
AreTaken (Some set) names = AreIn set names
