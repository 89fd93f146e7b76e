-- The names that are left of a list, one after the other.
use Rattle.std.proofs.Common.{List, [], ◌++◌, Option, Some, None, Bor, ℕ}
use Rattle.ssh_lines.specs.Lines.{pieces}

-- names so far, before those of the pieces that are left
abbrev pub onto_names : {X : Type 0} → List X → Option (List X) → Option (List X)
onto_names front None = None
onto_names front (Some names) = Some (front ++ names)

abbrev pub names_left : Option (Bor (List ℕ)) → List (List ℕ)
names_left None = []
names_left (Some rest) = pieces 44 rest.now
