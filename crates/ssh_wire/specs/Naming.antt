-- How a text of names is taken apart, name by name.
use Rattle.std.specs.Prelude.{◌≡◌, ℕ, Bool, true, false, List, [], ◌∷◌, ◌++◌, ◌+◌, length, Option, Some, None, Result, Ok, Err, ◌⊎◌}
use Rattle.std.specs.List.{slice_split}
use denote.Ref.{Bor}
use Rattle.ssh_wire.specs.Forms.{joined_names, string}
use Rattle.ssh_wire.specs.Names.{is_comma, names_of, without_last_comma}
use Rattle.ssh_wire.specs.declared.error.EncodingFault.{EncodingFault}
use Rattle.ssh_wire.specs.declared.error.Error.{Error}
use Rattle.ssh_wire.specs.declared.error.Error.TheVariants.{SshEncoding, Memory}

-- the parts of what stands behind a comma
abbrev pub parts_behind : Option (Bor (List ℕ)) → List (List ℕ)
parts_behind None = []
parts_behind (Some text) = slice_split is_comma text.now

-- how many bytes stand there, with the comma
abbrev pub bytes_behind : Option (Bor (List ℕ)) → ℕ
bytes_behind None = 0
bytes_behind (Some text) = length text.now + 1

-- a name, behind a comma where one is due
abbrev pub behind_comma : Bool → List ℕ → List ℕ
behind_comma true name = 44 ∷ name
behind_comma false name = name

-- a name that has no fault is kept; memory may be wanting
abbrev pub Admits : List ℕ → Option EncodingFault → Result (List ℕ) Error → Type 0
Admits name fault (Ok text) = (fault ≡ None) × (text ≡ name)
Admits name fault (Err e) = (e ≡ Memory) ⊎ ((f : EncodingFault) × (fault ≡ Some f) × (e ≡ SshEncoding f))

-- these names stood at the front as a string, with or without one more comma
abbrev pub Spelled : List (List ℕ) → List ℕ → List ℕ → Type 0
Spelled names bytes rest = (text : List ℕ) × (bytes ≡ string text ++ rest) × (names_of text ≡ Ok names)
    × (joined_names names ≡ without_last_comma text)
