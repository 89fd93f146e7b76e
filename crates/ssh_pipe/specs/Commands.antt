-- The words that the program is called with.
use Rattle.std.specs.Prelude.{◌≡◌, ◌≤◌, ◌^◌, ◌⊎◌, ℕ, List, [], ◌∷◌, Some, codes}
use Rattle.ssh_wire.specs.declared.side.Side.{Side}
use Rattle.ssh_wire.specs.declared.side.Side.TheVariants.{Client, Server}
use Rattle.ssh_lines.specs.Fields.{number_of}

-- the word that names a side
abbrev pub side_word : Side → List ℕ
side_word Client = codes "client"
side_word Server = codes "server"

-- the greatest byte limit, which holds where none is given: one gigabyte (RFC 4253 section 9)
abbrev pub most_bytes : ℕ
most_bytes = 2 ^ 30

-- a byte limit that can be given
abbrev pub IsLimit : ℕ → Type 0
IsLimit limit = (1 ≤ limit) × (limit ≤ most_bytes)

-- the words name a side, the key's file, and a byte limit, which may be left out
abbrev pub IsPipeCommand : (words : List (List ℕ)) → Side → (file : List ℕ) → (limit : ℕ) → Type 0
IsPipeCommand words side file limit =
    ((words ≡ side_word side ∷ file ∷ []) × (limit ≡ most_bytes))
    ⊎ ((digits : List ℕ) × (words ≡ side_word side ∷ file ∷ digits ∷ []) × (number_of digits ≡ Some limit)
    × IsLimit limit)

-- the words name no command
abbrev pub NamesNoCommand : (words : List (List ℕ)) → Type 0
NamesNoCommand words = (side : Side) (file : List ℕ) (limit : ℕ) → IsPipeCommand words side file limit → ⊥
