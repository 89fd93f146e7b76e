-- Seeds of generators.
use Rattle.std.specs.Prelude.{◌++◌, ℕ, List, replicate}
use Rattle.std.specs.Int.{w64, to_le_bytes}

-- the seed that a number stands for: its 8 bytes, the least significant first, and 24 zero bytes
abbrev pub seed_of : ℕ → List ℕ
seed_of seed = to_le_bytes w64 seed ++ replicate 24 0
