-- What parts that answer what they were given stand at.
use Rattle.std.specs.Prelude.{ℕ, ◌+◌, nat_lt, if◌then◌else◌}

-- the place behind this one of so many, which stays at the last
abbrev pub place_after : ℕ → ℕ → ℕ
place_after count at = if nat_lt (at + 1) count then at + 1 else at
