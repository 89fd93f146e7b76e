-- What tables of 16 bytes give, each read whole.
use Rattle.std.specs.Prelude.{ℕ, Bool, ◌≡◌, ◌<◌, ◌/◌, ◌%◌, ◌||◌, nat_le, nat_lt, List, length, bit_xor, slice_index, if◌then◌else◌, IsTrue}
use Rattle.ssh_aes.specs.declared.vector_tables.TheConstants.{INVERSES, RATIOS}

-- the entry of a table at a place: 0 from 128 on
abbrev pub read_at : List ℕ → ℕ → ℕ
read_at table place = if nat_le 128 place then 0 else slice_index table place

-- a place in a table of 16 entries, or from 128 on
abbrev pub is_place : ℕ → Bool
is_place j = nat_le 128 j || nat_lt j 16

-- 16 places
pub record ArePlaces (places : List ℕ) : Type 0 where
  pub long : length places ≡ 16
  pub each : (i : ℕ) → i < 16 → IsTrue (is_place (slice_index places i))

-- what two tables give for the halves of a byte
unfoldable pub read_halves : List ℕ → List ℕ → ℕ → ℕ
read_halves low high b = bit_xor (read_at low (b % 16)) (read_at high (b / 16))

-- what two tables give at two places
unfoldable pub read_parts : List ℕ → List ℕ → ℕ → ℕ → ℕ
read_parts first second i j = bit_xor (read_at first i) (read_at second j)

-- the two places of a byte's inverse
unfoldable pub first_place : ℕ → ℕ
first_place b =
    bit_xor
    (read_at INVERSES (bit_xor (read_at INVERSES (b / 16)) (read_at RATIOS (b % 16))))
    (bit_xor (b % 16) (b / 16))

unfoldable pub second_place : ℕ → ℕ
second_place b =
    bit_xor
    (read_at INVERSES (bit_xor (read_at INVERSES (bit_xor (b % 16) (b / 16))) (read_at RATIOS (b % 16))))
    (b / 16)

-- what two tables give at the places of a byte's inverse
abbrev pub by_places : List ℕ → List ℕ → ℕ → ℕ
by_places first second b = read_parts first second (first_place b) (second_place b)
