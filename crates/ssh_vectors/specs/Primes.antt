-- Numbers of so many bits: the first and the last bit set, the others clear.
use Rattle.std.specs.Prelude.{◌≡◌, ℕ, ◌+◌, ◌-◌, ◌^◌, ◌%◌, ◌/◌, ◌≤◌, ◌==◌, nat_le, if◌then◌else◌, List, [], ◌∷◌, ◌++◌, length, replicate, refl}
use Rattle.ssh_kex.specs.declared.group.DhGroup.{DhGroup}
use Rattle.ssh_kex.specs.declared.group.GexParams.{GexParams}

-- so many zero bytes
abbrev pub zeros : ℕ → List ℕ
zeros n = replicate n 0

-- the byte with the first bit
abbrev pub first_byte : ℕ → ℕ
first_byte bits = 2 ^ ((bits - 1) % 8)

-- of one byte both bits, which are one where there is one
abbrev pub one_byte : ℕ → ℕ
one_byte bits = if bits == 1 then 1 else first_byte bits + 1

-- the number of so many bits: no bytes, one byte, or more of them
unfoldable pub prime_of : ℕ → List ℕ
prime_of bits =
    if bits == 0 then []
    else if nat_le bits 8 then one_byte bits ∷ []
    else first_byte bits ∷ (zeros ((bits - 1) / 8 - 1) ++ 1 ∷ [])

-- the bits that are given for sizes: the preferred ones, where none are set
abbrev pub bits_for : ℕ → GexParams → ℕ
bits_for bits sizes = if bits == 0 then sizes.preferred_group_size else bits

-- the group for sizes
abbrev pub group_for : ℕ → GexParams → DhGroup
group_for bits sizes = record { prime = prime_of (bits_for bits sizes); generator = 2 ∷ [] }

primes-example : prime_of 9 ≡ 1 ∷ 1 ∷ []
unfolding prime_of
primes-example = refl

one-example : prime_of 1 ≡ 1 ∷ []
unfolding prime_of
one-example = refl

long-example : length (prime_of 3072) ≡ 384
unfolding prime_of
long-example = refl

-- ---- what a lookup of such groups keeps

-- the group has at most 65536 bytes
pub record IsLawful (bits : ℕ) (sizes : GexParams) : Type 0 where
  pub most : bits_for bits sizes ≤ 524288

-- and its size is within those that are asked
pub record IsObliging (bits : ℕ) (sizes : GexParams) : Type 0 where
  pub lawful : IsLawful bits sizes
  pub least : sizes.min_group_size ≤ bits_for bits sizes
  pub within : bits_for bits sizes ≤ sizes.max_group_size
