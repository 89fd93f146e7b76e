-- Which group of RFC 3526 a lookup answers (RFC 4419 section 3).
use Rattle.std.specs.Prelude.{ℕ, ◌≤◌, nat_le, nat_lt, ◌||◌, if◌then◌else◌, List, [], ◌∷◌}
use Rattle.ssh_kex.specs.declared.group.DhGroup.{DhGroup}
use Rattle.ssh_kex.specs.declared.group.GexParams.{GexParams}
use Rattle.ssh_modp.specs.Primes.{prime_14, prime_15, prime_16}

-- The bits of the prime that is chosen: the fewest from the preferred size on, but no more than the most allows where a
-- smaller prime is there.
abbrev pub prime_bits : GexParams → ℕ
prime_bits sizes =
    if nat_le sizes.preferred_group_size 2048 || nat_lt sizes.max_group_size 3072 then 2048
    else if nat_le sizes.preferred_group_size 3072 || nat_lt sizes.max_group_size 4096 then 3072
    else 4096

-- the prime of these bits
abbrev pub prime_for : GexParams → List ℕ
prime_for sizes =
    if nat_le sizes.preferred_group_size 2048 || nat_lt sizes.max_group_size 3072 then prime_14
    else if nat_le sizes.preferred_group_size 3072 || nat_lt sizes.max_group_size 4096 then prime_15
    else prime_16

-- the group, with 2 as its generator
abbrev pub modp_group : GexParams → DhGroup
modp_group sizes = record { prime = prime_for sizes; generator = 2 ∷ [] }

-- the sizes allow it
pub record AllowsGroup (sizes : GexParams) : Type 0 where
  pub least : sizes.min_group_size ≤ prime_bits sizes
  pub most : prime_bits sizes ≤ sizes.max_group_size
