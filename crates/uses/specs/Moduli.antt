-- What a lookup says of the groups that it knows (RFC 4419 section 3).
use Rattle.std.specs.Prelude.{◌≤◌}
use Rattle.ssh_kex.specs.Messages.{IsCanonical, bit_size}
use Rattle.ssh_kex.specs.Parts.{IsSmall}
use Rattle.ssh_kex.specs.declared.group.DhGroup.{DhGroup}
use Rattle.ssh_kex.specs.declared.group.GexParams.{GexParams}

-- the laws of a lookup allow it: it is written without leading zeros, and both its numbers are small
pub record IsLawfulGroup (group : DhGroup) : Type 0 where
  pub canonical : IsCanonical group
  pub prime : IsSmall group.prime
  pub generator : IsSmall group.generator

-- and besides, its prime has a size in bits that is allowed
pub record FitsSizes (sizes : GexParams) (group : DhGroup) : Type 0 where
  pub lawful : IsLawfulGroup group
  pub least : sizes.min_group_size ≤ bit_size group.prime
  pub most : bit_size group.prime ≤ sizes.max_group_size
