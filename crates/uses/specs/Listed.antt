-- Groups of a list: what an agreement takes, and what a lookup finds.
use Rattle.std.specs.Prelude.{◌≡◌, ℕ, ◌+◌, ◌-◌, ◌^◌, ◌≤◌, ◌<◌, ◌&&◌, nat_le, Bool, List, [], All, Contains, find, Option, Some, None, IsSome}
use Rattle.ssh_kex.specs.Messages.{bit_size}
use Rattle.ssh_kex.specs.Parts.{Setup}
use Rattle.ssh_kex.specs.declared.group.DhGroup.{DhGroup}
use Rattle.ssh_kex.specs.declared.group.GexParams.{GexParams}
use Rattle.ssh_wire.specs.Outside.{next_count}
use Rattle.uses.specs.Moduli.{IsLawfulGroup}
use Rattle.uses.specs.declared.listed.ListedAgreement.{ListedAgreement}

-- ---- an agreement

-- a group that is exchanged is one of the list
abbrev pub Takes : List DhGroup → Option DhGroup → Type 0
Takes groups None = Unit {0}
Takes groups (Some group) = Contains groups group

-- it obliges as the inner one does, in the groups that it takes
abbrev pub ObligesIfListed : {A : Type 0} → (A → A → Setup → Option DhGroup → Type 0)
    → ListedAgreement A → ListedAgreement A → Setup → Option DhGroup → Type 0
ObligesIfListed inner v later s group = inner v.inner later.inner s group × Takes v.groups.items group

-- the refusals here, and a count of the inner one
abbrev pub with_unlisted : {A : Type 0} → (A → ℕ) → ListedAgreement A → ℕ
with_unlisted inner v = v.refused + inner v.inner

-- a refusal was counted here, and the inner one wasn't asked
abbrev pub RefusesUnlisted : {A : Type 0} → ListedAgreement A → ListedAgreement A → Type 0
RefusesUnlisted old new = new ≡ record old { refused = next_count old.refused }

-- ---- a lookup

-- whether the prime's size is one that is allowed, in bits (RFC 4419 section 3)
abbrev pub is_within : GexParams → DhGroup → Bool
is_within sizes group =
    nat_le sizes.min_group_size (bit_size group.prime) && nat_le (bit_size group.prime) sizes.max_group_size

-- the first group of an allowed size
abbrev pub first_within : GexParams → List DhGroup → Option DhGroup
first_within sizes groups = find (is_within sizes) groups

-- the group that was found; where none was, one of no bytes, which is never answered
abbrev pub group_or_empty : Option DhGroup → DhGroup
group_or_empty None = record { prime = []; generator = [] }
group_or_empty (Some group) = group

-- Each group is lawful, and one has a size that is allowed. No call between two states, with these counts of refusals,
-- was refused: the count didn't rise, and doesn't stand at its end.
pub record FindsBetween (sizes : GexParams) (groups : List DhGroup) (refused refused' : ℕ) : Type 0 where
  pub lawful : All IsLawfulGroup groups
  pub found : IsSome (first_within sizes groups)
  pub unrefused : refused' ≤ refused
  pub below : refused' < 2 ^ 64 - 1
