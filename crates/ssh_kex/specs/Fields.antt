-- The fields of the messages of an exchange, and the sizes of a group.
use Rattle.std.specs.Prelude.{ℕ, ◌<◌, ◌≤◌, List, [], ◌∷◌, drop, Result, Ok, Err, ◌⊎◌}
use Rattle.ssh_wire.specs.Fields.{◌>>=◌, u32_at, string_at, mpint_at}
use Rattle.ssh_wire.specs.declared.error.EncodingFault.{EncodingFault}
use Rattle.ssh_wire.specs.declared.error.EncodingFault.TheVariants.{TrailingData}
use Rattle.ssh_kex.specs.Messages.{bit_size}
use Rattle.ssh_kex.specs.declared.group.DhGroup.{DhGroup}
use Rattle.ssh_kex.specs.declared.group.GexParams.{GexParams}

-- ---- the fields of a message, behind its type

abbrev pub value_at_end : {A : Type 0} → A → List ℕ → Result A EncodingFault
value_at_end x [] = Ok x
value_at_end x (b ∷ bytes) = Err TrailingData

unfoldable pub group_in : List ℕ → Result DhGroup EncodingFault
group_in bytes = mpint_at bytes >>= λ p. mpint_at p.1 >>= λ g. value_at_end (record { prime = p.0; generator = g.0 }) g.1

-- three numbers at the front, and what is behind
unfoldable pub sizes_front : List ℕ → Result (GexParams × List ℕ) EncodingFault
sizes_front bytes =
    u32_at bytes >>= λ a. u32_at a.1 >>= λ b. u32_at b.1 >>= λ c.
    Ok (record { min_group_size = a.0; preferred_group_size = b.0; max_group_size = c.0 }, c.1)

unfoldable pub sizes_in : List ℕ → Result GexParams EncodingFault
sizes_in bytes = sizes_front bytes >>= λ g. value_at_end g.0 g.1

unfoldable pub value_in : List ℕ → Result (List ℕ) EncodingFault
value_in bytes = string_at bytes >>= λ v. value_at_end v.0 v.1

-- what of a reply is read before the secret is agreed on: the host's blob, the server's value; and what is behind
pub record ReplyFront : Type 0 where
  pub host : List ℕ
  pub value : List ℕ
  pub behind : List ℕ

unfoldable pub reply_front : List ℕ → Result ReplyFront EncodingFault
reply_front bytes = string_at bytes >>= λ h. string_at h.1 >>= λ v. Ok (record { host = h.0; value = v.0; behind = v.1 })

abbrev pub fields : List ℕ → List ℕ
fields payload = drop 1 payload

-- ---- sizes

-- a group outside the client's sizes
abbrev pub IsOutside : GexParams → DhGroup → Type 0
IsOutside sizes g = (bit_size g.prime < sizes.min_group_size) ⊎ (sizes.max_group_size < bit_size g.prime)

pub record IsInside (sizes : GexParams) (g : DhGroup) : Type 0 where
  pub least : sizes.min_group_size ≤ bit_size g.prime
  pub most : bit_size g.prime ≤ sizes.max_group_size
