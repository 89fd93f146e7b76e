-- What stands in a message of an exchange, where it is spelled as such a message is.
use Rattle.std.specs.Prelude.{◌≡◌, ℕ, ◌<◌, ◌^◌, ◌++◌, ◌∷◌, List, length, drop, Option, Some, None}
use Rattle.ssh_packet.specs.Stream.{message_type}
use Rattle.ssh_wire.specs.Forms.{mpint, string}
use Rattle.ssh_kex.specs.declared.group.GexParams.{GexParams}

-- there is one, and this holds of it
abbrev pub IsFound : {X : Type 0} → (X → Type 0) → Option X → Type 0
IsFound P None = ⊥
IsFound P (Some x) = P x

-- each size is a uint32
pub record AreSizes (g : GexParams) : Type 0 where
  pub least : g.min_group_size < 2 ^ 32
  pub wanted : g.preferred_group_size < 2 ^ 32
  pub most : g.max_group_size < 2 ^ 32

-- one string behind the type
abbrev pub IsOneString : ℕ → List ℕ → Type 0
IsOneString t payload = (value : List ℕ) × (payload ≡ t ∷ string value)

-- two mpints behind the type
abbrev pub AreTwoNumbers : ℕ → List ℕ → Type 0
AreTwoNumbers t payload = (prime : List ℕ) × (generator : List ℕ) × (payload ≡ t ∷ (mpint prime ++ mpint generator))

-- three strings behind the type, of which the first is the host that is presented
pub record IsReplyOf (host : Option (List ℕ)) (t : ℕ) (payload : List ℕ) : Type 0 where
  pub shown : List ℕ
  pub value : List ℕ
  pub signature : List ℕ
  pub spelled : payload ≡ t ∷ (string shown ++ (string value ++ string signature))
  pub presents : host ≡ Some shown

-- a KEXINIT that differs from another in its cookie alone
pub record IsSameKexinit (other payload : List ℕ) : Type 0 where
  pub long : length payload ≡ length other
  pub behind : drop 17 payload ≡ drop 17 other
  pub typed : message_type payload ≡ 20
