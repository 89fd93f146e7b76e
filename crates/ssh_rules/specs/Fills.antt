-- What a side puts into the messages of one exchange.
use Rattle.std.specs.Prelude.{ℕ, Bool, true, false, List, [], ◌∷◌}
use Rattle.ssh_negotiate.specs.Advertised.{kexinit}
use Rattle.ssh_wire.specs.declared.side.Side.{Side}
use Rattle.ssh_wire.specs.declared.side.Side.TheVariants.{Client, Server}
use Rattle.ssh_kex.specs.Messages.{newkeys, value_message, reply_message, request_message, group_message}
use Rattle.ssh_kex.specs.Setting.{offers_of}
use Rattle.ssh_kex.specs.declared.config.Config.{Config}
use Rattle.ssh_kex.specs.declared.group.DhGroup.{DhGroup}

-- A field that its messages don't have is not looked at.
pub record Fills : Type 0 where
  pub cookie : List ℕ
  pub group : DhGroup
  pub host : List ℕ
  pub value : List ℕ
  pub signature : List ℕ

-- the messages of one exchange, whole and in order
abbrev pub messages : Side → Config → Bool → Fills → List (List ℕ)
messages Client config false f = kexinit (offers_of Client config) f.cookie ∷ value_message false f.value ∷ newkeys ∷ []
messages Client config true f =
    kexinit (offers_of Client config) f.cookie ∷ request_message config.gex ∷ value_message true f.value ∷ newkeys
    ∷ []
messages Server config false f =
    kexinit (offers_of Server config) f.cookie ∷ reply_message false f.host f.value f.signature ∷ newkeys ∷ []
messages Server config true f =
    kexinit (offers_of Server config) f.cookie ∷ group_message f.group ∷ reply_message true f.host f.value f.signature
    ∷ newkeys ∷ []
