-- What each stage of an exchange awaits of an honest peer.
use Rattle.std.specs.Prelude.{◌≡◌, ℕ, ◌<◌, ◌^◌, List, length, Bool, Option, Some, None, is_some}
use Rattle.ssh_wire.specs.declared.side.Side.{Side}
use Rattle.ssh_wire.specs.declared.side.Side.TheVariants.{Client, Server}
use Rattle.ssh_kex.specs.declared.config.Config.{Config}
use Rattle.ssh_kex.specs.declared.group.DhGroup.{DhGroup}
use Rattle.ssh_kex.specs.Messages.{is_gex, value_message, reply_message, request_message, group_message, newkeys}
use Rattle.ssh_negotiate.specs.Advertised.{kexinit}
use Rattle.ssh_kex.specs.Stages.{Stage, Created, AwaitsGroup, AwaitsReply, AwaitsRequest, AwaitsValue, AwaitsNewkeys}
use Rattle.ssh_rules.specs.Wire.{HasFront}
use Rattle.ssh_rules.specs.ExchangeMessages.{messages_of, kexinit_of}
use Rattle.ssh_rules.specs.Made.{HasShortStrings}
use Rattle.ssh_kex.specs.declared.exchange.Exchange.{Exchange}
use Rattle.ssh_kex.specs.Setting.{offers_of}
use Rattle.ssh_kex.specs.declared.exchange.GexChosen.{GexChosen}

-- the message of a stage, from a side with this configuration
abbrev pub IsReadable : Side → Config → Stage → List ℕ → Type 0
IsReadable writer peer (Created own) payload = (cookie : List ℕ) × (length cookie ≡ 16) × (payload ≡ kexinit (offers_of writer peer) cookie)
IsReadable writer peer (AwaitsGroup o) payload = (g : DhGroup) × (payload ≡ group_message g)
IsReadable writer peer (AwaitsReply o group local public) payload = (host value signature : List ℕ) × (payload ≡ reply_message (is_gex o.names.kex) host value signature) × (length host < 2 ^ 32) × (length value < 2 ^ 32) × (length signature < 2 ^ 32)
IsReadable writer peer (AwaitsRequest o) payload = payload ≡ request_message peer.gex
IsReadable writer peer (AwaitsValue o group) payload = (value : List ℕ) × (payload ≡ value_message (is_gex o.names.kex) value) × (length value < 2 ^ 32)
IsReadable writer peer (AwaitsNewkeys exchange made host) payload = payload ≡ newkeys

-- a client asks for the sizes of its configuration
abbrev pub AsksFor : Side → Config → Option GexChosen → Type 0
AsksFor Client config None = Unit {0}
AsksFor Client config (Some g) = g.params ≡ config.gex
AsksFor Server config gex = Unit {0}

-- Own messages of one exchange, written or owed: the first ones of a whole exchange.
pub record OwnForm (side : Side) (config : Config) (kind : Bool) (own : List (List ℕ)) : Type 0 where
  pub exchange : Exchange
  pub host : List ℕ
  pub signature : List ℕ
  pub kind_is : is_some exchange.gex ≡ kind
  pub short : HasShortStrings exchange host signature
  pub front : HasFront (messages_of side exchange host signature) own
  pub cookie : List ℕ
  pub cookie_length : length cookie ≡ 16
  pub kexinit_is : kexinit_of side exchange ≡ kexinit (offers_of side config) cookie
  pub asks : AsksFor side config exchange.gex
