-- A server's rows: what each of its functions answers, over the function's own arguments.
use Rattle.std.specs.Prelude.{◌≡◌, ℕ, ◌<◌, ◌^◌, Bool, false, List, [], ◌∷◌, length, drop, is_some, Option, Some, None, IfSome, ◌⊎◌, Ok, Err}
use Rattle.std.specs.List.{All}
use Rattle.std.specs.Global.{Box}
use Rattle.ssh_negotiate.specs.Preferences.{Hosts}
use Rattle.ssh_negotiate.specs.Tables.{shape_of}
use Rattle.ssh_negotiate.specs.declared.kex.KexCause.{KexCause}
use Rattle.ssh_negotiate.specs.declared.kex.Name as kexes
use Rattle.ssh_negotiate.specs.declared.negotiation.Names.{Names}
use Rattle.ssh_negotiate.specs.declared.preferred.HostCertificate.{HostCertificate}
use Rattle.ssh_negotiate.specs.declared.preferred.HostKey.{HostKey}
use Rattle.ssh_packet.specs.Sealing.{longest_payload}
use Rattle.ssh_packet.specs.Stream.{message_type}
use Rattle.ssh_packet.specs.declared.keys.CipherPair.{CipherPair}
use Rattle.ssh_packet.specs.Writing.{Writer}
use Rattle.ssh_wire.specs.declared.error.EncodingFault.{EncodingFault}
use Rattle.ssh_wire.specs.declared.error.Error.{Error}
use Rattle.ssh_wire.specs.declared.error.Error.TheVariants as errors
use Rattle.ssh_wire.specs.declared.side.Side.TheVariants.{Server}
use Rattle.ssh_kex.specs.Agreeing.{Agreeing}
use Rattle.ssh_kex.specs.Views.{HasKeys}
use Rattle.ssh_kex.specs.Messages.{Presented, group_message, host_with, is_gex, newkeys, presented, reply_message, request_message, value_message}
use Rattle.ssh_kex.specs.Opening.{Reads, RefusesNames}
use Rattle.ssh_kex.specs.Fields.{sizes_in, value_in}
use Rattle.ssh_kex.specs.Setting.{IsShortGroup, group_of, made_of, offers_of}
use Rattle.ssh_kex.specs.Signature.{judged}
use Rattle.ssh_kex.specs.Stepping.{Puts, PutsAll}
use Rattle.ssh_kex.specs.declared.config.Config.{Config}
use Rattle.ssh_kex.specs.declared.exchange.Exchange.{Exchange}
use Rattle.ssh_kex.specs.declared.exchange.FinishedExchange.{FinishedExchange}
use Rattle.ssh_kex.specs.declared.exchange.GexChosen.{GexChosen}
use Rattle.ssh_kex.specs.declared.exchange.ServerHost.{ServerHost}
use Rattle.ssh_kex.specs.declared.group.DhGroup.{DhGroup}
use Rattle.ssh_kex.specs.declared.group.GexParams.{GexParams}
use Rattle.ssh_server_kex.specs.declared.presented.PresentedHost.{PresentedHost}

-- ---- the host

-- no blob is too long to be hashed
pub record AreShortBlobs (h : Hosts) : Type 0 where
  pub keys : All (λ (k : HostKey). length k.blob < 2 ^ 31) h.keys
  pub certificates : All (λ (c : HostCertificate). length c.blob < 2 ^ 31) h.certificates

-- what is lent of the key and the blob
abbrev pub shown_of : Option PresentedHost → Option Presented
shown_of None = None
shown_of (Some h) = Some (record { signer = h.signer.now; blob = h.blob.now })

-- ---- the sizes that a client asks for

-- the sizes, their group, and the message that carries it
pub record AnswersRequest (Finds : GexParams → DhGroup
    → Type 0) (payload : List ℕ) (old new : Writer) (g : GexChosen) : Type 0 where
  pub payload_is : payload ≡ request_message g.params
  pub finds : Finds g.params g.group
  pub short : IsShortGroup g
  pub puts : Puts old (group_message g.group) new

-- the group that was found makes a message that is too long
pub record IsLongFound (Finds : GexParams → DhGroup → Type 0) (payload : List ℕ) (n : ℕ) : Type 0 where
  pub sizes : GexParams
  pub group : DhGroup
  pub read : sizes_in (drop 1 payload) ≡ Ok sizes
  pub finds : Finds sizes group
  pub size : n ≡ length (group_message group)

-- sizes that can't be read, as the error says
abbrev pub RefusesSizes : List ℕ → Error → Type 0
RefusesSizes payload error = ((message_type payload ≡ 34 → ⊥) × (error ≡ errors.KexInit))
    ⊎ ((message_type payload ≡ 34) × ((fault : EncodingFault) × (sizes_in (drop 1 payload) ≡ Err fault)
    × (error ≡ errors.SshEncoding fault)))

-- another message; sizes that can't be read; a lookup that refuses; a group that is too long; want of memory
abbrev pub RefusesRequest : (GexParams → DhGroup → Type 0) → (GexParams → Type 0) → List ℕ → Error → Type 0
RefusesRequest Finds Denied payload error = RefusesSizes payload error
    ⊎ (((message_type payload ≡ 34) × ((sizes : GexParams) × (sizes_in (drop 1 payload) ≡ Ok sizes) × Denied sizes)
    × (error ≡ errors.Kex))
    ⊎ (((message_type payload ≡ 34) × ((n : ℕ) × (longest_payload < n) × IsLongFound Finds payload n
    × (error ≡ errors.PacketSize n)))
    ⊎ (error ≡ errors.Memory)))

-- ---- a client's value

-- a value that can't be read, as the error says
abbrev pub RefusesText : Bool → List ℕ → Error → Type 0
RefusesText gex payload error = ((message_type payload ≡ message_type (value_message gex []) → ⊥)
    × (error ≡ errors.KexInit))
    ⊎ ((message_type payload ≡ message_type (value_message gex []))
    × ((fault : EncodingFault) × (value_in (drop 1 payload) ≡ Err fault) × (error ≡ errors.SshEncoding fault)))

-- a server's value and a secret are there
pub record AgreesOn (Made : List ℕ → List ℕ → Type 0) (name : kexes.Name) (x y : Exchange) (k : Agreeing) : Type 0 where
  pub value : List ℕ
  pub secret : List ℕ
  pub made : Made value secret
  pub value_short : length value < 2 ^ 31
  pub secret_short : length secret < 2 ^ 31
  pub algorithm_is : k ≡ record { name = name; group = group_of x.gex; local = None; secret = Some secret }
  pub exchange_is : y ≡ record x { server_ephemeral = value }

-- the value, what was agreed on and signed, and what was written
pub record AnswersValue (Makes : List ℕ → List ℕ → Type 0) (Agrees : List ℕ → List ℕ → List ℕ → Type 0) (Signs : ServerHost
    → List ℕ → List ℕ → Type 0) (config : Config) (cause : KexCause) (n : Names) (x y : Exchange) (payload : List ℕ) (old new : Writer) (made : FinishedExchange × Box CipherPair) : Type 0 where
  pub value : List ℕ
  pub own_value : List ℕ
  pub secret : List ℕ
  pub signature : List ℕ
  pub shown : Presented
  pub payload_is : payload ≡ value_message (is_gex n.kex) value
  pub value_short : length value < 2 ^ 31
  pub own_value_short : length own_value < 2 ^ 31
  pub host_short : length shown.blob < 2 ^ 31
  pub signature_short : length signature < 2 ^ 31
  pub agrees : Agrees value own_value secret
  pub makes : Makes value own_value
  pub presents : presented config.host n.host_key_is_certificate n.key ≡ Some shown
  pub signs : Signs (host_with n shown.blob) made.0.hash (judged signature)
  pub exchange_is : y ≡ record x { client_ephemeral = value; server_ephemeral = own_value }
  pub made_is : made.0 ≡ made_of cause n y shown.blob (Some secret)
  pub keys : HasKeys Server made.0 made.1
  pub puts : PutsAll old (reply_message (is_gex n.kex) shown.blob own_value signature ∷ newkeys ∷ []) new

-- a reply that is too long
pub record IsLongAnswer (Makes : List ℕ → List ℕ → Type 0) (ValueSmall SignatureSmall : List ℕ
    → Type 0) (config : Config) (n : Names) (payload : List ℕ) (size : ℕ) : Type 0 where
  pub value : List ℕ
  pub own_value : List ℕ
  pub shown : Presented
  pub signature : List ℕ
  pub read : value_in (drop 1 payload) ≡ Ok value
  pub presents : presented config.host n.host_key_is_certificate n.key ≡ Some shown
  pub makes : Makes value own_value
  pub value_small : ValueSmall own_value
  pub signature_small : SignatureSmall signature
  pub size_is : size ≡ length (reply_message (is_gex n.kex) shown.blob own_value signature)

-- a value that was read, where an agreement, a signature or the reply is refused
abbrev pub RefusesAnswer : (List ℕ → Type 0) → Type 0 → (ℕ → Type 0) → List ℕ → Error → Type 0
RefusesAnswer Denied Unsigned Long payload error =
    (((value : List ℕ) × (value_in (drop 1 payload) ≡ Ok value) × Denied value) × (error ≡ errors.Kex))
    ⊎ ((((value : List ℕ) × (value_in (drop 1 payload) ≡ Ok value)) × Unsigned × (error ≡ errors.Signature))
    ⊎ (((n : ℕ) × (longest_payload < n) × Long n × (error ≡ errors.PacketSize n)) ⊎ (error ≡ errors.Memory)))

-- another message; a value that can't be read; an agreement or a key that refuses; a reply that is too long
abbrev pub ServerRefusesValue : Bool → (List ℕ → Type 0) → Type 0 → (ℕ → Type 0) → List ℕ → Error → Type 0
ServerRefusesValue gex Denied Unsigned Long payload error = RefusesText gex payload error
    ⊎ ((message_type payload ≡ message_type (value_message gex [])) × RefusesAnswer Denied Unsigned Long payload error)

-- what is needed so that a server can answer a value: short byte strings, a group where it is a group exchange, and
-- something to present
pub record CanAnswer (config : Config) (n : Names) (x : Exchange) : Type 0 where
  pub blobs : AreShortBlobs config.host
  pub client_id : length x.client_id < 2 ^ 31
  pub server_id : length x.server_id < 2 ^ 31
  pub client_kex_init : length x.client_kex_init < 2 ^ 31
  pub server_kex_init : length x.server_kex_init < 2 ^ 31
  pub group : IfSome x.gex (λ (g : GexChosen). (length g.group.prime < 2 ^ 31) × (length g.group.generator < 2 ^ 31))
  pub kind : is_some x.gex ≡ is_gex n.kex
  pub exchanges : (shape_of n.kex).skip ≡ false
  pub shown : Presented
  pub presents : presented config.host n.host_key_is_certificate n.key ≡ Some shown

-- ---- the client's KEXINIT

-- the names, which are offered where values are to be exchanged
pub record OpensServer (Offered : kexes.Name → Type 0) (config : Config) (cause : KexCause) (x y : Exchange) (seqn : ℕ) (payload : List ℕ) (n : Names) : Type 0 where
  pub reads : Reads Server (offers_of Server config) cause seqn payload n
  pub offered : (shape_of n.kex).skip ≡ false → Offered n.kex
  pub exchange_is : y ≡ record x { client_kex_init = payload }

-- names that aren't offered
pub record AreUnoffered (Offered : kexes.Name → Type 0) (config : Config) (cause : KexCause) (seqn : ℕ) (payload : List ℕ) : Type 0 where
  pub names : Names
  pub reads : Reads Server (offers_of Server config) cause seqn payload names
  pub exchanges : (shape_of names.kex).skip ≡ false
  pub unoffered : Offered names.kex → ⊥

abbrev pub RefusesOpening : (kexes.Name → Type 0) → Config → KexCause → ℕ → List ℕ → Error → Type 0
RefusesOpening Offered config cause seqn payload error = RefusesNames Server (offers_of Server config) cause seqn payload error
    ⊎ (AreUnoffered Offered config cause seqn payload × (error ≡ errors.UnknownAlgo))
