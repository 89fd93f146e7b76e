-- What the rows of a client's machine answer.
use Rattle.std.specs.Prelude.{◌≡◌, ◌⊎◌, ◌+◌, ◌<◌, ◌^◌, ◌||◌, ℕ, Bool, true, false, List, [], length, Option, None, Some, Ok, Err}
use Rattle.std.specs.Global.{Box}
use Rattle.ssh_negotiate.specs.Causes.{was_strict}
use Rattle.ssh_negotiate.specs.Tables.{shape_of}
use Rattle.ssh_negotiate.specs.declared.kex.KexCause.{KexCause}
use Rattle.ssh_negotiate.specs.declared.kex.Name as kexes
use Rattle.ssh_negotiate.specs.declared.negotiation.Names.{Names}
use Rattle.ssh_packet.specs.Sealing.{longest_payload}
use Rattle.ssh_packet.specs.Stream.{message_type}
use Rattle.ssh_packet.specs.Writing.{Writer}
use Rattle.ssh_packet.specs.declared.keys.CipherPair.{CipherPair}
use Rattle.ssh_packet.specs.declared.reader.Incoming.{Incoming}
use Rattle.ssh_wire.specs.Fields.{answer_of}
use Rattle.ssh_wire.specs.Forms.{string}
use Rattle.ssh_wire.specs.declared.error.Error.{Error}
use Rattle.ssh_wire.specs.declared.error.Error.TheVariants as errors
use Rattle.ssh_wire.specs.declared.side.Side.TheVariants.{Client}
use Rattle.ssh_kex.specs.Agreeing.{Agreeing}
use Rattle.ssh_client_kex.specs.ClientViews.{client_machine, local_of}
use Rattle.ssh_kex.specs.Messages.{IsCanonical, group_message, host_with, is_gex, newkeys, reply_message, request_message, value_message}
use Rattle.ssh_kex.specs.Opening.{Reads, RefusesNames}
use Rattle.ssh_kex.specs.Fields.{IsInside, IsOutside, fields, group_in, reply_front, value_in}
use Rattle.ssh_kex.specs.Setting.{made_of, offers_of}
use Rattle.ssh_client_kex.specs.Reading.{ReadsFront}
use Rattle.ssh_kex.specs.Signature.{judged}
use Rattle.ssh_kex.specs.Stages.{Machine}
use Rattle.ssh_kex.specs.Stepping.{Puts}
use Rattle.ssh_kex.specs.Views.{EndsAtOnce, HasKeys}
use Rattle.ssh_client_kex.specs.declared.client_kex.ClientState.TheVariants as states
use Rattle.ssh_kex.specs.declared.config.Config.{Config}
use Rattle.ssh_kex.specs.declared.exchange.Exchange.{Exchange}
use Rattle.ssh_kex.specs.declared.exchange.FinishedExchange.{FinishedExchange}
use Rattle.ssh_kex.specs.declared.exchange.ServerHost.{ServerHost}
use Rattle.ssh_kex.specs.declared.group.DhGroup.{DhGroup}
use Rattle.ssh_kex.specs.declared.progress.KexProgress.{KexProgress}
use Rattle.ssh_kex.specs.declared.progress.KexProgress.TheVariants.{NeedsReply}

-- ---- the client's value

-- the value is made and sent
pub record SendsValue (makes : List ℕ → List ℕ → Type 0) (old new : Agreeing) (value : List ℕ) (w w' : Writer) : Type 0 where
  pub local : List ℕ
  pub made : makes local value
  pub short : length value < 2 ^ 31
  pub kept : new ≡ record old { local = Some local }
  pub puts : Puts w (value_message (is_gex old.name) value) w'

-- a value that is too long to be sent
pub record IsLongOwn (makes : List ℕ → List ℕ → Type 0) (small : List ℕ → Type 0) (e : Error) : Type 0 where
  pub local : List ℕ
  pub value : List ℕ
  pub made : makes local value
  pub small_value : small value
  pub long : longest_payload < 5 + length value
  pub error_is : e ≡ errors.PacketSize (5 + length value)

abbrev pub ClientRefusesValue : (List ℕ → List ℕ → Type 0) → (List ℕ → Type 0) → Type 0 → Error → Type 0
ClientRefusesValue makes small denied e = (e ≡ errors.Memory) ⊎ (((e ≡ errors.Kex) × denied) ⊎ IsLongOwn makes small e)

-- ---- the peer's KEXINIT

-- a client's value is sent, of no group
pub record OpensWithValue (makes : List ℕ → List ℕ
    → Type 0) (config : Config) (cause : KexCause) (x : Exchange) (n : Names) (p : KexProgress Machine) (w w' : Writer) : Type 0 where
  pub algorithm : Agreeing
  pub value : List ℕ
  pub sends : SendsValue makes (record { name = n.kex; group = None; local = None; secret = None }) algorithm value w w'
  pub done : p ≡ NeedsReply (client_machine config cause (record x { client_ephemeral = value }) (states.AwaitsReply n algorithm)) false

-- a client asks for a group, or sends its value
abbrev pub ClientOpens : Bool → (List ℕ → List ℕ → Type 0) → Config → KexCause → Exchange → Names → KexProgress Machine
    → Writer → Writer → Type 0
ClientOpens true makes config cause x n p w w' =
    (p ≡ NeedsReply (client_machine config cause x (states.AwaitsGroup n)) false)
    × Puts w (request_message config.gex) w'
ClientOpens false makes config cause x n p w w' = OpensWithValue makes config cause x n p w w'

abbrev pub OpensOrEnds : Bool → (kexes.Name → Type 0) → (kexes.Name → List ℕ → List ℕ → Type 0) → Config → KexCause
    → Exchange → Names → KexProgress Machine → Writer → Writer → Type 0
OpensOrEnds true offers makes config cause x n p w w' = EndsAtOnce Client cause x n p w w'
OpensOrEnds false offers makes config cause x n p w w' = offers n.kex
    × ClientOpens (is_gex n.kex) (makes n.kex) config cause x n p w w'

-- the answer to the peer's KEXINIT
pub record AnswersKexinit (offers : kexes.Name → Type 0) (makes : kexes.Name → List ℕ → List ℕ
    → Type 0) (config : Config) (cause : KexCause) (x : Exchange) (i : Incoming) (p : KexProgress Machine) (w w' : Writer) : Type 0 where
  pub names : Names
  pub reads : Reads Client (offers_of Client config) cause i.seqn i.payload.now names
  pub opens : OpensOrEnds (shape_of names.kex).skip offers makes config cause (record x { server_kex_init = i.payload.now }) names p w w'

-- what comes behind the names: an agreement that doesn't offer the name, or refuses
pub record RefusesBehind (offers : kexes.Name → Type 0) (makes : kexes.Name → List ℕ → List ℕ
    → Type 0) (small : List ℕ → Type 0) (denied : kexes.Name
    → Type 0) (config : Config) (cause : KexCause) (i : Incoming) (e : Error) : Type 0 where
  pub names : Names
  pub reads : Reads Client (offers_of Client config) cause i.seqn i.payload.now names
  pub exchanges : (shape_of names.kex).skip ≡ false
  pub why : ((offers names.kex → ⊥) × (e ≡ errors.UnknownAlgo))
      ⊎ (offers names.kex × (is_gex names.kex ≡ false) × ClientRefusesValue (makes names.kex) small (denied names.kex) e)

abbrev pub ClientRefusesKexinit : (kexes.Name → Type 0) → (kexes.Name → List ℕ → List ℕ → Type 0) → (List ℕ → Type 0)
    → (kexes.Name → Type 0) → Config → KexCause → Incoming → Error → Type 0
ClientRefusesKexinit offers makes small denied config cause i e = (e ≡ errors.Memory)
    ⊎ (RefusesNames Client (offers_of Client config) cause i.seqn i.payload.now e
    ⊎ RefusesBehind offers makes small denied config cause i e)

-- ---- the group

-- the client's value of a group is sent
pub record SendsOfGroup (makes : List ℕ → List ℕ → Type 0) (config : Config) (cause : KexCause) (x : Exchange) (n : Names) (group : DhGroup) (p : KexProgress Machine) (w w' : Writer) : Type 0 where
  pub algorithm : Agreeing
  pub value : List ℕ
  pub sizes : (config.gex.min_group_size < 2 ^ 32) × (config.gex.preferred_group_size < 2 ^ 32)
      × (config.gex.max_group_size < 2 ^ 32)
  pub sends : SendsValue makes (record { name = n.kex; group = Some group; local = None; secret = None }) algorithm value w w'
  pub done : p ≡ NeedsReply (client_machine config cause (record x { client_ephemeral = value; gex = Some (record { params = config.gex; group = group }) }) (states.AwaitsReply n algorithm)) false

-- the answer to a group
pub record AnswersGroup (makes : DhGroup → List ℕ → List ℕ
    → Type 0) (config : Config) (cause : KexCause) (x : Exchange) (n : Names) (payload : List ℕ) (p : KexProgress Machine) (w w' : Writer) : Type 0 where
  pub group : DhGroup
  pub payload_is : payload ≡ group_message group
  pub canonical : IsCanonical group
  pub prime : length group.prime < 2 ^ 31
  pub generator : length group.generator < 2 ^ 31
  pub inside : IsInside config.gex group
  pub sends : SendsOfGroup (makes group) config cause x n group p w w'

-- a group outside the sizes, or an agreement that refuses it
pub record RefusesBehindGroup (makes : DhGroup → List ℕ → List ℕ → Type 0) (small : List ℕ
    → Type 0) (denied : DhGroup → Type 0) (config : Config) (payload : List ℕ) (e : Error) : Type 0 where
  pub group : DhGroup
  pub type_is : message_type payload ≡ 31
  pub read : group_in (fields payload) ≡ Ok group
  pub why : (IsOutside config.gex group × (e ≡ errors.KexInit))
      ⊎ (IsInside config.gex group × ClientRefusesValue (makes group) small (denied group) e)

abbrev pub RefusesGroup : (DhGroup → List ℕ → List ℕ → Type 0) → (List ℕ → Type 0) → (DhGroup → Type 0) → Config
    → List ℕ → Error → Type 0
RefusesGroup makes small denied config payload e = (e ≡ errors.Memory)
    ⊎ (((message_type payload ≡ 31 → ⊥) × (e ≡ errors.KexInit))
    ⊎ (((message_type payload ≡ 31) × (answer_of (group_in (fields payload)) ≡ Err e))
    ⊎ RefusesBehindGroup makes small denied config payload e))

-- ---- the reply

-- the fields of a reply, and the secret that is agreed on
pub record AgreesOnReply (makes : List ℕ → List ℕ → List ℕ
    → Type 0) (old new : Agreeing) (payload host value signature : List ℕ) : Type 0 where
  pub type_is : message_type payload ≡ message_type (reply_message (is_gex old.name) [] [] [])
  pub behind : List ℕ
  pub front : ReadsFront (fields payload) host value behind
  pub rest : value_in behind ≡ Ok signature
  pub spelled : behind ≡ string signature
  pub secret : List ℕ
  pub made : makes (local_of old.local) value secret
  pub kept : new ≡ record old { local = None; secret = Some secret }

-- an agreement that refuses the server's value, or a signature that can't be read
pub record RefusesBehindFront (denied : List ℕ → List ℕ → Type 0) (makes : List ℕ → List ℕ → List ℕ
    → Type 0) (old : Agreeing) (payload : List ℕ) (e : Error) : Type 0 where
  pub host : List ℕ
  pub value : List ℕ
  pub behind : List ℕ
  pub type_is : message_type payload ≡ message_type (reply_message (is_gex old.name) [] [] [])
  pub front : ReadsFront (fields payload) host value behind
  pub why : ((e ≡ errors.Kex) × denied (local_of old.local) value) ⊎ (answer_of (value_in behind) ≡ Err e)

abbrev pub RefusesToAgree : (List ℕ → List ℕ → Type 0) → (List ℕ → List ℕ → List ℕ → Type 0) → Agreeing → List ℕ
    → Error → Type 0
RefusesToAgree denied makes old payload e = (e ≡ errors.Memory)
    ⊎ (((message_type payload ≡ message_type (reply_message (is_gex old.name) [] [] []) → ⊥) × (e ≡ errors.KexInit))
    ⊎ (((message_type payload ≡ message_type (reply_message (is_gex old.name) [] [] []))
    × (answer_of (reply_front (fields payload)) ≡ Err e))
    ⊎ RefusesBehindFront denied makes old payload e))

-- what is kept of an exchange with the server's value
abbrev pub made_with : KexCause → Names → Exchange → Option (List ℕ) → List ℕ → List ℕ → FinishedExchange
made_with cause n x secret host value = made_of cause n (record x { server_ephemeral = value }) host secret

-- a reply whose signature is accepted
pub record AcceptsReply (accepts : ServerHost → List ℕ → List ℕ
    → Type 0) (config : Config) (cause : KexCause) (x : Exchange) (n : Names) (secret : Option (List ℕ)) (host value signature : List ℕ) (p : KexProgress Machine) (w w' : Writer) : Type 0 where
  pub accepted : accepts (host_with n host) (made_with cause n x secret host value).hash (judged signature)
  pub cipher : Box CipherPair
  pub keys : HasKeys Client (made_with cause n x secret host value) cipher
  pub done : p ≡ NeedsReply (client_machine config cause (record x { server_ephemeral = value }) (states.AwaitsNewkeys (host_with n host) (made_with cause n x secret host value) cipher)) (n.strict_kex || was_strict cause)
  pub puts : Puts w newkeys w'

-- the answer to a reply
pub record AnswersReply (makes : List ℕ → List ℕ → List ℕ → Type 0) (accepts : ServerHost → List ℕ → List ℕ
    → Type 0) (config : Config) (cause : KexCause) (x : Exchange) (n : Names) (algorithm : Agreeing) (payload : List ℕ) (p : KexProgress Machine) (w w' : Writer) : Type 0 where
  pub next : Agreeing
  pub host : List ℕ
  pub value : List ℕ
  pub signature : List ℕ
  pub agrees : AgreesOnReply makes algorithm next payload host value signature
  pub accepted : AcceptsReply accepts config cause x n next.secret host value signature p w w'

-- a signature that is refused
pub record Missigns (makes : List ℕ → List ℕ → List ℕ → Type 0) (denied : ServerHost → List ℕ → List ℕ
    → Type 0) (cause : KexCause) (x : Exchange) (n : Names) (algorithm : Agreeing) (payload : List ℕ) (e : Error) : Type 0 where
  pub next : Agreeing
  pub host : List ℕ
  pub value : List ℕ
  pub signature : List ℕ
  pub agrees : AgreesOnReply makes algorithm next payload host value signature
  pub denied_it : denied (host_with n host) (made_with cause n x next.secret host value).hash (judged signature)
  pub error_is : e ≡ errors.WrongServerSig

abbrev pub RefusesReply : (List ℕ → List ℕ → Type 0) → (List ℕ → List ℕ → List ℕ → Type 0)
    → (ServerHost → List ℕ → List ℕ → Type 0) → KexCause → Exchange → Names → Agreeing → List ℕ → Error → Type 0
RefusesReply denied makes missigned cause x n algorithm payload e = RefusesToAgree denied makes algorithm payload e
    ⊎ Missigns makes missigned cause x n algorithm payload e
