-- Why a step of a machine is refused: the first cause in the order of the fields.
use Rattle.std.specs.Prelude.{◌≡◌, ℕ, ◌+◌, ◌-◌, ◌^◌, ◌%◌, ◌<◌, Bool, true, false, List, [], length, Option, Some, None, Result, Ok, Err, ◌⊎◌}
use Rattle.ssh_negotiate.specs.Causes.{was_strict}
use Rattle.ssh_negotiate.specs.Reading.{KexinitFault, Inconsistent, Encoding, NoCommon, names_read}
use Rattle.ssh_negotiate.specs.Tables.{shape_of}
use Rattle.ssh_negotiate.specs.declared.kex.Name as kexes
use Rattle.ssh_negotiate.specs.declared.negotiation.Names.{Names}
use Rattle.ssh_packet.specs.Sealing.{longest_payload}
use Rattle.ssh_packet.specs.Stream.{message_type}
use Rattle.ssh_wire.specs.declared.error.EncodingFault.{EncodingFault}
use Rattle.ssh_wire.specs.declared.error.EncodingFault.TheVariants.{TrailingData}
use Rattle.ssh_wire.specs.declared.error.Error.{Error}
use Rattle.ssh_wire.specs.declared.error.Error.TheVariants as errors
use Rattle.ssh_wire.specs.declared.side.Side.TheVariants.{Client}
use Rattle.ssh_kex.specs.Fields.{IsInside, IsOutside, ReplyFront, fields, group_in, reply_front, sizes_in, value_in}
use Rattle.ssh_kex.specs.Messages.{is_gex, value_message, reply_message, group_message, host_with}
use Rattle.ssh_kex.specs.Messages.{Presented, presented}
use Rattle.ssh_kex.specs.Setting.{Says, Setting, Opened, offers_of, group_of, exchange_of, made_of}
use Rattle.ssh_kex.specs.Signature.{judged}
use Rattle.ssh_kex.specs.Stages.{Stage, Created, AwaitsGroup, AwaitsReply, AwaitsRequest, AwaitsValue, AwaitsNewkeys, IsFirst, drops_guess}
use Rattle.ssh_kex.specs.declared.config.Config.{Config}
use Rattle.ssh_kex.specs.declared.exchange.GexChosen.{GexChosen}
use Rattle.ssh_kex.specs.declared.exchange.ServerHost.{ServerHost}
use Rattle.ssh_kex.specs.declared.group.DhGroup.{DhGroup}
use Rattle.ssh_kex.specs.declared.group.GexParams.{GexParams}

-- What it means that a part refuses in a step: its count of refusals rose, and it isn't obliging, or what it was asked
-- is not what it owes an answer to.
pub record Denies : Type 1 where
  -- name, group
  pub start : kexes.Name → Option DhGroup → Type 0
  -- name, group, the client's value
  pub value : kexes.Name → Option DhGroup → List ℕ → Type 0
  -- name, group, the local value, the server's value
  pub reply : kexes.Name → Option DhGroup → List ℕ → List ℕ → Type 0
  pub lookup : GexParams → Type 0
  -- the server's configuration
  pub sign : Config → Type 0
  -- host, hash, signature in its canonical form
  pub verify : ServerHost → List ℕ → List ℕ → Type 0

-- ---- causes

-- the type of the message that is due
abbrev pub awaited : Stage → ℕ
awaited (Created own) = 20
awaited (AwaitsGroup o) = 31
awaited (AwaitsReply o gex local public) = message_type (reply_message (is_gex o.names.kex) [] [] [])
awaited (AwaitsRequest o) = 34
awaited (AwaitsValue o gex) = message_type (value_message (is_gex o.names.kex) [])
awaited (AwaitsNewkeys exchange made host) = 21

-- what a wrong type is answered with: Kex where NEWKEYS is due, else KexInit
abbrev pub is_last : Stage → Bool
is_last (Created own) = false
is_last (AwaitsGroup o) = false
is_last (AwaitsReply o gex local public) = false
is_last (AwaitsRequest o) = false
is_last (AwaitsValue o gex) = false
is_last (AwaitsNewkeys exchange made host) = true

-- the message is due
pub record IsDue (stage : Stage) (payload : List ℕ) : Type 0 where
  pub kept : drops_guess stage ≡ false
  pub type_is : message_type payload ≡ awaited stage

-- it isn't, and isn't dropped
pub record IsWrong (stage : Stage) (payload : List ℕ) : Type 0 where
  pub kept : drops_guess stage ≡ false
  pub type_is : message_type payload ≡ awaited stage → ⊥

-- the names of a KEXINIT that is due
abbrev pub kexinit_read : Setting → List ℕ → Result Names KexinitFault
kexinit_read s payload = names_read s.side (offers_of s.side s.config) (was_strict s.cause) payload

-- a field that is cut short, badly encoded, or has bytes behind the last
abbrev pub IsBadlyEncoded : Setting → Stage → List ℕ → EncodingFault → Type 0
IsBadlyEncoded s (Created own) payload fault = kexinit_read s payload ≡ Err (Encoding fault)
IsBadlyEncoded s (AwaitsGroup o) payload fault = group_in (fields payload) ≡ Err fault
IsBadlyEncoded s (AwaitsReply o gex local public) payload fault = (reply_front (fields payload) ≡ Err fault)
    ⊎ ((r : ReplyFront) × (reply_front (fields payload) ≡ Ok r) × (value_in r.behind ≡ Err fault))
IsBadlyEncoded s (AwaitsRequest o) payload fault = sizes_in (fields payload) ≡ Err fault
IsBadlyEncoded s (AwaitsValue o gex) payload fault = value_in (fields payload) ≡ Err fault
IsBadlyEncoded s (AwaitsNewkeys exchange made host) payload fault = (fault ≡ TrailingData)
    × (0 < length (fields payload))

-- the names of a KEXINIT, which stands where it may
pub record Negotiates (s : Setting) (seqn : ℕ) (payload : List ℕ) (n : Names) : Type 0 where
  pub read : kexinit_read s payload ≡ Ok n
  pub first : IsFirst s.cause n.strict_kex seqn
  pub exchanges : (shape_of n.kex).skip ≡ false

-- a client's agreement was asked for its value at both KEXINITs, and refuses it
pub record DeniesAtKexinit (says : Says) (denies : Denies) (s : Setting) (seqn : ℕ) (payload : List ℕ) : Type 0 where
  pub names : Names
  pub reads : Negotiates s seqn payload names
  pub offered : says.offers names.kex
  pub plain : is_gex names.kex ≡ false
  pub client : s.side ≡ Client
  pub denied : denies.start names.kex None

pub record DeniesAtGroup (denies : Denies) (s : Setting) (o : Opened) (payload : List ℕ) : Type 0 where
  pub group : DhGroup
  pub read : group_in (fields payload) ≡ Ok group
  pub inside : IsInside s.config.gex group
  pub denied : denies.start o.names.kex (Some group)

pub record DeniesAtReply (denies : Denies) (o : Opened) (gex : Option GexChosen) (local payload : List ℕ) : Type 0 where
  pub front : ReplyFront
  pub read : reply_front (fields payload) ≡ Ok front
  pub denied : denies.reply o.names.kex (group_of gex) local front.value

pub record DeniesAtRequest (denies : Denies) (payload : List ℕ) : Type 0 where
  pub sizes : GexParams
  pub read : sizes_in (fields payload) ≡ Ok sizes
  pub denied : denies.lookup sizes

pub record DeniesAtValue (denies : Denies) (o : Opened) (gex : Option GexChosen) (payload : List ℕ) : Type 0 where
  pub value : List ℕ
  pub read : value_in (fields payload) ≡ Ok value
  pub denied : denies.value o.names.kex (group_of gex) value

-- the agreement or the lookup refuses
abbrev pub PartDenies : Says → Denies → Setting → Stage → ℕ → List ℕ → Type 0
PartDenies says denies s (Created own) seqn payload = DeniesAtKexinit says denies s seqn payload
PartDenies says denies s (AwaitsGroup o) seqn payload = DeniesAtGroup denies s o payload
PartDenies says denies s (AwaitsReply o gex local public) seqn payload = DeniesAtReply denies o gex local payload
PartDenies says denies s (AwaitsRequest o) seqn payload = DeniesAtRequest denies payload
PartDenies says denies s (AwaitsValue o gex) seqn payload = DeniesAtValue denies o gex payload
PartDenies says denies s (AwaitsNewkeys exchange made host) seqn payload = ⊥

-- the signature of a reply is refused
pub record IsMissigned (says : Says) (denies : Denies) (s : Setting) (o : Opened) (gex : Option GexChosen)
    (local public payload : List ℕ) : Type 0 where
  pub front : ReplyFront
  pub signature : List ℕ
  pub secret : List ℕ
  pub read : reply_front (fields payload) ≡ Ok front
  pub rest : value_in front.behind ≡ Ok signature
  pub agrees : says.client_makes o.names.kex (group_of gex) local public
      → says.agrees o.names.kex (group_of gex) public front.value secret
  pub denied : denies.verify (host_with o.names front.host)
      (made_of s.cause o.names (exchange_of s o gex public front.value) front.host (Some secret)).hash (judged signature)

abbrev pub SignatureDenied : Says → Denies → Setting → Stage → List ℕ → Type 0
SignatureDenied says denies s (Created own) payload = ⊥
SignatureDenied says denies s (AwaitsGroup o) payload = ⊥
SignatureDenied says denies s (AwaitsReply o gex local public) payload = IsMissigned says denies s o gex local public payload
SignatureDenied says denies s (AwaitsRequest o) payload = ⊥
SignatureDenied says denies s (AwaitsValue o gex) payload = ⊥
SignatureDenied says denies s (AwaitsNewkeys exchange made host) payload = ⊥

-- signing is refused
abbrev pub SigningDenied : Setting → Denies → Stage → List ℕ → Type 0
SigningDenied s denies (Created own) payload = ⊥
SigningDenied s denies (AwaitsGroup o) payload = ⊥
SigningDenied s denies (AwaitsReply o gex local public) payload = ⊥
SigningDenied s denies (AwaitsRequest o) payload = ⊥
SigningDenied s denies (AwaitsValue o gex) payload = ((value : List ℕ) × (value_in (fields payload) ≡ Ok value))
    × denies.sign s.config
SigningDenied s denies (AwaitsNewkeys exchange made host) payload = ⊥

-- a message made of a part's value that is too long to be sent: the client's value, a group, a reply
pub record IsLongValue (says : Says) (o : Opened) (group : Option DhGroup) (n : ℕ) : Type 0 where
  pub local : List ℕ
  pub public : List ℕ
  pub makes : says.client_makes o.names.kex group local public
  pub small : says.value_small public
  pub size : n ≡ 5 + length public

-- a client's value at the KEXINIT
pub record IsLongStart (says : Says) (s : Setting) (own : List ℕ) (seqn : ℕ) (payload : List ℕ) (n : ℕ) : Type 0 where
  pub names : Names
  pub reads : Negotiates s seqn payload names
  pub offered : says.offers names.kex
  pub plain : is_gex names.kex ≡ false
  pub client : s.side ≡ Client
  pub long : IsLongValue says (record { names = names; own_kexinit = own; peer_kexinit = payload }) None n

pub record IsLongGroup (says : Says) (payload : List ℕ) (n : ℕ) : Type 0 where
  pub sizes : GexParams
  pub group : DhGroup
  pub read : sizes_in (fields payload) ≡ Ok sizes
  pub finds : says.finds sizes group
  pub size : n ≡ length (group_message group)

pub record IsLongReply (says : Says) (s : Setting) (o : Opened) (gex : Option GexChosen) (payload : List ℕ) (n : ℕ) : Type 0 where
  pub value : List ℕ
  pub own_value : List ℕ
  pub shown : Presented
  pub signature : List ℕ
  pub read : value_in (fields payload) ≡ Ok value
  pub presents : presented s.config.host o.names.host_key_is_certificate o.names.key ≡ Some shown
  pub makes : says.server_makes o.names.kex (group_of gex) value own_value
  pub value_small : says.value_small own_value
  pub signature_small : says.signature_small signature
  pub size : n ≡ length (reply_message (is_gex o.names.kex) shown.blob own_value signature)

abbrev pub IsTooLong : Says → Setting → Stage → ℕ → List ℕ → ℕ → Type 0
IsTooLong says s (Created own) seqn payload n = IsLongStart says s own seqn payload n
IsTooLong says s (AwaitsGroup o) seqn payload n = (group : DhGroup) × (group_in (fields payload) ≡ Ok group)
    × IsLongValue says o (Some group) n
IsTooLong says s (AwaitsReply o gex local public) seqn payload n = ⊥
IsTooLong says s (AwaitsRequest o) seqn payload n = IsLongGroup says payload n
IsTooLong says s (AwaitsValue o gex) seqn payload n = IsLongReply says s o gex payload n
IsTooLong says s (AwaitsNewkeys exchange made host) seqn payload n = ⊥

abbrev pub IsOutOfRange : Setting → Stage → List ℕ → Type 0
IsOutOfRange s (Created own) payload = ⊥
IsOutOfRange s (AwaitsGroup o) payload = (group : DhGroup) × (group_in (fields payload) ≡ Ok group)
    × IsOutside s.config.gex group
IsOutOfRange s (AwaitsReply o gex local public) payload = ⊥
IsOutOfRange s (AwaitsRequest o) payload = ⊥
IsOutOfRange s (AwaitsValue o gex) payload = ⊥
IsOutOfRange s (AwaitsNewkeys exchange made host) payload = ⊥

-- what is refused of the first stage alone
abbrev pub IsUnoffered : Says → Setting → Stage → ℕ → List ℕ → Type 0
IsUnoffered says s (Created own) seqn payload = (names : Names) × Negotiates s seqn payload names
    × (says.offers names.kex → ⊥)
IsUnoffered says s (AwaitsGroup o) seqn payload = ⊥
IsUnoffered says s (AwaitsReply o gex local public) seqn payload = ⊥
IsUnoffered says s (AwaitsRequest o) seqn payload = ⊥
IsUnoffered says s (AwaitsValue o gex) seqn payload = ⊥
IsUnoffered says s (AwaitsNewkeys exchange made host) seqn payload = ⊥

abbrev pub IsLate : Setting → Stage → ℕ → List ℕ → Type 0
IsLate s (Created own) seqn payload = (names : Names) × (kexinit_read s payload ≡ Ok names)
    × (IsFirst s.cause names.strict_kex seqn → ⊥)
IsLate s (AwaitsGroup o) seqn payload = ⊥
IsLate s (AwaitsReply o gex local public) seqn payload = ⊥
IsLate s (AwaitsRequest o) seqn payload = ⊥
IsLate s (AwaitsValue o gex) seqn payload = ⊥
IsLate s (AwaitsNewkeys exchange made host) seqn payload = ⊥

abbrev pub IsCreated : Stage → Type 0
IsCreated stage = (own : List ℕ) × (stage ≡ Created own)

-- Why a message is refused.
abbrev pub RefusesMessage : Says → Denies → Setting → Stage → ℕ → List ℕ → Error → Type 0
RefusesMessage says denies s stage seqn payload errors.KexInit = ((is_last stage ≡ false) × IsWrong stage payload)
    ⊎ (IsDue stage payload × IsOutOfRange s stage payload)
RefusesMessage says denies s stage seqn payload errors.UnknownAlgo = IsDue stage payload
    × IsUnoffered says s stage seqn payload
RefusesMessage says denies s stage seqn payload (errors.NoCommonAlgo kind ours theirs) = IsDue stage payload
    × IsCreated stage × (kexinit_read s payload ≡ Err (NoCommon kind ours.0.items theirs.0.items))
RefusesMessage says denies s stage seqn payload errors.Version = ⊥
RefusesMessage says denies s stage seqn payload errors.Kex = ((is_last stage ≡ true) × IsWrong stage payload)
    ⊎ (IsDue stage payload × PartDenies says denies s stage seqn payload)
RefusesMessage says denies s stage seqn payload errors.PacketAuth = ⊥
RefusesMessage says denies s stage seqn payload errors.Inconsistent = IsDue stage payload × IsCreated stage
    × (kexinit_read s payload ≡ Err Inconsistent)
RefusesMessage says denies s stage seqn payload errors.IndexOutOfBounds = ⊥
RefusesMessage says denies s stage seqn payload errors.UnknownKey = ⊥
RefusesMessage says denies s stage seqn payload errors.WrongServerSig = IsDue stage payload
    × SignatureDenied says denies s stage payload
RefusesMessage says denies s stage seqn payload (errors.PacketSize n) = IsDue stage payload × (longest_payload < n)
    × IsTooLong says s stage seqn payload n
RefusesMessage says denies s stage seqn payload errors.Disconnect = ⊥
RefusesMessage says denies s stage seqn payload errors.DecryptionError = ⊥
RefusesMessage says denies s stage seqn payload errors.IO = ⊥
RefusesMessage says denies s stage seqn payload (errors.StrictKeyExchangeViolation type place) = IsDue stage payload
    × IsLate s stage seqn payload × (type ≡ 20) × (place ≡ (seqn + (2 ^ 32 - 1)) % 2 ^ 32)
RefusesMessage says denies s stage seqn payload errors.Signature = IsDue stage payload
    × SigningDenied s denies stage payload
RefusesMessage says denies s stage seqn payload (errors.SshEncoding fault) = IsDue stage payload
    × IsBadlyEncoded s stage payload fault
RefusesMessage says denies s stage seqn payload (errors.InvalidConfig fault) = ⊥
RefusesMessage says denies s stage seqn payload errors.Memory = Unit {0}
