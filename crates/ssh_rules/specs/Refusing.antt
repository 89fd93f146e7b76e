-- Why one side refuses a packet that stands next.
use Rattle.std.specs.Prelude.{◌++◌, ◌≡◌, ℕ, ◌-◌, ◌&&◌, nat_le, true, false, List, [], Some, ◌⊎◌}
use Rattle.ssh_packet.specs.Errors.{error_of, open_error}
use Rattle.ssh_packet.specs.Sealing.{Item, next_number}
use Rattle.ssh_wire.specs.Lines.{id_text}
use Rattle.ssh_wire.specs.Outside.{Rose}
use Rattle.ssh_wire.specs.Sides.{other_side}
use Rattle.ssh_wire.specs.declared.error.Error.{Error}
use Rattle.ssh_wire.specs.declared.error.Error.TheVariants as errors
use Rattle.ssh_wire.specs.declared.side.Side.{Side}
use Rattle.ssh_negotiate.specs.declared.negotiation.Names.{Names}
use Rattle.ssh_kex.specs.Messages.{newkeys}
use Rattle.ssh_kex.specs.Parts.{Setup}
use Rattle.ssh_kex.specs.Refusals.{Denies, RefusesMessage}
use Rattle.ssh_kex.specs.Setting.{Says}
use Rattle.ssh_kex.specs.Stages.{AwaitsNewkeys, Stage}
use Rattle.ssh_kex.specs.declared.config.Config.{Config}
use Rattle.ssh_kex.specs.declared.exchange.Exchange.{Exchange}
use Rattle.ssh_kex.specs.declared.exchange.FinishedExchange.{FinishedExchange}
use Rattle.ssh_kex.specs.declared.exchange.ServerHost.{ServerHost}
use Rattle.ssh_rules.specs.Machine.{InOrder, Inside, MayDeliver, Outside, SideState, guesses, names_now, setting}
use Rattle.ssh_rules.specs.MessageTypes.{is_kex_type, is_payload_type, type_of, is_violation}
use Rattle.ssh_rules.specs.Refused.{LooksIn}
use Rattle.ssh_rules.specs.Asking.{AsksAtMost, AsksUntil, PartCalls, kex_count, refused_packet}
use Rattle.ssh_rules.specs.Log.{handled}
use Rattle.ssh_rules.specs.Standing.{OfFault, OfMemory, OfPacket, OfVersion, RefusalCause, RefusesInput, Standing}
use Rattle.ssh_kex.specs.Members.{HostKeysMembers}

-- What it means that host keys don't trust a host: their count of refusals rose, and they don't judge, or the host is
-- none that they trust.
abbrev pub untrusted_of : {H : Type 0} (mh : HostKeysMembers H)
    → H → H → ServerHost → Type 0
untrusted_of mh h h' host = Rose (mh.refused_check h) (mh.refused_check h')
    × ((s : Setup) → mh.judges h h' s → mh.trusts h host ≡ true → ⊥)

-- DISCONNECT (RFC 4253 section 11.1)
pub record IsDisconnect (i : Item) (error : Error) : Type 0 where
  pub type_is : type_of i ≡ 1
  pub error_is : error ≡ errors.Disconnect

-- under strict key exchange, out of order in the first exchange: type and place are told
pub record BreaksOrder (side : Side) (st : SideState) (i : Item) (error : Error) : Type 0 where
  pub stays : type_of i ≡ 1 → ⊥
  pub names : Names
  pub first : st.records ≡ []
  pub read : names_now st.stands ≡ Some names
  pub strict : names.strict_kex ≡ true
  pub violates : is_violation (other_side side) (type_of i) (st.reading.number - guesses names) ≡ true
  pub error_is : error ≡ errors.StrictKeyExchangeViolation (type_of i) (st.reading.number - guesses names)

-- a message that the open exchange refuses, or outside a KEXINIT, that of an exchange which is begun for it
pub record RefusesTaken (says : Says) (denies : Denies) (side : Side) (config : Config) (st : SideState) (i : Item)
    (error : Error) : Type 0 where
  pub stage : Stage
  pub looks : LooksIn st.stands stage
  pub begins : st.stands ≡ Outside → type_of i ≡ 20
  pub ordered : InOrder side st i
  pub is_kex : is_kex_type (type_of i) ≡ true
  pub refuses : RefusesMessage says denies (setting side config (id_text config.id) st) stage
      (next_number st.reading.number) i.payload error

-- the last message of an exchange whose host isn't trusted
pub record IsUntrusted (untrusted : ServerHost → Type 0) (side : Side) (st : SideState) (i : Item) (error : Error) : Type 0 where
  pub exchange : Exchange
  pub made : FinishedExchange
  pub host : ServerHost
  pub inside : st.stands ≡ Inside (AwaitsNewkeys exchange made (Some host))
  pub payload_is : i.payload ≡ newkeys
  pub ordered : InOrder side st i
  pub denied : untrusted host
  pub error_is : error ≡ errors.UnknownKey

-- a message that nothing takes there: outside, one of an exchange that begins none; or one that is no message of an
-- exchange, and no payload that may be delivered
pub record IsOutOfPlace (side : Side) (st : SideState) (i : Item) (error : Error) : Type 0 where
  pub stays : type_of i ≡ 1 → ⊥
  pub ordered : InOrder side st i
  pub not_idle : (nat_le 2 (type_of i) && nat_le (type_of i) 4) ≡ false
  pub place : ((is_kex_type (type_of i) ≡ true) × (st.stands ≡ Outside) × (type_of i ≡ 20 → ⊥))
      ⊎ ((is_kex_type (type_of i) ≡ false) × (is_payload_type (type_of i) ≡ true → MayDeliver st → ⊥))
  pub error_is : error ≡ errors.Inconsistent

-- why a side refuses the packet that stands next
abbrev pub RefusesPacket : Says → Denies → (ServerHost → Type 0) → Side → Config → SideState → Item → Error → Type 0
RefusesPacket says denies untrusted side config st i error = IsDisconnect i error
    ⊎ (BreaksOrder side st i error ⊎ (RefusesTaken says denies side config st i error
    ⊎ (IsUntrusted untrusted side st i error ⊎ IsOutOfPlace side st i error)))

-- what a refused piece is answered with, by its cause and the state at which that stood
abbrev pub AnswersCause : Says → Denies → (ServerHost → Type 0) → Side → Config → RefusalCause → SideState → Error → Type 0
AnswersCause says denies untrusted side config (OfFault fault) st error = error ≡ error_of (open_error fault)
AnswersCause says denies untrusted side config (OfPacket i) st error = RefusesPacket says denies untrusted side config st i error
AnswersCause says denies untrusted side config OfVersion st error = error ≡ errors.Version
AnswersCause says denies untrusted side config OfMemory st error = error ≡ errors.Memory

-- A piece was refused for a cause, by which it is answered.
pub record RefusesPiece (says : Says) (denies : Denies) (untrusted : ServerHost → Type 0) (old : Standing) (piece : List ℕ)
    (error : Error) (new : Standing) : Type 0 where
  pub cause : RefusalCause
  pub refuses : RefusesInput says old piece cause new
  pub answers : AnswersCause says denies untrusted old.side old.config cause refuses.at error

-- The same, with how often the parts were asked up to there: no more than its events and its cause let them be, and each
-- once at most for each message of an exchange, the refused one included.
pub record RefusesPieceAsking (says : Says) (denies : Denies) (untrusted : ServerHost → Type 0) (old : Standing) (piece : List ℕ)
    (error : Error) (new : Standing) (calls calls' : PartCalls) : Type 0 where
  pub refused : RefusesPiece says denies untrusted old piece error new
  pub asks : AsksUntil old.side refused.cause old.state refused.refuses.at calls calls'
  pub few : AsksAtMost (kex_count (handled refused.refuses.events ++ refused_packet refused.cause)) calls calls'
