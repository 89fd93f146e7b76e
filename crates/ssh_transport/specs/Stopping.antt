-- What a refusal leaves, call by call.
use Rattle.std.specs.Prelude.{◌≡◌, [], ℕ, ◌-◌, ◌<◌, ◌≤◌, ◌^◌, true, false, if◌then◌else◌, Option, Some, Err, List, ◌++◌, ◌⊎◌}
use Rattle.ssh_wire.specs.Lines.{id_text}
use Rattle.ssh_wire.specs.Reading.{Feeds, IdReading}
use Rattle.ssh_wire.specs.Sides.{other_side}
use Rattle.ssh_wire.specs.declared.error.Error.{Error}
use Rattle.ssh_wire.specs.declared.error.Error.TheVariants as errors
use Rattle.ssh_packet.specs.Sealing.{Item, next_number}
use Rattle.ssh_packet.specs.Writing.{Writer}
use Rattle.ssh_packet.specs.declared.reader.Incoming.{Incoming}
use Rattle.ssh_kex.specs.Refusals.{Denies, RefusesMessage}
use Rattle.ssh_kex.specs.Setting.{Says}
use Rattle.ssh_kex.specs.Stages.{Machine}
use Rattle.ssh_kex.specs.Stepping.{IsDone}
use Rattle.ssh_kex.specs.declared.exchange.NewKeys.{NewKeys}
use Rattle.ssh_kex.specs.declared.exchange.ServerHost.{ServerHost}
use Rattle.ssh_kex.specs.declared.session_state.SessionKexState.{SessionKexState}
use Rattle.ssh_kex.specs.declared.session_state.SessionKexState.TheVariants.{Idle, InProgress, Taken}
use Rattle.ssh_rules.specs.Asking.{kex_count}
use Rattle.ssh_rules.specs.Log.{delivered_in, handled, read_bytes, sent_bytes}
use Rattle.ssh_rules.specs.Machine.{Event, Outside, SideState, Spot, Steps, names_now}
use Rattle.ssh_rules.specs.MessageTypes.{is_violation}
use Rattle.ssh_rules.specs.Polling.{IsCostly}
use Rattle.ssh_rules.specs.Refusing.{AnswersCause, RefusesPacket}
use Rattle.ssh_rules.specs.Standing.{HearsBy, HearsNone, IsIdleBefore, IsInput, OfVersion, RefusalCause, StandsNext, is_outside, lets_pass}
use Rattle.ssh_transport.specs.Handling.{IsReadAt, counts_guess, is_ordered}
use Rattle.ssh_transport.specs.States.{bare_of, reading_spot, stands_of, state_at}
use Rattle.ssh_transport.specs.declared.connection.Connection.{Connection}
use Rattle.ssh_transport.specs.declared.session.Session.{Session}

-- the host of an exchange isn't trusted at its end
pub record RefusesHost (untrusted : ServerHost → Type 0) (m : Machine) (i : Incoming) (error : Error) : Type 0 where
  pub host : ServerHost
  pub newkeys : NewKeys
  pub old : Writer
  pub new : Writer
  pub done : IsDone m i old (Some host) newkeys new
  pub denied : untrusted host
  pub error_is : error ≡ errors.UnknownKey

-- why a message that was handed to the machine is refused
abbrev pub RefusesMove : Says → Denies → (ServerHost → Type 0) → Machine → Incoming → Error → Type 0
RefusesMove says denies untrusted m i error = RefusesMessage says denies m.setting m.stage i.seqn i.payload.now error
    ⊎ RefusesHost untrusted m i error

-- more may stand behind the output, and nothing was recorded
pub record Appends (s s' : Session) : Type 0 where
  pub more : List ℕ
  pub output : s'.writer.output ≡ s.writer.output ++ more
  pub records : s'.finished.items ≡ s.finished.items

-- one packet is refused, wherever it was read
abbrev pub Refuses : Says → Denies → (ServerHost → Type 0) → Session → ℕ → List ℕ → Error → Type 0
Refuses says denies untrusted s seqn payload error = (at : Spot) (read : ℕ) (i : Item) → IsReadAt at seqn payload i
    → RefusesPacket says denies untrusted s.side s.config.now (state_at s at read) i error

-- Some packets that waited were read, up to a state at which the next is refused, or memory was wanting.
pub record Stops (says : Says) (denies : Denies) (untrusted : ServerHost → Type 0)
    (asked : RefusalCause → SideState → Type 0) (c : Connection) (error : Error)
    (c' : Connection) : Type 0 where
  pub cause : RefusalCause
  pub state : SideState
  pub events : List Event
  pub steps : Steps says c.session.side c.session.config.now (id_text c.session.config.now.id)
      (state_at c.session (reading_spot c) c.reader.count) events state
  pub output : c'.session.writer.output ≡ c.session.writer.output
      ++ sent_bytes c.session.side (record { sealing = c.session.writer.sealing; number = c.session.writer.number })
      events
  pub delivered : c'.delivered.items ≡ c.delivered.items ++ delivered_in events
  pub records : c'.session.finished.items ≡ state.records
  pub input : IsInput events
  pub silent : HearsNone events
  pub left : List ℕ
  pub bytes : c.reader.waiting ≡ read_bytes c.session.side (reading_spot c) events ++ left
  pub done : IsIdleBefore cause c.session.config.now state
  pub next : StandsNext cause state left
  pub line : cause ≡ OfVersion → ⊥
  pub why : AnswersCause says denies untrusted c.session.side c.session.config.now cause state error
  pub asks : asked cause state

-- A piece was taken up to a packet that is refused, to the end of a line that is no version line, or to want of memory.
pub record Fails (says : Says) (denies : Denies) (untrusted : ServerHost → Type 0)
    (asked : RefusalCause → SideState → Type 0) (c : Connection) (piece : List ℕ) (error : Error)
    (c' : Connection) : Type 0 where
  pub cause : RefusalCause
  pub state : SideState
  pub events : List Event
  pub steps : Steps says c.session.side c.session.config.now (id_text c.session.config.now.id)
      (state_at c.session (reading_spot c) c.reader.count) events state
  pub output : c'.session.writer.output ≡ c.session.writer.output
      ++ sent_bytes c.session.side (record { sealing = c.session.writer.sealing; number = c.session.writer.number })
      events
  pub delivered : c'.delivered.items ≡ c.delivered.items ++ delivered_in events
  pub records : c'.session.finished.items ≡ state.records
  pub input : IsInput events
  pub done : IsIdleBefore cause c.session.config.now state
  pub line : IdReading
  pub behind : List ℕ
  pub heard : HearsBy cause (bare_of c) piece events line behind
  pub left : List ℕ
  pub read : behind ≡ read_bytes c.session.side (reading_spot c) events ++ left
  pub next : StandsNext cause state left
  pub why : AnswersCause says denies untrusted c.session.side c.session.config.now cause state error
  pub asks : asked cause state

-- nothing was written or recorded
pub record IsAsBefore (s s' : Session) : Type 0 where
  pub output : s'.writer.output ≡ s.writer.output
  pub records : s'.finished.items ≡ s.finished.items

-- memory was wanting for the exchange that a limit begins, and nothing was done
pub record WantsKeys (s : Session) (read : ℕ) (s' : Session) : Type 0 where
  pub still : IsAsBefore s s'
  pub outside : stands_of s.finished.items s.kex ≡ Outside
  pub reached : (s.config.now.limits.rekey_write_limit ≤ s.writer.count) ⊎ (s.config.now.limits.rekey_read_limit ≤ read)

-- no version line came, or memory was wanting for the exchange that it begins
abbrev pub HearsNot : Session → List ℕ → Error → Session → Type 0
HearsNot s piece error s' = IsAsBefore s s' × (((line : IdReading)
    × Feeds (lets_pass s.side) s.line piece (Err error) line) ⊎ (error ≡ errors.Memory))

-- the exchange that runs holds no machine, which can't be where it is open
abbrev pub HoldsNone : SessionKexState Machine → Type 0
HoldsNone Idle = Unit {0}
HoldsNone (InProgress m) = ⊥
HoldsNone Taken = Unit {0}

-- outside an exchange a KEXINIT alone begins one
abbrev pub BeginsAt : Session → ℕ → Type 0
BeginsAt s type = stands_of s.finished.items s.kex ≡ Outside → type ≡ 20

-- no machine is there for a message of this type
pub record IsForNone (s : Session) (type : ℕ) : Type 0 where
  pub none : HoldsNone s.kex
  pub inside : type ≡ 20 → is_outside (stands_of s.finished.items s.kex) ≡ false

-- out of order: at the place of any packet whose number plus one this is
abbrev pub BreaksAt : Session → ℕ → ℕ → Error → Type 0
BreaksAt s seqn type error = (number : ℕ) → number < 2 ^ 32 → seqn ≡ next_number number
    → (is_ordered s.finished.items (names_now (stands_of s.finished.items s.kex)) ≡ true)
    × (is_violation (other_side s.side) type (number - (if counts_guess (names_now (stands_of s.finished.items s.kex))
    then 1 else 0)) ≡ true)
    × (error ≡ errors.StrictKeyExchangeViolation type (number -
    (if counts_guess (names_now (stands_of s.finished.items s.kex)) then 1 else 0)))

-- a host is there, and isn't trusted
abbrev pub IsDistrusted : (ServerHost → Type 0) → Option ServerHost → Type 0
IsDistrusted untrusted host = (h : ServerHost) × (host ≡ Some h) × untrusted h

-- no version line came, or memory was wanting for the exchange that it begins, and nothing is delivered
pub record HearsNothing (c : Connection) (piece : List ℕ) (error : Error) (c' : Connection) : Type 0 where
  pub not : HearsNot c.session piece error c'.session
  pub delivered : c'.delivered.items ≡ c.delivered.items

-- Memory was wanting: some packets were handled, and of these or the next one is a message of an exchange, or the next
-- reaches the limit of what is read.
pub record Wants (says : Says) (c : Connection) : Type 0 where
  pub events : List Event
  pub at : SideState
  pub steps : Steps says c.session.side c.session.config.now (id_text c.session.config.now.id)
      (state_at c.session (reading_spot c) c.reader.count) events at
  pub silent : HearsNone events
  pub unlent : delivered_in events ≡ []
  pub left : List ℕ
  pub bytes : c.reader.waiting ≡ read_bytes c.session.side (reading_spot c) events ++ left
  pub at_cost : (1 ≤ kex_count (handled events)) ⊎ IsCostly c.session.config.now at left
