-- What is done with one packet.
use Rattle.std.specs.Prelude.{◌≡◌, ℕ, ◌<◌, ◌^◌, Bool, true, false, not, is_some, List, [], ◌∷◌, ◌++◌, length, Option, Some, None, IfSome, ◌⊎◌}
use Rattle.ssh_wire.specs.Lines.{id_text}
use Rattle.ssh_wire.specs.Reading.{IdReading, Heard}
use Rattle.ssh_negotiate.specs.Causes.{was_strict}
use Rattle.ssh_negotiate.specs.declared.negotiation.Names.{Names}
use Rattle.ssh_packet.specs.Keys.{opening_of, sealing_of}
use Rattle.ssh_packet.specs.Sealing.{Item, IsAdmissible, next_number, sealed_packet}
use Rattle.ssh_packet.specs.Writing.{Writer, count_after}
use Rattle.ssh_packet.specs.declared.reader.Incoming.{Incoming}
use Rattle.ssh_packet.specs.declared.keys.OpenKey.{OpenKey}
use Rattle.ssh_kex.specs.Setting.{Says, Setting}
use Rattle.ssh_kex.specs.Stages.{Machine, Stage, has_ignored, is_strict, names_in_stage}
use Rattle.ssh_kex.specs.Stepping.{DropsGuess, IsDone, TakesOne}
use Rattle.ssh_kex.specs.declared.exchange.FinishedExchange.{FinishedExchange}
use Rattle.ssh_kex.specs.declared.exchange.NewKeys.{NewKeys}
use Rattle.ssh_kex.specs.declared.exchange.ServerHost.{ServerHost}
use Rattle.ssh_kex.specs.declared.session_state.SessionKexState.{SessionKexState}
use Rattle.ssh_kex.specs.declared.session_state.SessionKexState.TheVariants.{Idle, InProgress, Taken}
use Rattle.ssh_rules.specs.Log.{delivered_in, read_bytes, sent_bytes}
use Rattle.ssh_rules.specs.Machine.{Event, Inside, OrderBy, Outside, PayloadDelivered, Silent, Spot, Steps, Where, names_now, spot_after, spot_renumbered}
use Rattle.ssh_rules.specs.MessageTypes.{type_of}
use Rattle.ssh_rules.specs.Standing.{HearsNone, IsInput}
use Rattle.ssh_transport.specs.Saying.{IsSettled, Opens, setting_of}
use Rattle.ssh_transport.specs.States.{stands_of, state_at}
use Rattle.ssh_transport.specs.declared.session.Disposition.{Disposition}
use Rattle.ssh_transport.specs.declared.session.Disposition.TheVariants.{Delivers, Done, Rekeys}
use Rattle.ssh_transport.specs.declared.session.Session.{Session}

-- ---- the machine of an open exchange

-- the peer's version line was read
abbrev pub IsHeard : IdReading → Type 0
IsHeard line = (text : List ℕ) × (line ≡ Heard text)

-- a strict connection stays strict
abbrev pub IsFlagged : Setting → Option Names → Type 0
IsFlagged s None = Unit {0}
IsFlagged s (Some n) = was_strict s.cause ≡ true → n.strict_kex ≡ true

-- a machine between these
pub record IsBetween (between : Setting) (m : Machine) : Type 0 where
  pub setting_is : m.setting ≡ between
  pub flagged : IsFlagged m.setting (names_in_stage m.stage)

-- a machine of the exchange that this session holds or is to begin
abbrev pub IsOwn : Session → Machine → Type 0
IsOwn s m = IsBetween (setting_of s) m

abbrev pub IsOpenBy : Setting → SessionKexState Machine → Type 0
IsOpenBy between Idle = Unit {0}
IsOpenBy between (InProgress m) = IsBetween between m
IsOpenBy between Taken = ⊥

-- its machine is there, and none was begun before the peer's version line
pub record IsOpen (s : Session) : Type 0 where
  pub machine : IsOpenBy (setting_of s) s.kex
  pub heard : (stands_of s.finished.items s.kex ≡ Silent → ⊥) → IsHeard s.line

-- ---- a packet

-- a packet that a reader handed out at a spot: `seqn` is its number plus one
pub record IsReadAt (at : Spot) (seqn : ℕ) (payload : List ℕ) (i : Item) : Type 0 where
  pub small : at.number < 2 ^ 32
  pub seqn_is : seqn ≡ next_number at.number
  pub payload_is : payload ≡ i.payload
  pub admissible : IsAdmissible at.sealing i

-- it passes the order test
abbrev pub Passes : Session → ℕ → ℕ → Type 0
Passes s seqn type = (number : ℕ) (i : Item) → number < 2 ^ 32 → seqn ≡ next_number number → type_of i ≡ type
    → OrderBy s.side number i s.finished.items (names_now (stands_of s.finished.items s.kex))

-- whether the first exchange runs under strict key exchange
abbrev pub is_ordered : List FinishedExchange → Option Names → Bool
is_ordered [] names = is_strict names
is_ordered (x ∷ records) names = false

-- whether a wrong guess was dropped before
abbrev pub counts_guess : Option Names → Bool
counts_guess names = has_ignored names

-- whether payloads may come there: outside, or in a later exchange before the peer's KEXINIT
abbrev pub may_deliver_at : List FinishedExchange → Stage → Bool
may_deliver_at [] stage = false
may_deliver_at (x ∷ records) stage = not (is_some (names_in_stage stage))

abbrev pub may_deliver_by : List FinishedExchange → Where → Bool
may_deliver_by records Silent = false
may_deliver_by records Outside = true
may_deliver_by records (Inside stage) = may_deliver_at records stage

-- what a packet comes to: a payload that is delivered, nothing, or the key of what follows and whether its numbers begin
-- anew
pub data Outcome : Type 0 where
  GivesPayload : Outcome
  GivesNothing : Outcome
  GivesKeys : OpenKey → Bool → Outcome

-- by what was done with it, and the key that is left
abbrev pub outcome_of : Disposition → OpenKey → Outcome
outcome_of Delivers key = GivesPayload
outcome_of Done key = GivesNothing
outcome_of (Rekeys again) key = GivesKeys key again

-- the key stays, unless the packet ended an exchange
abbrev pub KeepsKey : Disposition → OpenKey → OpenKey → Type 0
KeepsKey Delivers key key' = key' ≡ key
KeepsKey Done key key' = key' ≡ key
KeepsKey (Rekeys again) key key' = Unit {0}

-- where the next packet is read
abbrev pub spot_behind : Outcome → Spot → Item → Spot
spot_behind GivesPayload at i = spot_after at i
spot_behind GivesNothing at i = spot_after at i
spot_behind (GivesKeys opening again) at i =
    spot_renumbered again (record { sealing = opening_of opening; number = next_number at.number })

-- how many bytes were read then
abbrev pub read_behind : Outcome → ℕ → Item → ℕ
read_behind GivesPayload read i = count_after read (length i.payload)
read_behind GivesNothing read i = count_after read (length i.payload)
read_behind (GivesKeys opening again) read i = 0

abbrev pub delivered_by : Outcome → Item → List (List ℕ)
delivered_by GivesPayload i = i.payload ∷ []
delivered_by GivesNothing i = []
delivered_by (GivesKeys opening again) i = []

-- the events of one packet
pub record DoesWith (says : Says) (s : Session) (at : Spot) (read : ℕ) (i : Item) (answer : Outcome) (s' : Session)
    : Type 0 where
  pub events : List Event
  pub steps : Steps says s.side s.config.now (id_text s.config.now.id) (state_at s at read) events
      (state_at s' (spot_behind answer at i) (read_behind answer read i))
  pub output : s'.writer.output ≡ s.writer.output
      ++ sent_bytes s.side (record { sealing = s.writer.sealing; number = s.writer.number }) events
  pub bytes : read_bytes s.side at events ≡ sealed_packet at.sealing at.number i
  pub delivered : delivered_in events ≡ delivered_by answer i
  -- a payload is handed up, and no more
  pub alone : answer ≡ GivesPayload → events ≡ PayloadDelivered i ∷ []
  pub input : IsInput events
  pub silent : HearsNone events

-- one packet was handled, wherever it was read
abbrev pub Handles : Says → Session → ℕ → List ℕ → Outcome → Session → Type 0
Handles says s seqn payload answer s' = (at : Spot) (read : ℕ) (i : Item) → IsReadAt at seqn payload i
    → IsSettled s read → DoesWith says s at read i answer s'

-- ---- what the machine does with it

-- the keys of an exchange were taken up
abbrev pub Installs : Session → NewKeys → Outcome → Session → Type 0
Installs s k GivesPayload s' = ⊥
Installs s k GivesNothing s' = ⊥
Installs s k (GivesKeys opening again) s' = (opening ≡ k.cipher.value.remote_to_local) × (again ≡ k.names.strict_kex)
    × (s'.finished.items ≡ s.finished.items
    ++ record { names = k.names; hash = k.hash; session_id = k.session_id; keys = k.keys } ∷ [])
    × (s' ≡ record s {
      writer = record s.writer { sealing = sealing_of k.cipher.value.local_to_remote; count = 0 };
      kex = Idle;
      finished = s'.finished;
    })

-- the machine awaits more
pub record Awaits (says : Says) (s : Session) (m : Machine) (i : Incoming) (s' : Session) : Type 0 where
  pub next : Machine
  pub reset : Bool
  pub written : Writer
  pub does : DropsGuess m s.writer next reset written ⊎ TakesOne says m i s.writer next reset written
  pub writer_is : s'.writer ≡ record written {
    number = (spot_renumbered reset
        (record { sealing = written.sealing; number = written.number })).number;
  }
  pub becomes : s' ≡ record s { writer = s'.writer; kex = InProgress next }

-- the machine is at its end
pub record Ended (says : Says) (s : Session) (m : Machine) (i : Incoming) (answer : Outcome) (s' : Session) : Type 0
  where
    pub host : Option ServerHost
    pub newkeys : NewKeys
    pub written : Writer
    pub done : IsDone m i s.writer host newkeys written
    pub trusted : IfSome host says.trusts
    pub installs : Installs (record s { writer = written }) newkeys answer s'

-- a message was handed to the machine
abbrev pub Moves : Says → Session → Machine → Incoming → Outcome → Session → Type 0
Moves says s m i GivesPayload s' = ⊥
Moves says s m i GivesNothing s' = Awaits says s m i s'
Moves says s m i (GivesKeys opening again) s' = Ended says s m i (GivesKeys opening again) s'

-- the machine that a message is for: that of the open exchange, or outside one that of an exchange begun for it
abbrev pub IsFor : Session → Machine → Session → Type 0
IsFor s m s' = (Opens s m s' × (stands_of s.finished.items s.kex ≡ Outside))
    ⊎ ((s.kex ≡ InProgress m) × (s' ≡ record s { kex = Taken }))

-- an exchange was begun, be it one that ended
abbrev pub IsBegun : Session → Type 0
IsBegun s = stands_of s.finished.items s.kex ≡ Silent → ⊥
