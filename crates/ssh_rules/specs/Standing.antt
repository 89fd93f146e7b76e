-- A transport, as contracts see it, and what its calls do.
use Rattle.std.specs.Prelude.{◌≡◌, ℕ, ◌-◌, ◌<◌, Bool, true, false, List, [], ◌∷◌, ◌++◌, length, drop, min, ◌⊎◌}
use Rattle.ssh_wire.specs.Lines as lines
use Rattle.ssh_wire.specs.Lines.{IdFound, id_of, id_line, id_text}
use Rattle.ssh_wire.specs.Reading.{IdReading, Waiting, Heard, Failed, still_allowed, reading_left}
use Rattle.ssh_wire.specs.declared.side.Side.{Side}
use Rattle.ssh_wire.specs.declared.side.Side.TheVariants.{Client, Server}
use Rattle.ssh_packet.specs.Front.{Fault, Unfinished, Refused, Whole, front_of}
use Rattle.ssh_packet.specs.Sealing.{Item}
use Rattle.ssh_kex.specs.declared.config.Config.{Config}
use Rattle.ssh_kex.specs.Setting.{Says}
use Rattle.ssh_rules.specs.Machine.{SideState, Spot, Where, Silent, Outside, Inside, Asked, first_state, Event, IdHeard, PayloadSubmitted, ExchangeBegun, AnswerSent, PayloadSent, MessageTaken, GuessDropped, PayloadDelivered, PacketDropped, ExchangeFinished, Steps, IsQuiet}
use Rattle.ssh_rules.specs.Log.{handled, delivered_in, submitted_in, causes_in, sent_bytes, read_bytes, asked_in}

-- a transport by its value
pub record Standing : Type 0 where
  pub side : Side
  pub config : Config
  pub state : SideState
  -- the id line, while it is read
  pub line : IdReading
  pub output : List ℕ
  -- what waits behind the id line
  pub waiting : List ℕ
  pub delivered : List (List ℕ)
  pub failed : Bool

-- a client lets other lines pass before the id line (RFC 4253 section 4.2)
abbrev pub lets_pass : Side → Bool
lets_pass Client = true
lets_pass Server = false

-- the bytes of an unfinished line or packet
abbrev pub unfinished_by : IdReading → List ℕ → List ℕ
unfinished_by (Waiting bytes others) waiting = bytes
unfinished_by (Heard text) waiting = waiting
unfinished_by Failed waiting = []

-- what is kept of the input
abbrev pub unfinished : Standing → List ℕ
unfinished t = unfinished_by t.line t.waiting

-- ---- input that is kept before anything is made of it

abbrev pub line_with : IdReading → List ℕ → IdReading
line_with (Waiting bytes others) more = Waiting (bytes ++ more) others
line_with (Heard text) more = Heard text
line_with Failed more = Failed

abbrev pub waiting_with : IdReading → (waiting more : List ℕ) → List ℕ
waiting_with (Waiting bytes others) waiting more = waiting
waiting_with (Heard text) waiting more = waiting ++ more
waiting_with Failed waiting more = waiting

-- more bytes are kept of the input
abbrev pub with_input : Standing → List ℕ → Standing
with_input t more = record t { line = line_with t.line more; waiting = waiting_with t.line t.waiting more }

-- the most that is kept of the input: the longest packet with its tag
abbrev pub most_unfinished : ℕ
most_unfinished = 262245

-- how many of n bytes there is room for
abbrev pub input_room : Standing → ℕ → ℕ
input_room t n = min n (most_unfinished - length (unfinished t))

-- a new transport: it has written its id line
abbrev pub IsNew : Side → Config → Standing → Type 0
IsNew side config t =
    t ≡ record {
      side = side;
      config = config;
      state = first_state;
      line = Waiting [] 0;
      output = id_line config.id;
      waiting = [];
      delivered = [];
      failed = false;
    }

-- no id line is heard in them
abbrev pub HearsNone : List Event → Type 0
HearsNone [] = Unit {0}
HearsNone (IdHeard id ∷ es) = ⊥
HearsNone (PayloadSubmitted p ∷ es) = HearsNone es
HearsNone (ExchangeBegun cause i ∷ es) = HearsNone es
HearsNone (AnswerSent i resets ∷ es) = HearsNone es
HearsNone (PayloadSent i ∷ es) = HearsNone es
HearsNone (MessageTaken i ∷ es) = HearsNone es
HearsNone (GuessDropped i ∷ es) = HearsNone es
HearsNone (PayloadDelivered i ∷ es) = HearsNone es
HearsNone (PacketDropped i ∷ es) = HearsNone es
HearsNone (ExchangeFinished i x ∷ es) = HearsNone es

-- nothing is said of the parts, since none is asked
abbrev pub nothing_said : Says
nothing_said = record {
  agrees = λ name group client server secret. Unit {0};
  client_makes = λ name group local public. Unit {0};
  server_makes = λ name group client public. Unit {0};
  finds = λ sizes group. Unit {0};
  signs = λ host hash signature. Unit {0};
  accepts = λ host hash signature. Unit {0};
  trusts = λ host. Unit {0};
  offers = λ name. Unit {0};
  value_small = λ value. Unit {0};
  signature_small = λ signature. Unit {0};
}

-- Some events lead from a transport to another: the bytes that they write are appended, the payloads that they deliver
-- are queued, and nothing is left undone.
pub record Acts (says : Says) (old : Standing) (events : List Event) (new : Standing) : Type 0 where
  pub side : new.side ≡ old.side
  pub config : new.config ≡ old.config
  pub steps : Steps says old.side old.config (id_text old.config.id) old.state events new.state
  pub output : new.output ≡ old.output ++ sent_bytes old.side old.state.writing events
  pub delivered : new.delivered ≡ old.delivered ++ delivered_in events
  pub quiet : IsQuiet new.config new.state
  pub live : new.failed ≡ false

-- by what is found of it: none of its end yet, or its text, which is heard first
abbrev pub HearsFrom : Side → IdFound → (bytes : List ℕ) (others : ℕ) → List Event → IdReading → (behind : List ℕ)
    → Type 0
HearsFrom side lines.NotYet bytes others events line behind =
    (events ≡ []) × (line ≡ reading_left (still_allowed (lets_pass side) others) bytes others) × (behind ≡ [])
HearsFrom side (lines.Id text end) bytes others events line behind =
    ((more : List Event) × (events ≡ IdHeard text ∷ more) × HearsNone more) × (line ≡ Heard text)
    × (behind ≡ drop end bytes)
HearsFrom side lines.Version bytes others events line behind = ⊥

-- by how far it had come
abbrev pub ReadsLineFrom : Side → IdReading → (waiting piece : List ℕ) → List Event → IdReading → (behind : List ℕ)
    → Type 0
ReadsLineFrom side (Waiting bytes others) waiting piece events line behind =
    HearsFrom side (id_of (still_allowed (lets_pass side) others) (bytes ++ piece)) (bytes ++ piece) others events line
    behind
ReadsLineFrom side (Heard text) waiting piece events line behind =
    HearsNone events × (line ≡ Heard text) × (behind ≡ waiting ++ piece)
ReadsLineFrom side Failed waiting piece events line behind = ⊥

-- what is read of the id line, and what stands behind it
abbrev pub ReadsIdLine : Standing → List ℕ → List Event → IdReading → List ℕ → Type 0
ReadsIdLine old piece events line behind = ReadsLineFrom old.side old.line old.waiting piece events line behind

-- no whole packet and no fault waits at a spot
abbrev pub WaitsInPart : Spot → List ℕ → Type 0
WaitsInPart at waiting = front_of at.sealing at.number waiting ≡ Unfinished

-- nothing of this is the caller's own
abbrev pub IsInput : List Event → Type 0
IsInput events = (submitted_in events ≡ []) × (asked_in (causes_in events) ≡ 0)

-- A piece was taken: what stood behind the id line are the packets handled and what is left.
pub record TakesInput (says : Says) (old : Standing) (piece : List ℕ) (new : Standing) : Type 0 where
  pub events : List Event
  pub acts : Acts says old events new
  pub input : IsInput events
  pub behind : List ℕ
  pub line : ReadsIdLine old piece events new.line behind
  pub read : behind ≡ read_bytes old.side old.state.reading events ++ new.waiting
  pub part : WaitsInPart new.state.reading new.waiting
  pub small : length (unfinished new) < 262245

-- what a piece is refused for: a fault, a packet, a line that is no version line, or want of memory
pub data RefusalCause : Type 0 where
  OfFault : (fault : Fault) → RefusalCause
  OfPacket : (item : Item) → RefusalCause
  OfVersion : RefusalCause
  OfMemory : RefusalCause

-- the cause stands at the front of the bytes that were left
abbrev pub StandsNext : RefusalCause → SideState → List ℕ → Type 0
StandsNext (OfFault fault) st left = front_of st.reading.sealing st.reading.number left ≡ Refused fault
StandsNext (OfPacket i) st left =
    (rest : List ℕ) × (front_of st.reading.sealing st.reading.number left ≡ Whole i rest)
StandsNext OfVersion st left = Unit {0}
StandsNext OfMemory st left = Unit {0}

-- with the piece, what stands there is no id line
abbrev pub IsNoId : Side → IdReading → List ℕ → List Event → Type 0
IsNoId side (Waiting bytes others) piece events =
    (events ≡ []) × (id_of (still_allowed (lets_pass side) others) (bytes ++ piece) ≡ lines.Version)
IsNoId side (Heard text) piece events = ⊥
IsNoId side Failed piece events = ⊥

-- what is read of the id line, by the cause: Version is that of the line, and Memory may come before anything is done
abbrev pub HearsBy : RefusalCause → Standing → List ℕ → List Event → IdReading → List ℕ → Type 0
HearsBy OfVersion old piece events line behind = IsNoId old.side old.line piece events
HearsBy OfMemory old piece events line behind = (events ≡ []) ⊎ ReadsIdLine old piece events line behind
HearsBy (OfFault fault) old piece events line behind = ReadsIdLine old piece events line behind
HearsBy (OfPacket i) old piece events line behind = ReadsIdLine old piece events line behind

-- a packet or a fault is looked at when nothing is left to do; memory may be wanting for what is
abbrev pub IsIdleBefore : RefusalCause → Config → SideState → Type 0
IsIdleBefore OfMemory config st = st.called ≡ false
IsIdleBefore OfVersion config st = IsQuiet config st
IsIdleBefore (OfFault fault) config st = IsQuiet config st
IsIdleBefore (OfPacket i) config st = IsQuiet config st

-- A piece was refused: some events came before, up to the state in which what is refused stood next; then nothing more
-- is done. What was delivered stays, nothing is left of the input, and what the refused packet would write isn't
-- written. Of that state the exchanges that were recorded are all that is kept.
pub record RefusesInput (says : Says) (old : Standing) (piece : List ℕ) (cause : RefusalCause)
    (new : Standing) : Type 0 where
  pub at : SideState
  pub events : List Event
  pub side : new.side ≡ old.side
  pub config : new.config ≡ old.config
  pub steps : Steps says old.side old.config (id_text old.config.id) old.state events at
  pub input : IsInput events
  pub output : new.output ≡ old.output ++ sent_bytes old.side old.state.writing events
  pub delivered : new.delivered ≡ old.delivered ++ delivered_in events
  pub records : new.state.records ≡ at.records
  pub failed : new.failed ≡ true
  pub nothing : unfinished new ≡ []
  pub done : IsIdleBefore cause new.config at
  pub line : IdReading
  pub behind : List ℕ
  pub heard : HearsBy cause old piece events line behind
  pub left : List ℕ
  pub read : behind ≡ read_bytes old.side old.state.reading events ++ left
  pub next : StandsNext cause at left

-- a payload was submitted: sealed outside an exchange, held inside one
pub record Submitted (says : Says) (old : Standing) (payload : List ℕ) (new : Standing) : Type 0 where
  pub events : List Event
  pub acts : Acts says old events new
  pub one : submitted_in events ≡ payload ∷ []
  pub none_read : handled events ≡ []
  pub unasked : asked_in (causes_in events) ≡ 0
  pub silent : HearsNone events
  pub line : new.line ≡ old.line
  pub waiting : new.waiting ≡ old.waiting

-- whether a side is outside an exchange
abbrev pub is_outside : Where → Bool
is_outside Silent = false
is_outside Outside = true
is_outside (Inside stage) = false

-- an exchange was begun that was asked for
pub record BeginsAsked (says : Says) (old new : Standing) : Type 0 where
  pub item : Item
  pub acts : Acts says old (ExchangeBegun Asked item ∷ []) new
  pub line : new.line ≡ old.line
  pub waiting : new.waiting ≡ old.waiting

-- by whether the side was outside
abbrev pub RekeyedFrom : Bool → Says → Standing → Standing → Type 0
RekeyedFrom true says old new = BeginsAsked says old new
RekeyedFrom false says old new = new ≡ old

-- an exchange was begun outside one; inside one nothing changes
abbrev pub Rekeyed : Says → Standing → Standing → Type 0
Rekeyed says old new = RekeyedFrom (is_outside old.state.stands) says old new
