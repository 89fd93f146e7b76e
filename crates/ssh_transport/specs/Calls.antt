-- What each private call on a connection did: one record a level, over one value of what the parts say.
use Rattle.std.specs.Prelude.{◌≡◌, ◌⊎◌, ◌+◌, ℕ, ◌<◌, ◌≤◌, ◌^◌, Bool, true, false, [], ◌++◌, List, length, Option, None, Some, Result, Ok, Err, IfErr, IfOk, IsTrue, OnErr, OnOk}
use Rattle.rand_core.specs.Stream.{Stream}
use Rattle.rand_core.specs.declared.Rng as rng
use Rattle.ssh_wire.specs.Orders.{is_kex}
use Rattle.ssh_wire.specs.Reading.{waiting_length}
use Rattle.ssh_wire.specs.declared.error.Error.{Error}
use Rattle.ssh_wire.specs.declared.error.Error.TheVariants as errors
use Rattle.ssh_wire.specs.declared.side.Side.{Side}
use Rattle.ssh_packet.specs.Reading.{window_length}
use Rattle.ssh_packet.specs.Stream.{message_type}
use Rattle.ssh_packet.specs.declared.keys.OpenKey.{OpenKey}
use Rattle.ssh_packet.specs.declared.reader.Incoming.{Incoming}
use Rattle.ssh_kex.specs.Refusals.{Denies}
use Rattle.ssh_kex.specs.Members.{AgreementKept, AgreementMembers, GroupLookupMembers, GroupsKept, HostKeysMembers, HostsKept}
use Rattle.ssh_kex.specs.Parts.{KeepsParts}
use Rattle.ssh_kex.specs.Setting.{Says}
use Rattle.ssh_kex.specs.Stages.{Stage}
use Rattle.ssh_kex.specs.Stepping.{denies_of, says_of}
use Rattle.ssh_kex.specs.declared.parts.Parts.{Parts}
use Rattle.ssh_kex.specs.declared.config.Config.{Config}
use Rattle.ssh_kex.specs.declared.exchange.ServerHost.{ServerHost}
use Rattle.ssh_rules.specs.Answering.{tests_by}
use Rattle.ssh_rules.specs.Asking.{AsksForType, counted_by}
use Rattle.ssh_rules.specs.Refusing.{RefusesPieceAsking, untrusted_of}
use Rattle.ssh_rules.specs.Polling.{MayWant, Polls}
use Rattle.ssh_rules.specs.MessageTypes.{is_payload_type}
use Rattle.ssh_rules.specs.Standing.{Rekeyed, Submitted, TakesInput, WaitsInPart, is_outside, nothing_said, unfinished}
use Rattle.ssh_rules.specs.Valid.{is_bad_size, is_good_payload}
use Rattle.ssh_transport.specs.Asking.{AsksTo, PartTally, tally}
use Rattle.ssh_transport.specs.Drawing.{AtMostNext, DrawsFirst, DrawsFirstOn, GoesNext, OpensDrawn, kexinit_packet, packet_with}
use Rattle.ssh_transport.specs.Handling.{Handles, IsBegun, IsHeard, IsOpen, KeepsKey, outcome_of}
use Rattle.ssh_transport.specs.Hearing.{EndsBy}
use Rattle.ssh_transport.specs.Kept.{IsKept, IsLive}
use Rattle.ssh_transport.specs.Saying.{IsFixed, IsFixedIn, Stays}
use Rattle.ssh_transport.specs.Sending.{DrawnBySide, MadeBy, NoneMade, SendsBetween, ServesBetween, ServesCall, WritesDrawn}
use Rattle.ssh_transport.specs.States.{CanBegin, IsUnheard, WaitsBehind, emptied, reading_spot, standing_of, stands_of}
use Rattle.ssh_transport.specs.Stopping.{Fails, HearsNothing, IsAsBefore, Refuses, Stops, Wants}
use Rattle.ssh_transport.specs.Submitting.{Breaks, HoldsAlone}
use Rattle.ssh_transport.specs.Taking.{HandlesOne, Hears, IfPacket, PollsOne, Reads, Takes, TakesPayload, kept_by, lent_by, read_as, read_by}
use Rattle.ssh_transport.specs.declared.connection.Connection.{Connection}
use Rattle.ssh_transport.specs.declared.connection.PacketRead.{PacketRead}
use Rattle.ssh_transport.specs.declared.connection.PacketRead.TheVariants.{Nothing, Packet, Payload}
use Rattle.ssh_transport.specs.declared.session.Disposition.{Disposition}
use Rattle.ssh_transport.specs.declared.session.Disposition.TheVariants.{Delivers}
use Rattle.ssh_transport.specs.declared.session.Session.{Session}

-- What the components of a side say in a call, from the state in which it found them to that in which it left them.
pub record PartsCall : Type 1 where
  pub says : Config → Says
  pub denies : Denies
  pub distrusts : ServerHost → Type 0
  pub keeps : Type 0
  pub before : PartTally
  pub after : PartTally
  -- which values the agreement of a side draws from the random stream
  pub draws : Side → Stream → Stream → Type 0
  -- which values one step of a side's machine draws, by the stage before and after it
  pub steps : Side → Stream → Stage → Option Stage → Stream → Type 0
  pub stream : Stream
  pub left : Stream

abbrev pub call_of : {A H G R : Type 0} (ma : AgreementMembers A) (mh : HostKeysMembers H) (mg : GroupLookupMembers G)
    (mr : rng.Ghosts R) → Parts A H G R → Parts A H G R → PartsCall
call_of ma mh mg mr p q = record {
  says = λ config. says_of ma mh mg config p.agreement p.hosts p.groups;
  denies = denies_of ma mh mg p.agreement q.agreement p.hosts q.hosts p.groups q.groups;
  distrusts = untrusted_of mh p.hosts q.hosts;
  keeps = KeepsParts (AgreementKept ma p.agreement q.agreement) (HostsKept mh p.hosts q.hosts)
      (GroupsKept mg p.groups q.groups);
  before = tally (counted_by ma mh mg p.agreement p.hosts p.groups) (tests_by ma mh mg p.agreement p.hosts p.groups);
  after = tally (counted_by ma mh mg q.agreement q.hosts q.groups) (tests_by ma mh mg q.agreement q.hosts q.groups);
  draws = MadeBy ma.client_draws ma.server_draws;
  steps = DrawnBySide ma.client_draws ma.server_draws;
  stream = mr.stream p.rng;
  left = mr.stream q.rng;
}

-- A session took a message.
pub record TreatsMessage (p : PartsCall) (s : Session) (i : Incoming) (key : OpenKey) (handled : Disposition)
    (s' : Session) (key' : OpenKey) : Type 0 where
  pub stays : Stays s s'
  pub keeps : p.keeps
  pub unheard : IsUnheard s'
  pub opened : IsOpen s'
  pub serves : ServesBetween p.draws s s' p.before p.after p.stream p.left
  pub handles : Handles (p.says s.config.now) s i.seqn i.payload.now (outcome_of handled key') s'
  pub key_is : KeepsKey handled key key'
  pub delivers : handled ≡ Delivers → s' ≡ s
  pub others : is_kex (message_type i.payload.now) ≡ false → s' ≡ s

-- A session rejected a message. `Leaves` says what it left.
pub record FailsMessage (Leaves : Session → Session → Type 0) (p : PartsCall) (s : Session) (i : Incoming)
    (error : Error) (s' : Session) : Type 0 where
  pub stays : Stays s s'
  pub keeps : p.keeps
  pub asked : AsksForType (is_kex (message_type i.payload.now)) s.side (stands_of s.finished.items s.kex)
      p.before.calls p.after.calls
  pub refuses : Refuses (p.says s.config.now) p.denies p.distrusts s i.seqn i.payload.now error
  pub leaves : Leaves s s'

-- What a session did with a message, by the result. `key` and `key'` open the packets that follow.
abbrev pub Treats : (Leaves : Session → Session → Type 0) → PartsCall → Session → Incoming → OpenKey
    → Result Disposition Error → Session → OpenKey → Type 0
Treats Leaves p s i key (Ok handled) s' key' = TreatsMessage p s i key handled s' key'
Treats Leaves p s i key (Err error) s' key' = FailsMessage Leaves p s i error s'

-- A session can handle this message.
pub record CanTreat (s : Session) (i : Incoming) : Type 0 where
  pub begins : CanBegin s
  pub unheard : IsUnheard s
  pub short : length i.payload.now < 2 ^ 31
  pub opened : IsOpen s
  pub begun : IsBegun s

-- ---- what a connection reads

-- A connection can read packets.
pub record CanRead (c : Connection) : Type 0 where
  pub live : IsLive c
  pub heard : IsHeard c.session.line

-- No packet that waits is whole.
pub record StaysInPart (p : PartsCall) (c c' : Connection) : Type 0 where
  pub keeps : p.keeps
  pub serves : ServesBetween p.draws c.session c'.session p.before p.after p.stream p.left
  pub still : c' ≡ record c { reader = record c.reader { handed = [] } }
  pub part : WaitsInPart (reading_spot c) c.reader.waiting

-- A connection opened a packet, and did what the packet asks for by itself.
pub record OpensPacket (p : PartsCall) (c : Connection) (handled : Disposition) (c' : Connection) : Type 0 where
  pub stays : Stays c.session c'.session
  pub failed : c'.failed ≡ c.failed
  pub unheard : IsUnheard c'.session
  pub opened : IsOpen c'.session
  pub keeps : p.keeps
  pub serves : ServesBetween p.draws c.session c'.session p.before p.after p.stream p.left
  pub handles : HandlesOne (p.says c.session.config.now) c handled c'

-- A connection rejected a packet, or ran out of memory. If payloads aren't queued, it ran out only for what `Wants`
-- names.
pub record StopsReading (queues : Bool) (p : PartsCall) (c : Connection) (error : Error) (c' : Connection) : Type 0
  where
    pub begins : CanBegin c'.session
    pub fixed : IsFixedIn c c'
    pub keeps : p.keeps
    pub stops : Stops (p.says c.session.config.now) p.denies p.distrusts (AsksTo c.session p.before.calls p.after.calls) c
        error c'
    pub wants : queues ≡ false → error ≡ errors.Memory → Wants (p.says c.session.config.now) c
    pub unqueued : queues ≡ false → c'.delivered ≡ c.delivered

-- What became of the next packet, by the result of the call that opens it.
abbrev pub OpensNext : PartsCall → Connection → Result (Option Disposition) Error → Connection → Type 0
OpensNext p c (Ok None) c' = StaysInPart p c c'
OpensNext p c (Ok (Some handled)) c' = OpensPacket p c handled c'
OpensNext p c (Err error) c' = StopsReading false p c error c'

-- What was read, by what became of the last packet and by whether payloads are queued or lent.
abbrev pub ReadsFor : (queues : Bool) → Says → Connection → PacketRead → Connection → Type 0
ReadsFor false says c read c' = PollsOne says c read c'
ReadsFor true says c Nothing c' = Reads says c c' × WaitsInPart (reading_spot c') c'.reader.waiting
ReadsFor true says c Packet c' = Reads says c c'
ReadsFor true says c Payload c' = ⊥

-- A connection read packets, and did all that they ask for.
pub record ReadSome (queues : Bool) (p : PartsCall) (c : Connection) (read : PacketRead) (c' : Connection) : Type 0
  where
    pub live : IsLive c'
    pub line : c'.session.line ≡ c.session.line
    pub fixed : IsFixedIn c c'
    pub keeps : p.keeps
    pub serves : ServesBetween p.draws c.session c'.session p.before p.after p.stream p.left
    pub reads : ReadsFor queues (p.says c.session.config.now) c read c'
    pub unqueued : queues ≡ false → c'.delivered ≡ c.delivered
    pub shorter : length c'.reader.waiting ≤ length c.reader.waiting

-- `HandlesNext` is said of at most one packet, `ReadsWaiting` of all that are whole, up to one that is lent.
abbrev pub HandlesNext : (queues : Bool) → PartsCall → Connection → Result PacketRead Error → Connection → Type 0
HandlesNext queues p c (Ok read) c' = ReadSome queues p c read c'
    × IfPacket read (length c'.reader.waiting < length c.reader.waiting)
HandlesNext queues p c (Err error) c' = StopsReading queues p c error c'

abbrev pub ReadsWaiting : (queues : Bool) → PartsCall → Connection → Result Bool Error → Connection → Type 0
ReadsWaiting queues p c (Ok lends) c' = ReadSome queues p c (read_by lends) c'
ReadsWaiting queues p c (Err error) c' = StopsReading queues p c error c'

-- What became of a payload that is delivered: it is lent, or it was queued.
abbrev pub HandsUp : (queues : Bool) → Connection → Disposition → PacketRead → Connection → Type 0
HandsUp false c handled read c' = (read ≡ read_as handled) × (c' ≡ c)
HandsUp true c handled read c' = (read ≡ Packet) × (c' ≡ record c { delivered = c'.delivered })
    × (c'.delivered.items ≡ c.delivered.items ++ kept_by handled c.reader.handed)

-- A connection ran out of memory for queuing a payload.
pub record KeepsNot (queues : Bool) (c : Connection) (handled : Disposition) (error : Error) (c' : Connection) : Type 0
  where
    pub error_is : error ≡ errors.Memory
    pub queueing : queues ≡ true
    pub delivering : handled ≡ Delivers
    pub rest : c' ≡ record c { delivered = c'.delivered }
    pub still : c'.delivered.items ≡ c.delivered.items

-- ---- what a connection takes

-- The version line is read, or there is room for more bytes after those that waited.
abbrev pub HasRoom : Connection → Connection → Type 0
HasRoom c c' = IsHeard c'.session.line
    ⊎ (waiting_length c.session.line + length c.reader.waiting < window_length)

-- What was taken of the input, by whether payloads are queued and whether one is lent.
abbrev pub TakesFor : (queues : Bool) → Says → Connection → Bool → Connection → Type 0
TakesFor false says c lends c' = TakesPayload says c lends c'
TakesFor true says c false c' = Takes says (emptied c) c.reader.waiting c' × HasRoom c c'
TakesFor true says c true c' = ⊥

-- A connection took input, of which `Takes` says what became.
pub record TookInput (p : PartsCall) (c c' : Connection) (Takes : Type 0) : Type 0 where
  pub live : IsLive c'
  pub within : IsKept c'
  pub settled : WaitsBehind c'.session.line c'.reader.waiting
  pub fixed : IsFixedIn c c'
  pub keeps : p.keeps
  pub serves : ServesBetween p.draws c.session c'.session p.before p.after p.stream p.left
  pub drawn : DrawsFirst (true ≡ true) (standing_of c) (standing_of c') p.stream p.left
  pub takes : Takes

-- A connection rejected some of what waited and of a piece after it, or ran out of memory. If payloads aren't queued,
-- it ran out only for what `MayWant` names.
pub record FailsTaking (queues : Bool) (p : PartsCall) (c : Connection) (piece : List ℕ) (error : Error)
    (c' : Connection) : Type 0 where
  pub begins : CanBegin c'.session
  pub fixed : IsFixedIn c c'
  pub keeps : p.keeps
  pub drawn : DrawsFirst (false ≡ true) (standing_of c) (standing_of c') p.stream p.left
  pub fails : Fails (p.says c.session.config.now) p.denies p.distrusts (AsksTo c.session p.before.calls p.after.calls)
      (emptied c) (c.reader.waiting ++ piece) error c'
  pub wants : queues ≡ false → error ≡ errors.Memory → MayWant (p.says c.session.config.now) (standing_of c)
  pub unqueued : queues ≡ false → c'.delivered.items ≡ c.delivered.items

-- What a connection made of the bytes that waited, by the result. An error is the same whatever follows them.
abbrev pub TakesKept : (queues : Bool) → PartsCall → Connection → Result Bool Error → Connection → Type 0
TakesKept queues p c (Ok lends) c' = TookInput p c c' (TakesFor queues (p.says c.session.config.now) c lends c')
TakesKept queues p c (Err error) c' = (more : List ℕ) → FailsTaking queues p c more error c'

-- What a connection made of the bytes that waited and a piece after them, by the result.
abbrev pub TakesWholePiece : PartsCall → Connection → List ℕ → Result (Unit {0}) Error → Connection → Type 0
TakesWholePiece p c piece (Ok done) c' =
    TookInput p c c' (Takes (p.says c.session.config.now) (emptied c) (c.reader.waiting ++ piece) c')
TakesWholePiece p c piece (Err error) c' = FailsTaking true p c piece error c'

-- A connection can take input.
pub record CanTake (c : Connection) : Type 0 where
  pub live : IsLive c
  pub within : IsKept c

-- What each call that takes input did with the bytes that waited and a piece after them.
pub record TakesCall {T : Type 0} (p : PartsCall) (c : Connection) (piece : List ℕ) (result : Result T Error)
    (c' : Connection) : Type 0 where
  pub kept : IsKept c'
  pub stays : IsFixed c.session c'.session
  pub lives : c.failed ≡ false → OnOk result (c'.failed ≡ false)
  pub ends : c.failed ≡ false → OnErr result ((c'.failed ≡ true) × (unfinished (standing_of c') ≡ []))
  pub drawn : DrawsFirstOn c c' p.stream p.left
  pub refused : c.failed ≡ false → IfErr result (λ e. RefusesPieceAsking (p.says c.session.config.now) p.denies
      p.distrusts (standing_of c) piece e (standing_of c') p.before.calls p.after.calls)
  pub keeps : p.keeps
  pub serves : OnOk result (ServesCall p.draws (standing_of c) (standing_of c') p.before p.after p.stream p.left)

-- What `feed` did.
pub record FeedsPiece (p : PartsCall) (c : Connection) (piece : List ℕ) (result : Result (Unit {0}) Error)
    (c' : Connection) : Type 0 where
  pub call : TakesCall p c piece result c'
  pub fed : OnOk result (TakesInput (p.says c.session.config.now) (standing_of c) piece (standing_of c'))

-- What `poll` did: it handled what was kept, up to a payload that is lent.
pub record PollsPayload (p : PartsCall) (c : Connection) (result : Result Bool Error) (c' : Connection) : Type 0 where
  pub call : TakesCall p c [] result c'
  pub polled : IfOk result (λ lends. Polls (p.says c.session.config.now) (standing_of c)
      (lent_by lends c'.reader.handed) (standing_of c'))
  pub wants : c.failed ≡ false → result ≡ Err errors.Memory → MayWant (p.says c.session.config.now) (standing_of c)
  pub unqueued : c'.delivered.items ≡ c.delivered.items

-- A connection failed, and kept nothing of its input.
pub record BrokeOff (c c' : Connection) : Type 0 where
  pub kept : IsKept c'
  pub fixed : IsFixed c.session c'.session
  pub breaks : Breaks (standing_of c) (standing_of c')
  pub rests : IsAsBefore c.session c'.session

abbrev pub EndsOn : {T : Type 0} → Result T Error → Connection → Connection → Type 0
EndsOn {T} (Ok x) c c' = c' ≡ c
EndsOn {T} (Err error) c c' = BrokeOff c c'

-- ---- what a connection hears

-- A connection read the peer's version line, up to its end or as far as bytes wait.
pub record HearsInput (c : Connection) (stream left : Stream) (still : Type 0) (result : Result Bool Error)
    (c' : Connection) : Type 0 where
  pub begins : CanBegin c'.session
  pub live : OnOk result (IsLive c')
  pub heard : OnOk result (Hears (emptied c) c.reader.waiting c')
  pub whole : result ≡ Ok true → IsHeard c'.session.line
  pub part : result ≡ Ok false → (c'.reader.waiting ≡ [])
      × (waiting_length c.session.line + length c.reader.waiting < window_length)
  pub shorter : OnOk result (length c'.reader.waiting ≤ length c.reader.waiting)
  pub unqueued : c'.delivered ≡ c.delivered
  pub fails : IfErr result (λ e. HearsNothing (emptied c) c.reader.waiting e c')
  pub ended : result ≡ Err errors.Memory → EndsBy c.session.side c.session.line c.reader.waiting
  pub drawn : result ≡ Ok true → OpensDrawn c.session c'.session stream
  pub awaits : result ≡ Ok false → (c'.session ≡ record c.session { line = c'.session.line }) × still
  pub wrote : OnOk result (WritesDrawn c.session c'.session stream left)
  pub fixed : IsFixedIn c c'

-- ---- what a connection is asked to send

-- A call returned this result, and nothing changed, nor did the components (`still`).
abbrev pub AnswersOnly : (still : Type 0) → Result (Unit {0}) Error → Result (Unit {0}) Error → Connection → Connection
    → Type 0
AnswersOnly still answer result c c' = (result ≡ answer) × (c' ≡ c) × still

-- What `submit` did.
pub record SubmitsTo (stream left : Stream) (still : Type 0) (c : Connection) (payload : List ℕ)
    (result : Result (Unit {0}) Error) (c' : Connection) : Type 0 where
  pub kept : IsKept c'
  pub dead : c.failed ≡ true → AnswersOnly still (Err errors.Disconnect) result c c'
  pub size : c.failed ≡ false → IsTrue (is_bad_size (length payload))
      → AnswersOnly still (Err (errors.PacketSize (length payload))) result c c'
  pub inconsistent : c.failed ≡ false → is_bad_size (length payload) ≡ false
      → is_payload_type (message_type payload) ≡ false → AnswersOnly still (Err errors.Inconsistent) result c c'
  pub sent : OnOk result (Submitted nothing_said (standing_of c) payload (standing_of c'))
  pub drawn : is_outside (standing_of c).state.stands ≡ true → OnOk result (GoesNext (standing_of c).output
      (packet_with (standing_of c).state.writing payload stream) (standing_of c').output)
  pub sends : OnOk result (SendsBetween NoneMade (standing_of c) (standing_of c') stream left)
  pub held : is_outside (standing_of c).state.stands ≡ false → still
      × HoldsAlone result (standing_of c) (standing_of c')
  pub leaves : c.failed ≡ false → is_good_payload payload ≡ true → OnErr result
      (((standing_of c').state.records ≡ (standing_of c).state.records) × AtMostNext (standing_of c).output
      (packet_with (standing_of c).state.writing payload stream) (standing_of c').output)
  pub memory : c.failed ≡ false → is_good_payload payload ≡ true
      → OnErr result ((result ≡ Err errors.Memory) × Breaks (standing_of c) (standing_of c'))

-- What `rekey` did.
pub record AsksExchange (stream left : Stream) (still : Type 0) (c : Connection) (result : Result (Unit {0}) Error)
    (c' : Connection) : Type 0 where
  pub kept : IsKept c'
  pub dead : c.failed ≡ true → AnswersOnly still (Err errors.Disconnect) result c c'
  pub begun : OnOk result (Rekeyed nothing_said (standing_of c) (standing_of c'))
  pub drawn : is_outside (standing_of c).state.stands ≡ true → OnOk result ((standing_of c').output
      ≡ (standing_of c).output ++ kexinit_packet (standing_of c).side (standing_of c).config
      (standing_of c).state.writing stream)
  pub sends : OnOk result (SendsBetween NoneMade (standing_of c) (standing_of c') stream left)
  pub leaves : c.failed ≡ false → OnErr result (((standing_of c').state.records ≡ (standing_of c).state.records)
      × ((standing_of c').output ≡ (standing_of c).output))
  pub inside : c.failed ≡ false → is_outside (standing_of c).state.stands ≡ false
      → AnswersOnly still (Ok tt) result c c'
  pub memory : c.failed ≡ false → OnErr result ((result ≡ Err errors.Memory)
      × Breaks (standing_of c) (standing_of c'))
