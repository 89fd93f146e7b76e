-- Packets that are read up to one that is refused.
use Rattle.std.proofs.Common.{◌≡◌, ℕ, ◌≤◌, true, false, List, [], ◌++◌, Option, Some, Result, Ok, Err, refl, sym, ap, ◌∙◌, subst, append_assoc, append-nil}
use Rattle.std.specs.Borrow.{Bor}
use Rattle.ssh_wire.specs.Lines.{id_text}
use Rattle.ssh_wire.specs.declared.error.Error.{Error}
use Rattle.ssh_wire.specs.declared.error.Error.TheVariants as errors
use Rattle.ssh_wire.specs.declared.side.Side.{Side}
use Rattle.ssh_packet.specs.Errors.{error_of, open_error}
use Rattle.ssh_packet.specs.Front as fronts
use Rattle.ssh_packet.specs.Front.{Fault, Refused, front_of}
use Rattle.ssh_packet.specs.Keys.{opening_of}
use Rattle.ssh_packet.specs.Reading.{LeavesNext, Reader, RefusesNext}
use Rattle.ssh_packet.specs.Sealing.{Item, Sealing}
use Rattle.ssh_packet.proofs.Lemmas.{front_stays_refused, front_stays_whole}
use Rattle.ssh_packet.specs.declared.error.OpenError.{OpenError}
use Rattle.ssh_packet.specs.declared.error.OpenError.TheVariants as opens
use Rattle.ssh_packet.specs.declared.reader.Incoming.{Incoming}
use Rattle.ssh_kex.specs.Refusals.{Denies}
use Rattle.ssh_kex.specs.Setting.{Says}
use Rattle.ssh_kex.specs.declared.config.Config.{Config}
use Rattle.ssh_kex.specs.declared.exchange.ServerHost.{ServerHost}
use Rattle.ssh_rules.specs.Log.{delivered_in, read_bytes, sent_bytes}
use Rattle.ssh_rules.specs.Machine.{Event, IsQuiet, SideState, Steps}
use Rattle.ssh_rules.specs.Refusing.{AnswersCause}
use Rattle.ssh_rules.specs.Standing.{IsIdleBefore, OfFault, OfMemory, OfPacket, OfVersion, RefusalCause, StandsNext}
use Rattle.ssh_rules.specs.Counting.{begun}
use Rattle.ssh_rules.proofs.Lemmas.{begun_steps, delivered_more, read_join, sent_join, steps_join}
use Rattle.ssh_transport.specs.Asking.{state_of}
use Rattle.ssh_transport.specs.Kept.{IsLive}
use Rattle.ssh_transport.specs.States.{reading_spot, state_at, with_more}
use Rattle.ssh_transport.specs.Stopping.{IsAsBefore, Refuses, Stops}
use Rattle.ssh_transport.specs.Saying.{GoesPart, IsFixed}
use Rattle.ssh_transport.specs.Taking.{Reads, TakesUp, Took}
use Rattle.ssh_transport.specs.declared.session.Disposition.{Disposition}
use Rattle.ssh_transport.specs.declared.connection.Connection.{Connection}
use Rattle.ssh_transport.specs.declared.session.Session.{Session}
use Rattle.ssh_transport.proofs.Answering.{spot_of}
use Rattle.ssh_transport.proofs.Denying.{Denying, cause_still}
use Rattle.ssh_transport.proofs.Taking.{input_more, reads_join, reads_up, reads_written, silent_more}
use Rattle.ssh_transport.proofs.Weaker.{steps_weaker}

idle_before : (cause : RefusalCause) (config : Config) (st : SideState) → IsQuiet config st
    → IsIdleBefore cause config st
idle_before (OfFault fault) config st q = q
idle_before (OfPacket i) config st q = q
idle_before OfVersion config st q = q
idle_before OfMemory config st q = q.not_called

-- ---- where it stands

pub stops_here : (says : Says) (denies : Denies) (untrusted : ServerHost → Type 0)
    (asked : RefusalCause → SideState → Type 0) (c c' : Connection) (cause : RefusalCause) (error : Error) → IsLive c
    → c'.session.writer.output ≡ c.session.writer.output → c'.delivered.items ≡ c.delivered.items
    → c'.session.finished.items ≡ c.session.finished.items
    → StandsNext cause (state_at c.session (reading_spot c) c.reader.count) c.reader.waiting → (cause ≡ OfVersion → ⊥)
    → AnswersCause says denies untrusted c.session.side c.session.config.now cause
    (state_at c.session (reading_spot c) c.reader.count) error
    → asked cause (state_at c.session (reading_spot c) c.reader.count) → Stops says denies untrusted asked c error c'
stops_here says denies untrusted asked c c' cause error live o d f n v w a = record {
  cause = cause;
  state = state_at c.session (reading_spot c) c.reader.count;
  events = [];
  steps = refl;
  output = o ∙ sym (append-nil c.session.writer.output);
  delivered = d ∙ sym (append-nil c.delivered.items);
  records = f;
  input = (refl, refl);
  silent = tt;
  left = c.reader.waiting;
  bytes = refl;
  done = idle_before cause c.session.config.now (state_at c.session (reading_spot c) c.reader.count)
      (live.settled (reading_spot c));
  next = n;
  line = v;
  why = w;
  asks = a;
}

pub stops_memory : (says : Says) (denies : Denies) (untrusted : ServerHost → Type 0)
    (asked : RefusalCause → SideState → Type 0) (c c' : Connection) (error : Error) → error ≡ errors.Memory
    → c'.session.writer.output ≡ c.session.writer.output → c'.delivered.items ≡ c.delivered.items
    → c'.session.finished.items ≡ c.session.finished.items
    → asked OfMemory (state_at c.session (reading_spot c) c.reader.count) → Stops says denies untrusted asked c error c'
stops_memory says denies untrusted asked c c' error e o d f a = record {
  cause = OfMemory;
  state = state_at c.session (reading_spot c) c.reader.count;
  events = [];
  steps = refl;
  output = o ∙ sym (append-nil c.session.writer.output);
  delivered = d ∙ sym (append-nil c.delivered.items);
  records = f;
  input = (refl, refl);
  silent = tt;
  left = c.reader.waiting;
  bytes = refl;
  done = refl;
  next = tt;
  line = λ x. (let y : OfMemory ≡ OfVersion = x in cc);
  why = e;
  asks = a;
}

-- ---- behind packets that were read

-- what was asked behind them and before
abbrev pub Later : Connection → (RefusalCause → SideState → Type 0) → (RefusalCause → SideState → Type 0) → Type 0
Later mid later asked = (cause : RefusalCause) (at : SideState) → begun (state_of mid.session) ≤ begun at
    → later cause at → asked cause at

moved_before : (says : Says) (c mid : Connection) (events : List Event) (st : SideState)
    → mid.session.side ≡ c.session.side → mid.session.config ≡ c.session.config
    → Steps says mid.session.side mid.session.config.now (id_text mid.session.config.now.id)
    (state_at mid.session (reading_spot mid) mid.reader.count) events st
    → Steps says c.session.side c.session.config.now (id_text c.session.config.now.id)
    (state_at mid.session (reading_spot mid) mid.reader.count) events st
moved_before says c mid events st a b h = subst (λ (x : Side). Steps says x c.session.config.now
    (id_text c.session.config.now.id) (state_at mid.session (reading_spot mid) mid.reader.count) events st) a
    (subst (λ (x : Bor Config). Steps says mid.session.side x.now (id_text x.now.id)
    (state_at mid.session (reading_spot mid) mid.reader.count) events st) b h)

pub stops_join : (says : Says) (denies : Denies) (untrusted : ServerHost → Type 0)
    (asked later : RefusalCause → SideState → Type 0) (c mid c' : Connection) (error : Error) → Later mid later asked
    → Reads says c mid → Stops says denies untrusted later mid error c' → Stops says denies untrusted asked c error c'
stops_join says denies untrusted asked later c mid c' error a h k = record {
  cause = k.cause;
  state = k.state;
  events = h.events ++ k.events;
  steps = steps_join says c.session.side c.session.config.now (id_text c.session.config.now.id) h.events k.events
      (state_at c.session (reading_spot c) c.reader.count) (state_at mid.session (reading_spot mid) mid.reader.count)
      k.state h.steps (moved_before says c mid k.events k.state h.side h.config k.steps);
  output = k.output ∙ ap (λ (t : List ℕ). t ++ sent_bytes mid.session.side (spot_of mid.session.writer) k.events)
      h.output ∙ append_assoc c.session.writer.output (sent_bytes c.session.side (spot_of c.session.writer) h.events)
      (sent_bytes mid.session.side (spot_of mid.session.writer) k.events)
      ∙ ap (λ (x : Side). c.session.writer.output ++ (sent_bytes c.session.side (spot_of c.session.writer) h.events ++
      sent_bytes x (spot_of mid.session.writer) k.events)) h.side
      ∙ ap (λ (t : List ℕ). c.session.writer.output ++ t) (sym
      (sent_join says c.session.side c.session.config.now (id_text c.session.config.now.id) h.events k.events
      (state_at c.session (reading_spot c) c.reader.count)
      (state_at mid.session (reading_spot mid) mid.reader.count) h.steps));
  delivered = k.delivered ∙ ap (λ (t : List (List ℕ)). t ++ delivered_in k.events) h.delivered
      ∙ append_assoc c.delivered.items (delivered_in h.events) (delivered_in k.events)
      ∙ ap (λ (t : List (List ℕ)). c.delivered.items ++ t) (sym (delivered_more h.events k.events));
  records = k.records;
  input = input_more h.events k.events h.input k.input;
  silent = silent_more h.events k.events h.silent k.silent;
  left = k.left;
  bytes = h.bytes ∙ ap (λ (t : List ℕ). read_bytes c.session.side (reading_spot c) h.events ++ t)
      (k.bytes ∙ ap (λ (x : Side). read_bytes x (reading_spot mid) k.events ++ k.left) h.side)
      ∙ sym (append_assoc (read_bytes c.session.side (reading_spot c) h.events)
      (read_bytes c.session.side (reading_spot mid) k.events) k.left)
      ∙ ap (λ (t : List ℕ). t ++ k.left) (sym (read_join says c.session.side c.session.config.now
      (id_text c.session.config.now.id) h.events k.events (state_at c.session (reading_spot c) c.reader.count)
      (state_at mid.session (reading_spot mid) mid.reader.count) h.steps));
  done = subst (λ (x : Bor Config). IsIdleBefore k.cause x.now k.state) h.config k.done;
  next = k.next;
  line = k.line;
  why = subst (λ (x : Side). AnswersCause says denies untrusted x c.session.config.now k.cause k.state error) h.side
      (subst (λ (x : Bor Config). AnswersCause says denies untrusted mid.session.side x.now k.cause k.state error)
      h.config k.why);
  asks = a k.cause k.state (begun_steps says mid.session.side mid.session.config.now (id_text mid.session.config.now.id)
      k.events (state_at mid.session (reading_spot mid) mid.reader.count) k.state k.steps) k.asks;
}

pub stops_still : (a b : Says) (d e : Denies) (u v : ServerHost → Type 0) → Denying a b d e
    → ((host : ServerHost) → u host → v host) → (asked : RefusalCause → SideState → Type 0) (c c' : Connection)
    (error : Error) → Stops a d u asked c error c' → Stops b e v asked c error c'
stops_still a b d e u v w z asked c c' error h = record {
  cause = h.cause;
  state = h.state;
  events = h.events;
  steps = steps_weaker a b w.weaker c.session.side c.session.config.now (id_text c.session.config.now.id) h.events
      (state_at c.session (reading_spot c) c.reader.count) h.state h.steps;
  output = h.output;
  delivered = h.delivered;
  records = h.records;
  input = h.input;
  silent = h.silent;
  left = h.left;
  bytes = h.bytes;
  done = h.done;
  next = h.next;
  line = h.line;
  why = cause_still a b d e u v w z c.session.side c.session.config.now h.cause h.state error h.why;
  asks = h.asks;
}

-- where the parts were asked before
pub stops_after : (says later : Config → Says) (denies denied : Denies) (untrusted distrusted : ServerHost → Type 0)
    → ((x : Config) → Denying (later x) (says x) denied denies)
    → ((host : ServerHost) → distrusted host → untrusted host)
    → (asked asks : RefusalCause → SideState → Type 0) (c mid c' : Connection) (error : Error) → Later mid asks asked
    → mid.session.config ≡ c.session.config → Reads (says c.session.config.now) c mid
    → Stops (later mid.session.config.now) denied distrusted asks mid error c'
    → Stops (says c.session.config.now) denies untrusted asked c error c'
stops_after says later denies denied untrusted distrusted w z asked asks c mid c' error a e h k = stops_join
    (says c.session.config.now) denies untrusted asked asks c mid c' error a h
    (stops_still (later c.session.config.now) (says c.session.config.now) denied denies distrusted untrusted
    (w c.session.config.now) z asks mid c' error (subst
    (λ (b : Bor Config). Stops (later b.now) denied distrusted asks mid error c') e k))

-- ---- one packet

record Faulted (key : Sealing) (r : Reader) (o : OpenError) : Type 0 where
  pub fault : Fault
  pub stands : front_of key r.number r.waiting ≡ Refused fault
  pub error_is : o ≡ open_error fault

faulted : (key : Sealing) (r : Reader) (o : OpenError) → r.failed ≡ false → RefusesNext r key o → Faulted key r o
faulted key r (opens.PacketSize n) f h = record { fault = fronts.PacketSize n; stands = h.1; error_is = refl }
faulted key r opens.IndexOutOfBounds f h = record { fault = fronts.IndexOutOfBounds; stands = h.1; error_is = refl }
faulted key r opens.PacketAuth f h = record { fault = fronts.PacketAuth; stands = h.1; error_is = refl }
faulted key r opens.DecryptionError f h = record { fault = fronts.DecryptionError; stands = h.1; error_is = refl }
faulted key r opens.Disconnect f h = absurd (let g : true ≡ false = sym h ∙ f in cc)

pub stops_fault : (says : Says) (denies : Denies) (untrusted : ServerHost → Type 0)
    (asked : RefusalCause → SideState → Type 0) (c c' : Connection) (result : Result (Option Incoming) OpenError)
    (o : OpenError) (error : Error) (key' : Sealing) (r' : Reader) → IsLive c
    → LeavesNext c.reader (opening_of c.opening) key' result r' → result ≡ Err o → error ≡ error_of o
    → c'.session ≡ c.session → c'.delivered.items ≡ c.delivered.items
    → ((fault : Fault) → asked (OfFault fault) (state_at c.session (reading_spot c) c.reader.count))
    → Stops says denies untrusted asked c error c'
stops_fault says denies untrusted asked c c' result o error key' r' live l e x s d a =
    let h = subst (λ (r : Result (Option Incoming) OpenError). LeavesNext c.reader (opening_of c.opening) key' r r') e l
    in
    let f = faulted (opening_of c.opening) c.reader o live.unbroken h.0 in
    stops_here says denies untrusted asked c c' (OfFault f.fault) error live (ap (λ (y : Session). y.writer.output) s) d
    (ap (λ (y : Session). y.finished.items) s) f.stands (λ y. (let z : OfFault f.fault ≡ OfVersion = y in cc))
    (x ∙ ap error_of f.error_is) (a f.fault)

pub stops_packet : (says : Says) (denies : Denies) (untrusted : ServerHost → Type 0)
    (asked : RefusalCause → SideState → Type 0) (c c' : Connection) (result : Result (Option Incoming) OpenError)
    (o : Option Incoming) (incoming : Incoming) (error : Error) (key' : Sealing) (r' : Reader) → IsLive c
    → LeavesNext c.reader (opening_of c.opening) key' result r' → result ≡ Ok o → o ≡ Some incoming
    → Refuses says denies untrusted c.session incoming.seqn incoming.payload.now error → IsAsBefore c.session c'.session
    → c'.delivered.items ≡ c.delivered.items → ((i : Item) → incoming.payload.now ≡ i.payload
    → asked (OfPacket i) (state_at c.session (reading_spot c) c.reader.count))
    → Stops says denies untrusted asked c error c'
stops_packet says denies untrusted asked c c' result o incoming error key' r' live l e f h b d a =
    stops_here says denies untrusted asked c c' (OfPacket k.0) error live b.output d b.records (r'.waiting, (k.1).front)
    (λ y. (let z : OfPacket k.0 ≡ OfVersion = y in cc))
    (h (reading_spot c) c.reader.count k.0 (record {
      small = live.numbered;
      seqn_is = (k.1).seqn;
      payload_is =
          (k.1).payload;
      admissible = (k.1).admissible;
    })) (a k.0 (k.1).payload)
  where
    k : LeavesNext c.reader (opening_of c.opening) key' (Ok (Some incoming)) r'
    k = subst (λ (x : Option Incoming). LeavesNext c.reader (opening_of c.opening) key' (Ok x) r') f
        (subst (λ (r : Result (Option Incoming) OpenError). LeavesNext c.reader (opening_of c.opening) key' r r') e l)

-- a packet was read, and memory was wanting for what is to be written behind it
pub stops_wanting : (says : Says) (denies : Denies) (untrusted : ServerHost → Type 0)
    (asked : RefusalCause → SideState → Type 0) (c c1 c2 : Connection) (s' : Session) (read : ℕ) (answer : Disposition)
    (error : Error) → IsLive c → Took says c answer c1 → IsFixed c.session c1.session → c1.session.line ≡ c.session.line
    → TakesUp answer c1 c2 → read ≡ c2.reader.count → (g : GoesPart c2.session read s') → error ≡ errors.Memory
    → asked OfMemory (state_at g.mid (reading_spot c2) c2.reader.count)
    → Stops says denies untrusted asked c error (record c2 { session = s' })
stops_wanting says denies untrusted asked c c1 c2 s' read answer error live t fixed line u e g m a =
    stops_join says denies untrusted asked asked c (record c2 { session = g.mid }) (record c2 { session = s' }) error
    (λ cause at b h. h)
    (reads_join says c c2 (record c2 { session = g.mid }) (reads_up says c c1 c2 answer live t fixed line u)
    (reads_written says c2 g.mid read g.events e g.writes))
    (stops_memory says denies untrusted asked (record c2 { session = g.mid }) (record c2 { session = s' }) error m
    g.output refl g.records a)

-- a payload was to be handed up, and memory was wanting to keep it
pub stops_keeping : (says : Says) (denies : Denies) (untrusted : ServerHost → Type 0)
    (asked : RefusalCause → SideState → Type 0) (c c' : Connection) (error : Error) → c'.session ≡ c.session
    → c'.delivered.items ≡ c.delivered.items → error ≡ errors.Memory
    → asked OfMemory (state_at c.session (reading_spot c) c.reader.count) → Stops says denies untrusted asked c error c'
stops_keeping says denies untrusted asked c c' error s d m a = stops_memory says denies untrusted asked c c' error m
    (ap (λ (x : Session). x.writer.output) s) d (ap (λ (x : Session). x.finished.items) s) a

-- with more behind what waits
next_stays : (cause : RefusalCause) (st : SideState) (left more : List ℕ) → StandsNext cause st left
    → StandsNext cause st (left ++ more)
next_stays (OfFault fault) st left more h = front_stays_refused st.reading.sealing st.reading.number left more fault h
next_stays (OfPacket i) st left more h = (
  h.0 ++ more,
  front_stays_whole st.reading.sealing st.reading.number left more
      h.0 i h.1,
)
next_stays OfVersion st left more h = tt
next_stays OfMemory st left more h = tt

pub stops_more : (says : Says) (denies : Denies) (untrusted : ServerHost → Type 0)
    (asked : RefusalCause → SideState → Type 0) (c c' : Connection) (more : List ℕ) (error : Error)
    → Stops says denies untrusted asked c error c' → Stops says denies untrusted asked (with_more c more) error c'
stops_more says denies untrusted asked c c' more error h = record {
  cause = h.cause;
  state = h.state;
  events = h.events;
  steps = h.steps;
  output = h.output;
  delivered = h.delivered;
  records = h.records;
  input = h.input;
  silent = h.silent;
  left = h.left ++ more;
  bytes = ap (λ (t : List ℕ). t ++ more) h.bytes ∙ append_assoc (read_bytes c.session.side (reading_spot c) h.events)
      h.left more;
  done = h.done;
  next = next_stays h.cause h.state h.left more h.next;
  line = h.line;
  why = h.why;
  asks = h.asks;
}

-- where what one call of the parts may say is what another said
pub stops_asked : (says : Says) (denies : Denies) (untrusted : ServerHost → Type 0)
    (asked asks : RefusalCause → SideState → Type 0) (c c' : Connection) (error : Error)
    → ((cause : RefusalCause) (at : SideState) → asked cause at → asks cause at)
    → Stops says denies untrusted asked c error c' → Stops says denies untrusted asks c error c'
stops_asked says denies untrusted asked asks c c' error a h = record {
  cause = h.cause;
  state = h.state;
  events = h.events;
  steps = h.steps;
  output = h.output;
  delivered = h.delivered;
  records = h.records;
  input = h.input;
  silent = h.silent;
  left = h.left;
  bytes = h.bytes;
  done = h.done;
  next =
      h.next;
  line = h.line;
  why = h.why;
  asks = a h.cause h.state h.asks;
}
