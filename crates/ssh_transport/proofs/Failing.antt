-- A piece that is refused, as contracts see it.
use Rattle.std.proofs.Common.{◌≡◌, ℕ, List, [], ◌++◌, Result, Ok, Err, IfErr, OnErr, refl, sym, ap, ◌∙◌, subst, append_assoc, append-nil, ◌⊎◌, inl, inr}
use Rattle.std.specs.Borrow.{Bor}
use Rattle.ssh_wire.specs.Lines as lines
use Rattle.ssh_wire.specs.Lines.{IdFound, id_of, id_text}
use Rattle.ssh_wire.specs.Reading.{IdReading, Waiting, Heard, Failed, Decides, Feeds, still_allowed}
use Rattle.ssh_wire.specs.declared.error.Error.{Error}
use Rattle.ssh_wire.specs.declared.error.Error.TheVariants as errors
use Rattle.ssh_wire.specs.declared.read_id.IdProgress.TheVariants as progress
use Rattle.ssh_wire.specs.declared.side.Side.{Side}
use Rattle.ssh_wire.proofs.Lemmas.{fed_more}
use Rattle.ssh_kex.specs.Refusals.{Denies}
use Rattle.ssh_kex.specs.Setting.{Says}
use Rattle.ssh_kex.specs.declared.config.Config.{Config}
use Rattle.ssh_kex.specs.declared.exchange.ServerHost.{ServerHost}
use Rattle.ssh_rules.specs.Asking.{AsksUntil, PartCalls}
use Rattle.ssh_rules.specs.Log.{delivered_in, read_bytes, sent_bytes}
use Rattle.ssh_rules.specs.Machine.{Event, SideState, Steps}
use Rattle.ssh_rules.specs.Refusing.{AnswersCause, RefusesPiece, RefusesPieceAsking}
use Rattle.ssh_rules.specs.Standing.{HearsBy, IsIdleBefore, IsNoId, OfFault, OfMemory, OfPacket, OfVersion, ReadsLineFrom, RefusalCause, Standing, lets_pass, nothing_said}
use Rattle.ssh_rules.proofs.Lemmas.{begun_steps, delivered_more, piece_asking_kept, read_join, refused_few, sent_join, steps_join}
use Rattle.ssh_transport.specs.Asking.{AsksTo}
use Rattle.ssh_transport.specs.Handling.{IsHeard}
use Rattle.ssh_transport.specs.Kept.{IsLive}
use Rattle.ssh_transport.specs.Saying.{IsFixed}
use Rattle.ssh_transport.specs.States.{bare_of, emptied, reading_spot, standing_of, state_at}
use Rattle.ssh_transport.specs.Stopping.{Fails, HearsNot, HearsNothing, IsAsBefore, Stops}
use Rattle.ssh_transport.specs.Submitting.{Breaks}
use Rattle.ssh_transport.specs.Taking.{Hears}
use Rattle.ssh_transport.specs.declared.connection.Connection.{Connection}
use Rattle.ssh_transport.specs.declared.session.Session.{Session}
use Rattle.ssh_transport.proofs.Answering.{spot_of}
use Rattle.ssh_transport.proofs.Inputs.{line_more}
use Rattle.ssh_transport.proofs.Saying.{unread_steps}
use Rattle.ssh_transport.proofs.Stopping.{Later}
use Rattle.ssh_transport.proofs.Taking.{input_more}

-- ---- no version line

decided_err : (found : IdFound) (had : ℕ) (left new : IdReading) (error : Error)
    → Decides found had left (Err error) new → (found ≡ lines.Version) × (error ≡ errors.Version)
decided_err lines.NotYet had left new error d = absurd (let e = d.0 in cc)
decided_err (lines.Id text end) had left new error d = absurd (let e = d.0 in cc)
decided_err lines.Version had left new error d = (refl, (let e : Err error ≡ Err errors.Version = d.0 in cc))

no_id : (side : Side) (line : IdReading) (piece : List ℕ) (error : Error) (new : IdReading) → (line ≡ Failed → ⊥)
    → Feeds (lets_pass side) line piece (Err error) new → IsNoId side line piece [] × (error ≡ errors.Version)
no_id side (Waiting bytes others) piece error new n h =
    let d = decided_err (id_of (still_allowed (lets_pass side) others) (bytes ++ piece)) _ _ new error h in
    ((refl, d.0), d.1)
no_id side (Heard text) piece error new n h = absurd (let e = h.0 in cc)
no_id side Failed piece error new n h = absurd (n refl)

-- what was asked where nothing was read
abbrev Still : Connection → (RefusalCause → SideState → Type 0) → Type 0
Still c asked = (cause : RefusalCause) (events : List Event) (at : SideState)
    → Steps nothing_said c.session.side c.session.config.now (id_text c.session.config.now.id)
    (state_at c.session (reading_spot c) c.reader.count) events at → asked cause at

fails_unheard : (says : Says) (denies : Denies) (untrusted : ServerHost → Type 0)
    (asked : RefusalCause → SideState → Type 0) (c c' : Connection) (piece : List ℕ) (error : Error) (line : IdReading)
    → Still c asked → IsLive c → IsAsBefore c.session c'.session → c'.delivered.items ≡ c.delivered.items
    → Feeds (lets_pass c.session.side) c.session.line piece (Err error) line
    → Fails says denies untrusted asked c piece error c'
fails_unheard says denies untrusted asked c c' piece error line still live b d h =
    let n = no_id c.session.side c.session.line piece error line live.heeds h in
    record {
      cause = OfVersion;
      state = state_at c.session (reading_spot c) c.reader.count;
      events = [];
      steps = refl;
      output = b.output ∙ sym (append-nil c.session.writer.output);
      delivered = d ∙ sym (append-nil c.delivered.items);
      records = b.records;
      input = (refl, refl);
      done = live.settled (reading_spot c);
      line = line;
      behind = [];
      heard = n.0;
      left = [];
      read = refl;
      next = tt;
      why = n.1;
      asks = still OfVersion [] (state_at c.session (reading_spot c) c.reader.count) refl;
    }

fails_begin : (says : Says) (denies : Denies) (untrusted : ServerHost → Type 0)
    (asked : RefusalCause → SideState → Type 0) (c c' : Connection) (piece : List ℕ) (error : Error) → Still c asked
    → IsAsBefore c.session c'.session → c'.delivered.items ≡ c.delivered.items → error ≡ errors.Memory
    → Fails says denies untrusted asked c piece error c'
fails_begin says denies untrusted asked c c' piece error still b d e = record {
  cause = OfMemory;
  state = state_at c.session (reading_spot c) c.reader.count;
  events = [];
  steps = refl;
  output = b.output ∙ sym (append-nil c.session.writer.output);
  delivered = d ∙ sym (append-nil c.delivered.items);
  records = b.records;
  input = (refl, refl);
  done = refl;
  line = Failed;
  behind = [];
  heard = inl refl;
  left = [];
  read = refl;
  next = tt;
  why = e;
  asks = still OfMemory [] (state_at c.session (reading_spot c) c.reader.count) refl;
}

pub fails_hearing : (says : Says) (denies : Denies) (untrusted : ServerHost → Type 0)
    (asked : RefusalCause → SideState → Type 0) (c c' : Connection) (piece : List ℕ) (error : Error) → Still c asked
    → IsLive c → HearsNot c.session piece error c'.session → c'.delivered.items ≡ c.delivered.items
    → Fails says denies untrusted asked c piece error c'
fails_hearing says denies untrusted asked c c' piece error still live h d = by h.1
  where
    by : ((line : IdReading) × Feeds (lets_pass c.session.side) c.session.line piece (Err error) line)
        ⊎ (error ≡ errors.Memory) → Fails says denies untrusted asked c piece error c'
    by (inl l) = fails_unheard says denies untrusted asked c c' piece error l.0 still live h.0 d l.1
    by (inr e) = fails_begin says denies untrusted asked c c' piece error still h.0 d e

-- with more behind the line that is none
no_more : (s s' : Session) (piece more : List ℕ) (error : Error) → HearsNot s piece error s'
    → HearsNot s (piece ++ more) error s'
no_more s s' piece more error h = (h.0, by h.1)
  where
    refused : Err error ≡ Ok progress.NotYet → ⊥
    refused e = cc

    by : ((line : IdReading) × Feeds (lets_pass s.side) s.line piece (Err error) line) ⊎ (error ≡ errors.Memory)
        → ((line : IdReading) × Feeds (lets_pass s.side) s.line (piece ++ more) (Err error) line)
        ⊎ (error ≡ errors.Memory)
    by (inl l) = inl (l.0, fed_more (lets_pass s.side) s.line l.0 piece more (Err error) refused l.1)
    by (inr e) = inr e

pub fails_unread : (says : Says) (denies : Denies) (untrusted : ServerHost → Type 0)
    (asked : RefusalCause → SideState → Type 0) (c c' : Connection) (piece more : List ℕ) (error : Error)
    → Still c asked → IsLive c → HearsNothing c piece error c'
    → Fails says denies untrusted asked c (piece ++ more) error c'
fails_unread says denies untrusted asked c c' piece more error still live h = fails_hearing says denies untrusted asked
    c c' (piece ++ more) error still live (no_more c.session c'.session piece more error h.not) h.delivered

-- ---- behind the line

hears_cause : (cause : RefusalCause) (t : Standing) (piece : List ℕ) (events : List Event) (line : IdReading)
    (behind : List ℕ) → (cause ≡ OfVersion → ⊥) → ReadsLineFrom t.side t.line t.waiting piece events line behind
    → HearsBy cause t piece events line behind
hears_cause (OfFault fault) t piece events line behind n h = h
hears_cause (OfPacket i) t piece events line behind n h = h
hears_cause OfVersion t piece events line behind n h = absurd (n refl)
hears_cause OfMemory t piece events line behind n h = inr h

pub fails_behind : (says : Says) (denies : Denies) (untrusted : ServerHost → Type 0)
    (asked later : RefusalCause → SideState → Type 0) (c mid c' : Connection) (piece : List ℕ) (error : Error)
    → Later mid later asked → Hears c piece mid → IsHeard mid.session.line
    → Stops says denies untrusted later mid error c' → Fails says denies untrusted asked c piece error c'
fails_behind says denies untrusted asked later c mid c' piece error a h i k = record {
  cause = k.cause;
  state = k.state;
  events = h.events ++ k.events;
  steps = steps_join says c.session.side c.session.config.now (id_text c.session.config.now.id) h.events k.events
      (state_at c.session (reading_spot c) c.reader.count) (state_at mid.session (reading_spot mid) mid.reader.count)
      k.state first moved;
  output = k.output ∙ ap (λ (b : List ℕ). b ++ sent_bytes mid.session.side (spot_of mid.session.writer) k.events)
      h.output ∙ append_assoc c.session.writer.output (sent_bytes c.session.side (spot_of c.session.writer) h.events)
      (sent_bytes mid.session.side (spot_of mid.session.writer) k.events)
      ∙ ap (λ (x : Side). c.session.writer.output ++ (sent_bytes c.session.side (spot_of c.session.writer) h.events ++
      sent_bytes x (spot_of mid.session.writer) k.events)) h.side
      ∙ ap (λ (b : List ℕ). c.session.writer.output ++ b) (sym
      (sent_join says c.session.side c.session.config.now (id_text c.session.config.now.id) h.events k.events
      (state_at c.session (reading_spot c) c.reader.count)
      (state_at mid.session (reading_spot mid) mid.reader.count) first));
  delivered = k.delivered ∙ ap (λ (b : List (List ℕ)). b ++ delivered_in k.events) h.delivered
      ∙ append_assoc c.delivered.items (delivered_in h.events) (delivered_in k.events)
      ∙ ap (λ (b : List (List ℕ)). c.delivered.items ++ b) (sym (delivered_more h.events k.events));
  records = k.records;
  input = input_more h.events k.events h.input k.input;
  done = subst (λ (x : Bor Config). IsIdleBefore k.cause x.now k.state) h.config k.done;
  line = mid.session.line;
  behind = mid.reader.waiting;
  heard = hears_cause k.cause (bare_of c) piece (h.events ++ k.events) mid.session.line mid.reader.waiting k.line
      (line_more c.session.side c.session.line c.reader.waiting piece h.events k.events mid.session.line
      mid.reader.waiting k.silent (inl i) h.line);
  left = k.left;
  read = k.bytes ∙ ap (λ (x : Side). read_bytes x (reading_spot mid) k.events ++ k.left) h.side
      ∙ ap (λ (b : List ℕ). b ++ k.left) (sym (read_join says c.session.side c.session.config.now
      (id_text c.session.config.now.id) h.events k.events (state_at c.session (reading_spot c) c.reader.count)
      (state_at mid.session (reading_spot mid) mid.reader.count) first
      ∙ ap (λ (b : List ℕ). b ++ read_bytes c.session.side (reading_spot mid) k.events) (h.bytes (reading_spot c))));
  next = k.next;
  why = subst (λ (x : Side). AnswersCause says denies untrusted x c.session.config.now k.cause k.state error) h.side
      (subst (λ (x : Bor Config). AnswersCause says denies untrusted mid.session.side x.now k.cause k.state error)
      h.config k.why);
  asks = a k.cause k.state (begun_steps says mid.session.side mid.session.config.now (id_text mid.session.config.now.id)
      k.events (state_at mid.session (reading_spot mid) mid.reader.count) k.state k.steps) k.asks;
} where
  first : Steps says c.session.side c.session.config.now (id_text c.session.config.now.id)
      (state_at c.session (reading_spot c) c.reader.count) h.events
      (state_at mid.session (reading_spot mid) mid.reader.count)
  first = unread_steps nothing_said says c.session.side c.session.config.now (id_text c.session.config.now.id) h.events
      (state_at c.session (reading_spot c) c.reader.count) (state_at mid.session (reading_spot mid) mid.reader.count)
      h.unread h.steps

  moved : Steps says c.session.side c.session.config.now (id_text c.session.config.now.id)
      (state_at mid.session (reading_spot mid) mid.reader.count) k.events k.state
  moved = subst (λ (x : Side). Steps says x c.session.config.now (id_text c.session.config.now.id)
      (state_at mid.session (reading_spot mid) mid.reader.count) k.events k.state) h.side
      (subst (λ (b : Bor Config). Steps says mid.session.side b.now (id_text b.now.id)
      (state_at mid.session (reading_spot mid) mid.reader.count) k.events k.state) h.config k.steps)

-- ---- as contracts see it

refuses_piece : (says : Says) (denies : Denies) (untrusted : ServerHost → Type 0)
    (asked : RefusalCause → SideState → Type 0) (c mid c' : Connection) (piece : List ℕ) (error : Error)
    → IsFixed c.session mid.session → Breaks (standing_of mid) (standing_of c') → IsAsBefore mid.session c'.session
    → Fails says denies untrusted asked c piece error mid
    → RefusesPiece says denies untrusted (bare_of c) piece error (standing_of c')
refuses_piece says denies untrusted asked c mid c' piece error x b r f = record {
  cause = f.cause;
  refuses = record {
    at = f.state;
    events = f.events;
    side = b.side ∙ x.0;
    config = b.config ∙ ap (λ (y : Bor Config). y.now) x.1;
    steps = f.steps;
    input = f.input;
    output = r.output ∙ f.output;
    delivered = b.delivered ∙ f.delivered;
    records = r.records ∙ f.records;
    failed = b.failed;
    nothing = b.nothing;
    done = subst (λ (y : Config). IsIdleBefore f.cause y f.state) (sym (b.config ∙ ap (λ (y : Bor Config). y.now) x.1))
        f.done;
    line = f.line;
    behind = f.behind;
    heard = f.heard;
    left = f.left;
    read = f.read;
    next = f.next;
  };
  answers = f.why;
}

pub fails_read : (says : Config → Says) (denies : Denies) (untrusted : ServerHost → Type 0)
    (asked later : RefusalCause → SideState → Type 0) (c mid c' : Connection) (piece : List ℕ) (error : Error)
    → Later mid later asked → Hears c piece mid → IsHeard mid.session.line
    → Stops (says mid.session.config.now) denies untrusted later mid error c'
    → Fails (says c.session.config.now) denies untrusted asked c piece error c'
fails_read says denies untrusted asked later c mid c' piece error a h i k = fails_behind (says c.session.config.now)
    denies untrusted asked later c mid c' piece error a h i
    (subst (λ (b : Bor Config). Stops (says b.now) denies untrusted later mid error c') h.config k)

-- and how often the parts were asked
piece_asking : (says : Says) (denies : Denies) (untrusted : ServerHost → Type 0) (n n' : PartCalls)
    (c mid c' : Connection) (piece : List ℕ) (error : Error) → IsFixed c.session mid.session
    → Breaks (standing_of mid) (standing_of c') → IsAsBefore mid.session c'.session
    → Fails says denies untrusted (AsksTo c.session n n') c piece error mid
    → RefusesPieceAsking says denies untrusted (bare_of c) piece error (standing_of c') n n'
unfolding refuses_piece
piece_asking says denies untrusted n n' c mid c' piece error x b r f = record {
  refused = refuses_piece says denies untrusted (AsksTo c.session n n') c mid c' piece error x b r f;
  asks = until;
  few = refused_few says c.session.side c.session.config.now (id_text c.session.config.now.id) f.events f.cause
      (bare_of c).state f.state n n' f.steps until;
} where
  until : AsksUntil c.session.side f.cause (bare_of c).state f.state n n'
  until = record {
    mid = (f.asks).mid;
    before = record {
      agreement = ((f.asks).before).agreement;
      hosts =
          ((f.asks).before).hosts;
      lookups = ((f.asks).before).lookups;
      groups = ((f.asks).before).groups;
    };
    last =
        (f.asks).last;
  }

-- the piece behind what was kept
piece_asked : (says : Says) (denies : Denies) (untrusted : ServerHost → Type 0) (n n' : PartCalls)
    (c mid c' : Connection) (piece : List ℕ) (error : Error) → IsFixed c.session mid.session
    → Breaks (standing_of mid) (standing_of c') → IsAsBefore mid.session c'.session
    → Fails says denies untrusted (AsksTo c.session n n') (emptied c) (c.reader.waiting ++ piece) error mid
    → RefusesPieceAsking says denies untrusted (standing_of c) piece error (standing_of c') n n'
piece_asked says denies untrusted n n' c mid c' piece error x b r f = piece_asking_kept says denies untrusted
    (bare_of (emptied c)) (standing_of c') c.reader.waiting piece error n n'
    (piece_asking says denies untrusted n n' (emptied c) mid c' (c.reader.waiting ++ piece) error x b r f)

pub piece_answer : {T : Type 0} (says : Says) (denies : Denies) (untrusted : ServerHost → Type 0) (n n' : PartCalls)
    (c mid c' : Connection) (piece : List ℕ) (answer done : Result T Error) → done ≡ answer
    → IsFixed c.session mid.session → OnErr answer (Breaks (standing_of mid) (standing_of c'))
    → OnErr answer (IsAsBefore mid.session c'.session) → IfErr answer
    (λ e. Fails says denies untrusted (AsksTo c.session n n') (emptied c) (c.reader.waiting ++ piece) e mid)
    → IfErr done (λ e. RefusesPieceAsking says denies untrusted (standing_of c) piece e (standing_of c') n n')
piece_answer {T} says denies untrusted n n' c mid c' piece (Ok u) done d x b r f = subst
    (λ (y : Result T Error). IfErr y (λ e. RefusesPieceAsking says denies untrusted (standing_of c) piece e
    (standing_of c') n n')) (sym d) tt
piece_answer {T} says denies untrusted n n' c mid c' piece (Err e) done d x b r f = subst
    (λ (y : Result T Error). IfErr y (λ e. RefusesPieceAsking says denies untrusted (standing_of c) piece e
    (standing_of c') n n')) (sym d) (piece_asked says denies untrusted n n' c mid c' piece e x b r f)
