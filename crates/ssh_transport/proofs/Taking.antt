-- Packets that are read one after the other.
use Rattle.std.proofs.Common.{◌≡◌, ℕ, ◌+◌, ◌<◌, ◌^◌, Bool, true, false, Option, Some, IfSome, Result, Ok, List, [], ◌∷◌, ◌++◌, length, refl, sym, ap, ◌∙◌, subst, arith, append_assoc, append-nil}
use Rattle.std.specs.Borrow.{Bor}
use Rattle.ssh_wire.specs.Lines.{id_text}
use Rattle.ssh_wire.specs.Orders.{is_kex}
use Rattle.ssh_wire.specs.declared.side.Side.{Side}
use Rattle.ssh_packet.specs.Keys.{opening_of}
use Rattle.ssh_packet.specs.Reading.{LeavesNext}
use Rattle.ssh_packet.specs.Sealing.{Item, Sealing, moved_on, next_number, sealed_packet}
use Rattle.ssh_packet.specs.Stream.{message_type}
use Rattle.ssh_packet.specs.Writing.{count_after}
use Rattle.ssh_packet.specs.declared.error.OpenError.{OpenError}
use Rattle.ssh_packet.specs.declared.reader.Incoming.{Incoming}
use Rattle.ssh_kex.specs.Setting.{Says}
use Rattle.ssh_kex.specs.declared.config.Config.{Config}
use Rattle.ssh_rules.specs.Log.{asked_in, causes_in, delivered_in, handled, read_bytes, sent_bytes, submitted_in}
use Rattle.ssh_rules.specs.Machine.{AnswerSent, Event, ExchangeBegun, ExchangeFinished, GuessDropped, IdHeard, MessageTaken, PacketDropped, PayloadDelivered, PayloadSent, PayloadSubmitted, Spot, Steps, spot_after, spot_renumbered}
use Rattle.ssh_rules.specs.Standing.{HearsNone, IsInput, WaitsInPart, nothing_said}
use Rattle.ssh_rules.proofs.Lemmas.{asked_more, causes_more, delivered_more, handled_more, read_join, sent_join, steps_join, submitted_more}
use Rattle.ssh_transport.specs.Handling.{DoesWith, Handles, IsReadAt, delivered_by, read_behind, spot_behind}
use Rattle.ssh_transport.specs.Kept.{IsLive}
use Rattle.ssh_transport.specs.Saying.{GoesOn, IsFixed, OnlyWrites, Writes}
use Rattle.ssh_transport.specs.States.{reading_spot, state_at, with_more}
use Rattle.ssh_transport.specs.Taking.{MovesKey, Goes, HandlesOne, Lends, PollsOne, Reads, TakesUp, Took, count_up, kept_by, read_as, spot_up}
use Rattle.ssh_transport.specs.declared.connection.Connection.{Connection}
use Rattle.ssh_transport.specs.declared.connection.PacketRead.{PacketRead}
use Rattle.ssh_transport.specs.declared.connection.PacketRead.TheVariants.{Nothing, Packet, Payload}
use Rattle.ssh_packet.specs.declared.keys.OpenKey.{OpenKey}
use Rattle.ssh_transport.specs.declared.session.Disposition.{Disposition}
use Rattle.ssh_transport.specs.Handling.{GivesPayload, KeepsKey, Outcome, outcome_of}
use Rattle.ssh_transport.specs.declared.session.Disposition.TheVariants.{Delivers, Done, Rekeys}
use Rattle.ssh_transport.specs.declared.session.Session.{Session}
use Rattle.ssh_transport.proofs.Answering.{spot_of}
use Rattle.ssh_transport.proofs.Saying.{IsSilentLog, only_silent, unread_steps}
use Rattle.ssh_transport.proofs.Weaker.{Weaker, steps_weaker}

-- ---- events one after the other

pub silent_more : (a b : List Event) → HearsNone a → HearsNone b → HearsNone (a ++ b)
silent_more [] b h k = k
silent_more (IdHeard id ∷ a) b h k = absurd h
silent_more (PayloadSubmitted p ∷ a) b h k = silent_more a b h k
silent_more (ExchangeBegun cause i ∷ a) b h k = silent_more a b h k
silent_more (AnswerSent i again ∷ a) b h k = silent_more a b h k
silent_more (PayloadSent i ∷ a) b h k = silent_more a b h k
silent_more (MessageTaken i ∷ a) b h k = silent_more a b h k
silent_more (GuessDropped i ∷ a) b h k = silent_more a b h k
silent_more (PayloadDelivered i ∷ a) b h k = silent_more a b h k
silent_more (PacketDropped i ∷ a) b h k = silent_more a b h k
silent_more (ExchangeFinished i x ∷ a) b h k = silent_more a b h k

pub input_more : (a b : List Event) → IsInput a → IsInput b → IsInput (a ++ b)
input_more a b h k =
    let s : submitted_in a ++ submitted_in b ≡ [] = ap (λ (x : List (List ℕ)). x ++ submitted_in b) h.0 ∙ k.0 in
    let n : asked_in (causes_in a ++ causes_in b) ≡ asked_in (causes_in a) + asked_in (causes_in b) = asked_more
    (causes_in a) (causes_in b) in
    let p = h.1 in
    let q = k.1 in
    (submitted_more a b ∙ s, ap asked_in (causes_more a b) ∙ (omega (arith, n, p, q)))

only_unread : (es : List Event) (side : Side) (at : Spot) → OnlyWrites es → read_bytes side at es ≡ []
only_unread [] side at h = refl
only_unread (ExchangeBegun cause i ∷ es) side at h = only_unread es side at h.1
only_unread (PayloadSent i ∷ es) side at h = only_unread es side at h
only_unread (IdHeard id ∷ es) side at h = absurd h
only_unread (PayloadSubmitted p ∷ es) side at h = absurd h
only_unread (AnswerSent i again ∷ es) side at h = absurd h
only_unread (MessageTaken i ∷ es) side at h = absurd h
only_unread (GuessDropped i ∷ es) side at h = absurd h
only_unread (PayloadDelivered i ∷ es) side at h = absurd h
only_unread (PacketDropped i ∷ es) side at h = absurd h
only_unread (ExchangeFinished i x ∷ es) side at h = absurd h

-- ---- none, and more

own_of : Session → List ℕ
own_of s = id_text s.config.now.id

pub goes_of : (says : Says) (c c' : Connection) (h : Reads says c c') → Goes says c h.events c'
goes_of says c c' h = record {
  side = h.side;
  config = h.config;
  line = h.line;
  steps = h.steps;
  output = h.output;
  bytes = h.bytes;
  input = h.input;
  silent = h.silent;
}

unfoldable pub reads_of : (says : Says) (c c' : Connection) (events : List Event) → Goes says c events c'
    → c'.delivered.items ≡ c.delivered.items ++ delivered_in events → Reads says c c'
reads_of says c c' events h d = record {
  events = events;
  side = h.side;
  config = h.config;
  line = h.line;
  steps =
      h.steps;
  output = h.output;
  bytes = h.bytes;
  delivered = d;
  input = h.input;
  silent = h.silent;
}

unfoldable pub reads_none : (says : Says) (c : Connection) → Reads says c c
reads_none says c = record {
  events = [];
  side = refl;
  config = refl;
  line = refl;
  steps = refl;
  output = sym
      (append-nil c.session.writer.output);
  bytes = refl;
  delivered = sym (append-nil c.delivered.items);
  input =
      (refl, refl);
  silent = tt;
}

-- the reader lends nothing any more
reads_unlent : (says : Says) (c : Connection) → Reads says c (record c { reader = record c.reader { handed = [] } })
reads_unlent says c = record {
  events = [];
  side = refl;
  config = refl;
  line = refl;
  steps = refl;
  output = sym
      (append-nil c.session.writer.output);
  bytes = refl;
  delivered = sym (append-nil c.delivered.items);
  input =
      (refl, refl);
  silent = tt;
}

pub reads_unlent_as : (says : Says) (c c' : Connection) → c' ≡ record c { reader = record c.reader { handed = [] } }
    → Reads says c c'
reads_unlent_as says c c' e = subst (λ (x : Connection). Reads says c x) (sym e) (reads_unlent says c)

pub goes_join : (says : Says) (c mid c' : Connection) (a b : List Event) → Goes says c a mid → Goes says mid b c'
    → Goes says c (a ++ b) c'
goes_join says c mid c' a b h k = record {
  side = k.side ∙ h.side;
  config = k.config ∙ h.config;
  line = k.line ∙ h.line;
  steps = steps_join says c.session.side c.session.config.now (id_text c.session.config.now.id) a b
      (state_at c.session (reading_spot c) c.reader.count) (state_at mid.session (reading_spot mid) mid.reader.count)
      (state_at c'.session (reading_spot c') c'.reader.count) h.steps moved;
  output = k.output ∙ ap (λ (t : List ℕ). t ++ sent_bytes mid.session.side (spot_of mid.session.writer) b) h.output
      ∙ append_assoc c.session.writer.output (sent_bytes c.session.side (spot_of c.session.writer) a)
      (sent_bytes mid.session.side (spot_of mid.session.writer) b)
      ∙ ap (λ (x : Side). c.session.writer.output ++ (sent_bytes c.session.side (spot_of c.session.writer) a ++
      sent_bytes x (spot_of mid.session.writer) b)) h.side
      ∙ ap (λ (t : List ℕ). c.session.writer.output ++ t) (sym
      (sent_join says c.session.side c.session.config.now (id_text c.session.config.now.id) a b
      (state_at c.session (reading_spot c) c.reader.count)
      (state_at mid.session (reading_spot mid) mid.reader.count) h.steps));
  bytes = h.bytes ∙ ap (λ (t : List ℕ). read_bytes c.session.side (reading_spot c) a ++ t)
      (k.bytes ∙ ap (λ (x : Side). read_bytes x (reading_spot mid) b ++ c'.reader.waiting) h.side)
      ∙ sym (append_assoc (read_bytes c.session.side (reading_spot c) a)
      (read_bytes c.session.side (reading_spot mid) b) c'.reader.waiting)
      ∙ ap (λ (t : List ℕ). t ++ c'.reader.waiting) (sym (read_join says c.session.side c.session.config.now
      (id_text c.session.config.now.id) a b (state_at c.session (reading_spot c) c.reader.count)
      (state_at mid.session (reading_spot mid) mid.reader.count) h.steps));
  input = input_more a b h.input k.input;
  silent = silent_more a b h.silent k.silent;
} where
  moved : Steps says c.session.side c.session.config.now (id_text c.session.config.now.id)
      (state_at mid.session (reading_spot mid) mid.reader.count) b
      (state_at c'.session (reading_spot c') c'.reader.count)
  moved = subst (λ (x : Side). Steps says x c.session.config.now (id_text c.session.config.now.id)
      (state_at mid.session (reading_spot mid) mid.reader.count) b
      (state_at c'.session (reading_spot c') c'.reader.count)) h.side
      (subst (λ (x : Bor Config). Steps says mid.session.side x.now (id_text x.now.id)
      (state_at mid.session (reading_spot mid) mid.reader.count) b
      (state_at c'.session (reading_spot c') c'.reader.count)) h.config k.steps)

pub reads_join : (says : Says) (c mid c' : Connection) → Reads says c mid → Reads says mid c' → Reads says c c'
reads_join says c mid c' h k = reads_of says c c' (h.events ++ k.events)
    (goes_join says c mid c' h.events k.events (goes_of says c mid h) (goes_of says mid c' k))
    (k.delivered ∙ ap (λ (t : List (List ℕ)). t ++ delivered_in k.events) h.delivered
    ∙ append_assoc c.delivered.items (delivered_in h.events) (delivered_in k.events)
    ∙ ap (λ (t : List (List ℕ)). c.delivered.items ++ t) (sym (delivered_more h.events k.events)))

-- with more behind what waits
pub goes_more : (says : Says) (c c' : Connection) (events : List Event) (more : List ℕ) → Goes says c events c'
    → Goes says (with_more c more) events (with_more c' more)
goes_more says c c' events more h = record {
  side = h.side;
  config = h.config;
  line = h.line;
  steps = h.steps;
  output =
      h.output;
  bytes = ap (λ (t : List ℕ). t ++ more) h.bytes
      ∙ append_assoc (read_bytes c.session.side (reading_spot c) events) c'.reader.waiting more;
  input = h.input;
  silent =
      h.silent;
}

pub reads_more : (says : Says) (c c' : Connection) (more : List ℕ) → Reads says c c'
    → Reads says (with_more c more) (with_more c' more)
reads_more says c c' more h = reads_of says (with_more c more) (with_more c' more) h.events
    (goes_more says c c' h.events more (goes_of says c c' h)) h.delivered

-- nothing is behind it
pub reads_plain : (says : Says) (c c' : Connection) (more : List ℕ) → more ≡ [] → Reads says c (with_more c' more)
    → Reads says c c'
reads_plain says c c' more e h = record {
  events = h.events;
  side = h.side;
  config = h.config;
  line = h.line;
  steps =
      h.steps;
  output = h.output;
  bytes = h.bytes ∙ ap (λ (x : List ℕ). read_bytes c.session.side (reading_spot c)
      h.events ++ (c'.reader.waiting ++ x)) e ∙ ap (λ (x : List ℕ). read_bytes c.session.side (reading_spot c) h.events ++
      x) (append-nil c'.reader.waiting);
  delivered = h.delivered;
  input = h.input;
  silent = h.silent;
}

pub reads_weaker : (a b : Says) → Weaker a b → (c c' : Connection) → Reads a c c' → Reads b c c'
reads_weaker a b w c c' h = record {
  events = h.events;
  side = h.side;
  config = h.config;
  line = h.line;
  steps =
      steps_weaker a b w c.session.side c.session.config.now (id_text c.session.config.now.id) h.events
      (state_at c.session (reading_spot c) c.reader.count) (state_at c'.session (reading_spot c') c'.reader.count)
      h.steps;
  output = h.output;
  bytes = h.bytes;
  delivered = h.delivered;
  input = h.input;
  silent = h.silent;
}

-- ---- one packet

-- a packet was read, and what it asks for by itself was done
pub record Handed (c : Connection) (item : Item) (answer : Outcome) (c' : Connection) : Type 0 where
  pub reading : reading_spot c' ≡ spot_behind answer (reading_spot c) item
  pub count : c'.reader.count ≡ read_behind answer c.reader.count item
  pub bytes : c.reader.waiting ≡ sealed_packet (opening_of c.opening) c.reader.number item ++ c'.reader.waiting
  pub delivered : c'.delivered.items ≡ c.delivered.items ++ delivered_by answer item

pub goes_packet : (says : Says) (c c' : Connection) (seqn : ℕ) (payload : List ℕ) (item : Item) (answer : Outcome)
    → IsFixed c.session c'.session → c'.session.line ≡ c.session.line
    → reading_spot c' ≡ spot_behind answer (reading_spot c) item
    → c'.reader.count ≡ read_behind answer c.reader.count item
    → c.reader.waiting ≡ sealed_packet (opening_of c.opening) c.reader.number item ++ c'.reader.waiting
    → (d : DoesWith says c.session (reading_spot c) c.reader.count item answer c'.session) → Goes says c d.events c'
goes_packet says c c' seqn payload item answer fixed line reading count bytes d = record {
  side = fixed.0;
  config = fixed.1;
  line = line;
  steps = subst (λ (n : ℕ). Steps says c.session.side c.session.config.now (id_text c.session.config.now.id)
      (state_at c.session (reading_spot c) c.reader.count) d.events (state_at c'.session (reading_spot c') n))
      (sym count)
      (subst (λ (x : Spot). Steps says c.session.side c.session.config.now (id_text c.session.config.now.id)
      (state_at c.session (reading_spot c) c.reader.count) d.events
      (state_at c'.session x (read_behind answer c.reader.count item))) (sym reading) d.steps);
  output = d.output;
  bytes = bytes ∙ ap (λ (t : List ℕ). t ++ c'.reader.waiting) (sym d.bytes);
  input = d.input;
  silent = d.silent;
}

pub reads_packet : (says : Says) (c c' : Connection) (seqn : ℕ) (payload : List ℕ) (item : Item) (answer : Outcome)
    → IsLive c → IsReadAt (reading_spot c) seqn payload item → Handles says c.session seqn payload answer c'.session
    → IsFixed c.session c'.session → c'.session.line ≡ c.session.line → Handed c item answer c' → Reads says c c'
reads_packet says c c' seqn payload item answer live at h fixed line g =
    let d : DoesWith says c.session (reading_spot c) c.reader.count item answer c'.session = h (reading_spot c)
    c.reader.count item at live.settled in
    reads_of says c c' d.events (goes_packet says c c' seqn payload item answer fixed line g.reading g.count g.bytes d)
    (g.delivered ∙ ap (λ (t : List (List ℕ)). c.delivered.items ++ t) (sym d.delivered))

-- and what a side writes of itself
pub goes_written : (says : Says) (c : Connection) (s' : Session) (read : ℕ) (events : List Event)
    → read ≡ c.reader.count → Writes c.session read events s' → Goes says c events (record c { session = s' })
goes_written says c s' read events e h =
    let log = only_silent events h.only in
    record {
      side = h.side;
      config = h.config;
      line = h.line;
      steps = subst (λ (n : ℕ). Steps says c.session.side c.session.config.now (id_text c.session.config.now.id)
          (state_at c.session (reading_spot c) n) events (state_at s' (reading_spot c) n)) e
          (unread_steps nothing_said says c.session.side c.session.config.now (id_text c.session.config.now.id) events
          (state_at c.session (reading_spot c) read) (state_at s' (reading_spot c) read) log.handled_none
          (h.steps (reading_spot c)));
      output = h.output;
      bytes = ap (λ (t : List ℕ). t ++ c.reader.waiting) (sym
          (only_unread events c.session.side (reading_spot c) h.only));
      input = (log.submitted_none, log.unasked);
      silent = log.hears_none;
    }

pub reads_written : (says : Says) (c : Connection) (s' : Session) (read : ℕ) (events : List Event)
    → read ≡ c.reader.count → Writes c.session read events s' → Reads says c (record c { session = s' })
reads_written says c s' read events e h =
    reads_of says c (record c { session = s' }) events (goes_written says c s' read events e h)
    (sym (ap (λ (t : List (List ℕ)). c.delivered.items ++ t) (only_silent events h.only).delivered_none
    ∙ append-nil c.delivered.items))

pub reads_on : (says : Says) (c : Connection) (s' : Session) (read : ℕ) → read ≡ c.reader.count
    → GoesOn c.session read s' → Reads says c (record c { session = s' })
reads_on says c s' read e h = reads_written says c s' read h.events e h.writes

-- where the parts were asked before, what they say later is what they said then
pub reads_after : (says later : Config → Says) → ((x : Config) → Weaker (later x) (says x)) → (c mid c' : Connection)
    → mid.session.config ≡ c.session.config → Reads (says c.session.config.now) c mid
    → Reads (later mid.session.config.now) mid c' → Reads (says c.session.config.now) c c'
reads_after says later w c mid c' e h k = reads_join (says c.session.config.now) c mid c' h
    (reads_weaker (later c.session.config.now) (says c.session.config.now) (w c.session.config.now) mid c'
    (subst (λ (b : Bor Config). Reads (later b.now) mid c') e k))

delivered_kept : (answer : Disposition) (key : OpenKey) (payload : List ℕ) (item : Item) → payload ≡ item.payload
    → kept_by answer payload ≡ delivered_by (outcome_of answer key) item
delivered_kept Delivers key payload item e = ap (λ (x : List ℕ). x ∷ []) e
delivered_kept Done key payload item e = refl
delivered_kept (Rekeys again) key payload item e = refl

pub items_of : (a b : Connection) → a.delivered ≡ b.delivered → a.delivered.items ≡ b.delivered.items
items_of a b e = ap (λ v. v.items) e

moves_key : (answer : Disposition) (old : Sealing) (item : Item) (key key' : OpenKey)
    → opening_of key ≡ moved_on old item
    → KeepsKey answer key key' → MovesKey answer old item (opening_of key')
moves_key Delivers old item key key' e k = ap opening_of k ∙ e
moves_key Done old item key key' e k = ap opening_of k ∙ e
moves_key (Rekeys again) old item key key' e k = tt

-- a packet was opened, and done with what it asks for by itself
pub handles_one : (says : Says) (c c' : Connection) (key : OpenKey) (result : Result (Option Incoming) OpenError)
    (o : Option Incoming) (incoming : Incoming) (answer : Disposition)
    → LeavesNext c.reader (opening_of c.opening) (opening_of key) result c'.reader → result ≡ Ok o
    → o ≡ Some incoming → c.reader.number < 2 ^ 32
    → Handles says c.session incoming.seqn incoming.payload.now (outcome_of answer c'.opening) c'.session
    → KeepsKey answer key c'.opening → c'.delivered ≡ c.delivered → (answer ≡ Delivers → c'.session ≡ c.session)
    → (is_kex (message_type incoming.payload.now) ≡ false → c'.session ≡ c.session) → HandlesOne says c answer c'
handles_one says c c' key result o incoming answer l e f small h stays d still others = record {
  seqn = incoming.seqn;
  item = k.0;
  at = record { small = small; seqn_is = (k.1).seqn; payload_is = refl; admissible = (k.1).admissible };
  handles = subst (λ (p : List ℕ). Handles says c.session incoming.seqn p (outcome_of answer c'.opening) c'.session)
      (k.1).payload h;
  number = (k.1).number;
  count = (k.1).count;
  sealing = moves_key answer (opening_of c.opening) k.0 key c'.opening (k.1).moved stays;
  front = (k.1).front;
  bytes = (k.1).bytes;
  shorter = (k.1).shorter;
  unbroken = (k.1).failed;
  handed = (k.1).handed;
  window = (k.1).window;
  delivered = d;
  still = still;
  others = λ n. others (ap (λ (p : List ℕ). is_kex (message_type p)) (k.1).payload ∙ n);
} where
  k : LeavesNext c.reader (opening_of c.opening) (opening_of key) (Ok (Some incoming)) c'.reader
  k = subst (λ (x : Option Incoming). LeavesNext c.reader (opening_of c.opening) (opening_of key) (Ok x) c'.reader) f
      (subst (λ (r : Result (Option Incoming) OpenError). LeavesNext c.reader (opening_of c.opening) (opening_of key) r
      c'.reader) e l)

took_with : (says : Says) (c c1 c2 : Connection) (answer : Disposition) (t : HandlesOne says c answer c1)
    → c2 ≡ record c1 { delivered = c2.delivered } → c2.delivered.items ≡ c.delivered.items ++ delivered_by
    (outcome_of answer c1.opening) t.item
    → Took says c answer c2
took_with says c c1 c2 answer t e d = subst (λ (x : Connection). Took says c answer x) (sym e)
    (record {
      seqn = t.seqn;
      item = t.item;
      at = t.at;
      handles = t.handles;
      number = t.number;
      count = t.count;
      sealing
          = t.sealing;
      bytes = t.bytes;
      shorter = t.shorter;
      unbroken = t.unbroken;
      window = t.window;
      delivered = d;
    })

-- and its payload was queued
pub took_queued : (says : Says) (c c1 c2 : Connection) (answer : Disposition) → HandlesOne says c answer c1
    → c2 ≡ record c1 { delivered = c2.delivered } → c2.delivered.items ≡ c1.delivered.items ++ kept_by answer
    c1.reader.handed → Took says c answer c2
took_queued says c c1 c2 answer t e d = took_with says c c1 c2 answer t e
    (d ∙ ap (λ (t : List (List ℕ)). t ++ kept_by answer c1.reader.handed) (items_of c1 c t.delivered)
    ∙ ap (λ (x : List (List ℕ)). c.delivered.items ++ x) (delivered_kept answer c1.opening c1.reader.handed t.item
    t.handed))

-- or nothing of it is delivered
pub took_nothing : (says : Says) (c c1 : Connection) (answer : Disposition) (t : HandlesOne says c answer c1)
    → delivered_by (outcome_of answer c1.opening) t.item ≡ [] → Took says c answer c1
took_nothing says c c1 answer t n = took_with says c c1 c1 answer t refl
    (items_of c1 c t.delivered ∙ sym (ap (λ (x : List (List ℕ)). c.delivered.items ++ x) n
    ∙ append-nil c.delivered.items))

number_after : (n : ℕ) → next_number n < 2 ^ 32
number_after n = omega arith

renumbered_small : (again : Bool) (at : Spot) → at.number < 2 ^ 32 → (spot_renumbered again at).number < 2 ^ 32
renumbered_small true at h = omega arith
renumbered_small false at h = h

up_small : (answer : Disposition) (at : Spot) → at.number < 2 ^ 32 → (spot_up answer at).number < 2 ^ 32
up_small Delivers at h = h
up_small Done at h = h
up_small (Rekeys again) at h = renumbered_small again at h

up_read : (answer : Disposition) (key : OpenKey) (n n' : ℕ) (item : Item) → n' ≡ count_after n (length item.payload)
    → count_up answer n' ≡ read_behind (outcome_of answer key) n item
up_read Delivers key n n' item e = e
up_read Done key n n' item e = e
up_read (Rekeys again) key n n' item e = refl

spot_moved : (c c1 : Connection) (item : Item) → c1.reader.number ≡ next_number c.reader.number
    → opening_of c1.opening ≡ moved_on (opening_of c.opening) item → reading_spot c1 ≡ spot_after (reading_spot c) item
spot_moved c c1 item n k = ap (λ (x : Sealing). record { sealing = x; number = c1.reader.number }) k
    ∙ ap (λ (m : ℕ). record { sealing = moved_on (opening_of c.opening) item; number = m }) n

up_behind : (answer : Disposition) (c c1 : Connection) (item : Item) → c1.reader.number ≡ next_number c.reader.number
    → MovesKey answer (opening_of c.opening) item (opening_of c1.opening)
    → spot_up answer (reading_spot c1) ≡ spot_behind (outcome_of answer c1.opening) (reading_spot c) item
up_behind Delivers c c1 item n k = spot_moved c c1 item n k
up_behind Done c c1 item n k = spot_moved c c1 item n k
up_behind (Rekeys again) c c1 item n k =
    ap (λ (m : ℕ). spot_renumbered again (record { sealing = opening_of c1.opening; number = m })) n

pub numbered_up : (c c1 c2 : Connection) (answer : Disposition) → c1.reader.number ≡ next_number c.reader.number
    → TakesUp answer c1 c2 → c2.reader.number < 2 ^ 32
numbered_up c c1 c2 answer n u = subst (λ (x : Spot). x.number < 2 ^ 32) (sym u.reading)
    (up_small answer (reading_spot c1) (subst (λ (m : ℕ). m < 2 ^ 32) (sym n) (number_after c.reader.number)))

pub reads_up : (says : Says) (c c1 c2 : Connection) (answer : Disposition) → IsLive c → Took says c answer c1
    → IsFixed c.session c1.session → c1.session.line ≡ c.session.line → TakesUp answer c1 c2 → Reads says c c2
reads_up says c c1 c2 answer live t fixed line u =
    reads_packet says c c2 t.seqn t.item.payload t.item (outcome_of answer c1.opening) live t.at
    (subst (λ (s : Session). Handles says c.session t.seqn t.item.payload (outcome_of answer c1.opening) s) same
    t.handles)
    (subst (λ (s : Session). IsFixed c.session s) same fixed)
    (subst (λ (s : Session). s.line ≡ c.session.line) same line)
    (record {
      reading = u.reading ∙ up_behind answer c c1 t.item t.number t.sealing;
      count = u.count ∙ up_read answer c1.opening c.reader.count c1.reader.count t.item t.count;
      bytes = t.bytes ∙ ap (λ (x : List ℕ). sealed_packet (opening_of c.opening) c.reader.number t.item ++ x)
          (sym u.waiting);
      delivered = ap (λ (x : Connection). x.delivered.items) u.rest ∙ t.delivered;
    })
  where
    same : c1.session ≡ c2.session
    same = sym (ap (λ (x : Connection). x.session) u.rest)

pub reads_taken : (says : Says) (c c1 c2 : Connection) (s' : Session) (read : ℕ) (answer : Disposition) → IsLive c
    → Took says c answer c1 → IsFixed c.session c1.session → c1.session.line ≡ c.session.line → TakesUp answer c1 c2
    → read ≡ c2.reader.count → GoesOn c2.session read s' → Reads says c (record c2 { session = s' })
reads_taken says c c1 c2 s' read answer live t fixed line u e h = reads_join says c c2 (record c2 { session = s' })
    (reads_up says c c1 c2 answer live t fixed line u) (reads_on says c2 s' read e h)

-- ---- a payload that is lent

pub nothing_more : (xs ys : List (List ℕ)) → xs ≡ xs ++ ys → ys ≡ []
nothing_more [] ys e = sym e
nothing_more (x ∷ xs) ys e = nothing_more xs ys (tail_of x xs (xs ++ ys) e)
  where
    tail_of : (y : List ℕ) (a b : List (List ℕ)) → y ∷ a ≡ y ∷ b → a ≡ b
    tail_of y a b f = cc

lends_packet : (says : Says) (c c1 c2 : Connection) (s' : Session) (read : ℕ) → IsLive c → HandlesOne says c Delivers c1
    → IsFixed c.session c1.session → c1.session.line ≡ c.session.line → TakesUp Delivers c1 c2 → read ≡ c2.reader.count
    → GoesOn c2.session read s' → Lends says c c2.reader.handed (record c2 { session = s' })
lends_packet says c c1 c2 s' read live t fixed line u e g = record {
  events = d.events ++ g.events;
  goes = goes_join says c c2 (record c2 { session = s' }) d.events g.events
      (subst (λ (x : Connection). Goes says c d.events x) (sym same) first)
      (goes_written says c2 s' read g.events e g.writes);
  unqueued = ap (λ (x : Connection). x.delivered) same ∙ t.delivered;
  lent = delivered_more d.events g.events ∙ ap (λ (x : List (List ℕ)). x ++ delivered_in g.events) d.delivered
      ∙ ap (λ (x : List (List ℕ)). t.item.payload ∷ x) log.delivered_none ∙ ap (λ (x : List ℕ). x ∷ []) lent;
  before = [];
  item = t.item;
  last = handled_more d.events g.events ∙ ap (λ (x : List Event). handled x ++ handled g.events) (d.alone refl)
      ∙ ap (λ (x : List Item). t.item ∷ x) log.handled_none;
  payload_is = lent;
} where
  d : DoesWith says c.session (reading_spot c) c.reader.count t.item GivesPayload c1.session
  d = t.handles (reading_spot c) c.reader.count t.item t.at live.settled

  same : c2 ≡ c1
  same = u.still refl

  lent : t.item.payload ≡ c2.reader.handed
  lent = sym (ap (λ (x : Connection). x.reader.handed) same ∙ t.handed)

  log : IsSilentLog g.events
  log = only_silent g.events g.writes.only

  first : Goes says c d.events c1
  first = goes_packet says c c1 t.seqn t.item.payload t.item GivesPayload fixed line
      (spot_moved c c1 t.item t.number t.sealing) t.count t.bytes d

read_on : (says : Says) (c c1 c2 : Connection) (s' : Session) (read : ℕ) (answer : Disposition)
    (t : HandlesOne says c answer c1) → delivered_by (outcome_of answer c1.opening) t.item ≡ [] → IsLive c
    → IsFixed c.session c1.session
    → c1.session.line ≡ c.session.line → TakesUp answer c1 c2 → read ≡ c2.reader.count → GoesOn c2.session read s'
    → Reads says c (record c2 { session = s' }) × (c2.delivered ≡ c.delivered)
read_on says c c1 c2 s' read answer t n live fixed line u e g = (
  reads_taken says c c1 c2 s' read answer live (took_nothing says c c1 answer t n) fixed line u e g,
  ap
      (λ (x : Connection). x.delivered) u.rest ∙ t.delivered,
)

-- by what is done with it
polls_taken : (says : Says) (c c1 c2 : Connection) (s' : Session) (read : ℕ) (answer : Disposition) → IsLive c
    → HandlesOne says c answer c1 → IsFixed c.session c1.session → c1.session.line ≡ c.session.line
    → TakesUp answer c1 c2 → read ≡ c2.reader.count → GoesOn c2.session read s'
    → PollsOne says c (read_as answer) (record c2 { session = s' })
polls_taken says c c1 c2 s' read Delivers live t fixed line u e g = lends_packet says c c1 c2 s' read live t fixed line
    u e g
polls_taken says c c1 c2 s' read Done live t fixed line u e g = read_on says c c1 c2 s' read Done t refl live fixed line
    u e g
polls_taken says c c1 c2 s' read (Rekeys again) live t fixed line u e g = read_on says c c1 c2 s' read
    (Rekeys again) t refl live fixed line u e g

pub polls_as : (says : Says) (c c1 c2 : Connection) (s' : Session) (n : ℕ) (answer : Disposition) (read : PacketRead)
    → read ≡ read_as answer → IsLive c → HandlesOne says c answer c1 → IsFixed c.session c1.session
    → c1.session.line ≡ c.session.line → TakesUp answer c1 c2 → n ≡ c2.reader.count → GoesOn c2.session n s'
    → PollsOne says c read (record c2 { session = s' })
polls_as says c c1 c2 s' n answer read r live t fixed line u e g = subst
    (λ (x : PacketRead). PollsOne says c x (record c2 { session = s' })) (sym r)
    (polls_taken says c c1 c2 s' n answer live t fixed line u e g)

pub polls_none : (says : Says) (c c' : Connection) → c' ≡ record c { reader = record c.reader { handed = [] } }
    → c'.delivered ≡ c.delivered → WaitsInPart (reading_spot c) c.reader.waiting → PollsOne says c Nothing c'
polls_none says c c' e d p = (
  reads_unlent_as says c c' e,
  d,
  subst
      (λ (x : Connection). WaitsInPart (reading_spot x) x.reader.waiting) (sym e) p,
)

-- behind packets that were read
goes_weaker : (a b : Says) → Weaker a b → (c c' : Connection) (events : List Event) → Goes a c events c'
    → Goes b c events c'
goes_weaker a b w c c' events h = record {
  side = h.side;
  config = h.config;
  line = h.line;
  steps = steps_weaker a b w
      c.session.side c.session.config.now (id_text c.session.config.now.id) events
      (state_at c.session (reading_spot c) c.reader.count) (state_at c'.session (reading_spot c') c'.reader.count)
      h.steps;
  output = h.output;
  bytes = h.bytes;
  input = h.input;
  silent = h.silent;
}

lends_behind : (says : Says) (c mid c' : Connection) (payload : List ℕ) → Reads says c mid → mid.delivered ≡ c.delivered
    → Lends says mid payload c' → Lends says c payload c'
lends_behind says c mid c' payload h d k = record {
  events = h.events ++ k.events;
  goes = goes_join says c mid c' h.events k.events (goes_of says c mid h) k.goes;
  unqueued = k.unqueued ∙ d;
  lent = delivered_more h.events k.events ∙ ap (λ (x : List (List ℕ)). x ++ delivered_in k.events)
      (nothing_more c.delivered.items (delivered_in h.events) (sym (items_of mid c d) ∙ h.delivered)) ∙ k.lent;
  before = handled h.events ++ k.before;
  item = k.item;
  last = handled_more h.events k.events ∙ ap (λ (x : List Item). handled h.events ++ x) k.last
      ∙ sym (append_assoc (handled h.events) k.before (k.item ∷ []));
  payload_is = k.payload_is;
}

lends_weaker : (a b : Says) → Weaker a b → (c c' : Connection) (payload : List ℕ) → Lends a c payload c'
    → Lends b c payload c'
lends_weaker a b w c c' payload h = record {
  events = h.events;
  goes = goes_weaker a b w c c' h.events h.goes;
  unqueued
      = h.unqueued;
  lent = h.lent;
  before = h.before;
  item = h.item;
  last = h.last;
  payload_is = h.payload_is;
}

pub polls_after : (says later : Config → Says) → ((x : Config) → Weaker (later x) (says x))
    → (c mid c' : Connection) (read : PacketRead) → mid.session.config ≡ c.session.config
    → Reads (says c.session.config.now) c mid → mid.delivered ≡ c.delivered
    → PollsOne (later mid.session.config.now) mid read c' → PollsOne (says c.session.config.now) c read c'
polls_after says later w c mid c' Nothing e h d k = (reads_after says later w c mid c' e h k.0, k.1 ∙ d, k.2)
polls_after says later w c mid c' Packet e h d k = (reads_after says later w c mid c' e h k.0, k.1 ∙ d)
polls_after says later w c mid c' Payload e h d k = lends_behind (says c.session.config.now) c mid c' c'.reader.handed h
    d (lends_weaker (later c.session.config.now) (says c.session.config.now) (w c.session.config.now) mid c'
    c'.reader.handed (subst (λ (b : Bor Config). Lends (later b.now) mid c'.reader.handed c') e k))

pub some_is : {A : Type 0} (o : Option A) (x : A) (P : A → Type 0) → IfSome o P → o ≡ Some x → P x
some_is {A} o x P h e = subst (λ (y : Option A). IfSome y P) e h
