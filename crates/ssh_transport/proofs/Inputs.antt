-- A piece that is taken, as contracts see it.
use Rattle.std.proofs.Common.{◌≡◌, ℕ, ◌+◌, ◌<◌, ◌≤◌, ◌||◌, Bool, true, false, if◌then◌else◌, nat_lt, List, [], ◌∷◌, ◌++◌, length, slice_index, take, drop, None, Some, Result, Ok, Err, IfOk, OnOk, refl, sym, ap, ◌∙◌, subst, arith, append_assoc, append-nil, ◌⊎◌, inl, inr}
use Rattle.std.proofs.lemmas.Bool.Decides.{nat_tests}
use Rattle.std.specs.Borrow.{Bor}
use Rattle.std.specs.Str.{bytes_eq}
use Rattle.ssh_wire.specs.Lines as lines
use Rattle.ssh_wire.specs.Lines.{IdFound, id_of, id_text}
use Rattle.ssh_wire.specs.Reading.{IdReading, Waiting, Heard, Failed, IsShort, still_allowed}
use Rattle.ssh_wire.specs.declared.error.Error.{Error}
use Rattle.ssh_wire.specs.declared.side.Side.{Side}
use Rattle.ssh_mac.proofs.Lemmas.{tags_are_short}
use Rattle.ssh_packet.specs.Front as fronts
use Rattle.ssh_packet.specs.Front.{Fault, Front, Refused, Unfinished, front_by_length, front_if_tagged, front_if_whole, front_of, front_parts_by, is_bad_length, length_in, tag_for, tag_fault, text_in}
use Rattle.ssh_packet.specs.Sealing.{Block, Clear, Gcm, Item, Sealing, head_length, longest_packet, probe_length, tag_size}
use Rattle.ssh_kex.specs.Setting.{Says}
use Rattle.ssh_kex.specs.declared.config.Config.{Config}
use Rattle.ssh_rules.specs.Log.{delivered_in, handled, read_bytes, sent_bytes}
use Rattle.ssh_rules.specs.Machine.{Event, Spot, Steps}
use Rattle.ssh_rules.specs.Polling.{LendsPayload, Polls}
use Rattle.ssh_rules.specs.Standing.{HearsFrom, HearsNone, IsInput, ReadsLineFrom, Standing, TakesInput, WaitsInPart, lets_pass, unfinished_by, nothing_said}
use Rattle.ssh_rules.proofs.Lemmas.{delivered_more, handled_more, kept_line, read_join, sent_join, steps_join, takes_kept}
use Rattle.ssh_transport.specs.Handling.{IsHeard}
use Rattle.ssh_transport.specs.Kept.{IsLive}
use Rattle.ssh_transport.specs.States.{WaitsBehind, bare_of, emptied, heard_of, reading_spot, standing_of, state_at}
use Rattle.ssh_transport.specs.Taking.{Goes, Hears, Lends, LendsBehind, PollsOne, Reads, Takes, TakesPayload, lent_by, read_by}
use Rattle.ssh_transport.specs.declared.connection.Connection.{Connection}
use Rattle.ssh_transport.proofs.Answering.{spot_of}
use Rattle.ssh_transport.proofs.Heard.{part_nothing}
use Rattle.ssh_transport.proofs.Hearing.{left_unheard}
use Rattle.ssh_transport.proofs.Kept.{standing_bare}
use Rattle.ssh_transport.proofs.Saying.{unread_steps}
use Rattle.ssh_transport.proofs.Taking.{goes_of, input_more, items_of, nothing_more, reads_none, silent_more}

-- ---- what waits is short

tag_short : (sealing : Sealing) → tag_size sealing ≤ 64
tag_short Clear = omega arith
tag_short (Block running mac) = tags_are_short mac
tag_short (Gcm key nonce) = omega arith

probe_short : (sealing : Sealing) → probe_length sealing ≤ 16
probe_short Clear = omega arith
probe_short (Block running mac) = omega arith
probe_short (Gcm key nonce) = omega arith

below : (a b : ℕ) → nat_lt a b ≡ true → a < b
below a b h = grind (arith, nat_tests)

not_below : (a b : ℕ) → nat_lt a b ≡ false → b ≤ a
not_below a b h = grind (arith, nat_tests)

if_not : (t : Bool) (a b : Front) → (a ≡ Unfinished → ⊥) → (b ≡ Unfinished → ⊥) → (if t then a else b) ≡ Unfinished → ⊥
if_not true a b m n h = m h
if_not false a b m n h = n h

refused_not : (f : Fault) → Refused f ≡ Unfinished → ⊥
refused_not f h = cc

parts_not : (padding n : ℕ) (behind rest : List ℕ) → front_parts_by padding n behind rest ≡ Unfinished → ⊥
parts_not padding n behind rest h = if_not (nat_lt n padding) _ _ (λ e. refused_not fronts.IndexOutOfBounds e)
    (λ e. if_not (nat_lt n (padding + 2)) _ _ (λ f. refused_not (fronts.PacketSize n) f) (λ f. whole_not _ _ f) e) h
  where
    whole_not : (i : Item) (r : List ℕ) → fronts.Whole i r ≡ Unfinished → ⊥
    whole_not i r e = cc

tagged_not : (sealing : Sealing) (number n : ℕ) (packet behind : List ℕ)
    → front_if_tagged sealing number n packet behind ≡ Unfinished → ⊥
tagged_not sealing number n packet behind h = if_not (bytes_eq (tag_for sealing number packet)
    (take (tag_size sealing) behind)) _ _ (λ e. parts_not (slice_index (text_in sealing packet) 4) n
    (drop head_length (text_in sealing packet)) (drop (tag_size sealing) behind) e)
    (λ e. refused_not (tag_fault sealing) e) h

unfinished_below : (t : Bool) (len limit : ℕ) (y : Front) → nat_lt len limit ≡ t → (y ≡ Unfinished → ⊥)
    → (if t then Unfinished else y) ≡ Unfinished → len < limit
unfinished_below true len limit y e n h = below len limit e
unfinished_below false len limit y e n h = absurd (n h)

or_first : (a b : Bool) → (a || b) ≡ false → a ≡ false
or_first true b e = cc
or_first false b e = refl

by_length_short : (t : Bool) (sealing : Sealing) (number n : ℕ) (bytes : List ℕ) → is_bad_length sealing n ≡ t
    → (if t then Refused (fronts.PacketSize n) else front_if_whole sealing number n bytes) ≡ Unfinished
    → length bytes < 262245
by_length_short true sealing number n bytes e h = absurd (refused_not (fronts.PacketSize n) h)
by_length_short false sealing number n bytes e h =
    let most : n ≤ 262177 = not_below longest_packet n (or_first (nat_lt longest_packet n) _ e) in
    let tag = tag_short sealing in
    let few = unfinished_below (nat_lt (length bytes) (4 + n + tag_size sealing)) (length bytes)
    (4 + n + tag_size sealing) _ refl (λ f. tagged_not sealing number n _ _ f) h in
    omega (arith, most, tag, few)

front_short : (t : Bool) (sealing : Sealing) (number : ℕ) (bytes : List ℕ)
    → nat_lt (length bytes) (probe_length sealing) ≡ t → (if t then Unfinished else front_by_length sealing number
    (length_in sealing bytes) bytes) ≡ Unfinished → length bytes < 262245
front_short true sealing number bytes e h = let p = probe_short sealing in let b = below (length bytes)
    (probe_length sealing) e in omega (arith, p, b)
front_short false sealing number bytes e h = by_length_short (is_bad_length sealing (length_in sealing bytes)) sealing
    number (length_in sealing bytes) bytes refl h

pub part_short : (at : Spot) (bytes : List ℕ) → WaitsInPart at bytes → length bytes < 262245
unfolding front_of
part_short at bytes h = front_short (nat_lt (length bytes) (probe_length at.sealing)) at.sealing at.number bytes refl h

left_short : (line : IdReading) (at : Spot) (waiting : List ℕ) → IsShort line → WaitsInPart at waiting
    → length (unfinished_by line waiting) < 262245
left_short (Waiting bytes others) at waiting s h = let l = s.0 in omega (arith, l)
left_short (Heard text) at waiting s h = part_short at waiting h
left_short Failed at waiting s h = omega arith

-- ---- the line, where more was read behind it

hears_more : (side : Side) (found : IdFound) (bytes : List ℕ) (others : ℕ) (a b : List Event) (new : IdReading)
    (behind : List ℕ) → HearsNone b → IsHeard new ⊎ (b ≡ []) → HearsFrom side found bytes others a new behind
    → HearsFrom side found bytes others (a ++ b) new behind
hears_more side lines.NotYet bytes others a b new behind n (inl i) h = absurd
    (let e : None ≡ Some i.0 = sym (left_unheard (still_allowed (lets_pass side) others) bytes others)
    ∙ ap heard_of (sym h.1 ∙ i.1) in cc)
hears_more side lines.NotYet bytes others a b new behind n (inr e) h =
    (ap (λ (x : List Event). x ++ b) h.0 ∙ e, h.1, h.2)
hears_more side (lines.Id text end) bytes others a b new behind n i h =
    (((h.0).0 ++ b, ap (λ (x : List Event). x ++ b) (h.0).1, silent_more (h.0).0 b (h.0).2 n), h.1, h.2)
hears_more side lines.Version bytes others a b new behind n i h = absurd h

pub line_more : (side : Side) (line : IdReading) (waiting piece : List ℕ) (a b : List Event) (new : IdReading)
    (behind : List ℕ) → HearsNone b → IsHeard new ⊎ (b ≡ []) → ReadsLineFrom side line waiting piece a new behind
    → ReadsLineFrom side line waiting piece (a ++ b) new behind
line_more side (Waiting bytes others) waiting piece a b new behind n i h = hears_more side
    (id_of (still_allowed (lets_pass side) others) (bytes ++ piece)) (bytes ++ piece) others a b new behind n i h
line_more side (Heard text) waiting piece a b new behind n i h = (silent_more a b h.0 n, h.1, h.2)
line_more side Failed waiting piece a b new behind n i h = absurd h

-- ---- the whole piece

-- what was heard of a piece, and what was done behind it
record Went (says : Says) (c : Connection) (piece : List ℕ) (events : List Event) (c' : Connection) : Type 0 where
  pub side : c'.session.side ≡ c.session.side
  pub config : c'.session.config ≡ c.session.config
  pub steps : Steps says c.session.side c.session.config.now (id_text c.session.config.now.id)
      (state_at c.session (reading_spot c) c.reader.count) events
      (state_at c'.session (reading_spot c') c'.reader.count)
  pub output : c'.session.writer.output ≡ c.session.writer.output ++ sent_bytes c.session.side
      (spot_of c.session.writer) events
  pub input : IsInput events
  pub behind : List ℕ
  pub line : ReadsLineFrom c.session.side c.session.line c.reader.waiting piece events c'.session.line behind
  pub read : behind ≡ read_bytes c.session.side (reading_spot c) events ++ c'.reader.waiting

went : (says : Says) (c mid c' : Connection) (piece : List ℕ) (es : List Event) (h : Hears c piece mid)
    → Goes says mid es c' → IsHeard mid.session.line ⊎ (es ≡ []) → Went says c piece (h.events ++ es) c'
went says c mid c' piece es h k heard = record {
  side = k.side ∙ h.side;
  config = k.config ∙ h.config;
  steps = steps_join says c.session.side c.session.config.now (id_text c.session.config.now.id) h.events es
      (state_at c.session (reading_spot c) c.reader.count) (state_at mid.session (reading_spot mid) mid.reader.count)
      (state_at c'.session (reading_spot c') c'.reader.count) first moved;
  output = k.output ∙ ap (λ (b : List ℕ). b ++ sent_bytes mid.session.side (spot_of mid.session.writer) es) h.output
      ∙ append_assoc c.session.writer.output (sent_bytes c.session.side (spot_of c.session.writer) h.events)
      (sent_bytes mid.session.side (spot_of mid.session.writer) es)
      ∙ ap (λ (x : Side). c.session.writer.output ++ (sent_bytes c.session.side (spot_of c.session.writer) h.events ++
      sent_bytes x (spot_of mid.session.writer) es)) h.side
      ∙ ap (λ (b : List ℕ). c.session.writer.output ++ b) (sym
      (sent_join says c.session.side c.session.config.now (id_text c.session.config.now.id) h.events es
      (state_at c.session (reading_spot c) c.reader.count)
      (state_at mid.session (reading_spot mid) mid.reader.count) first));
  input = input_more h.events es h.input k.input;
  behind = mid.reader.waiting;
  line = subst (λ (x : IdReading). ReadsLineFrom c.session.side c.session.line c.reader.waiting piece (h.events ++ es) x
      mid.reader.waiting) (sym k.line) (line_more c.session.side c.session.line c.reader.waiting piece h.events es
      mid.session.line mid.reader.waiting k.silent heard h.line);
  read = k.bytes ∙ ap (λ (x : Side). read_bytes x (reading_spot mid) es ++ c'.reader.waiting) h.side
      ∙ ap (λ (b : List ℕ). b ++ c'.reader.waiting) (sym (read_join says c.session.side c.session.config.now
      (id_text c.session.config.now.id) h.events es (state_at c.session (reading_spot c) c.reader.count)
      (state_at mid.session (reading_spot mid) mid.reader.count) first
      ∙ ap (λ (b : List ℕ). b ++ read_bytes c.session.side (reading_spot mid) es) (h.bytes (reading_spot c))));
} where
  first : Steps says c.session.side c.session.config.now (id_text c.session.config.now.id)
      (state_at c.session (reading_spot c) c.reader.count) h.events
      (state_at mid.session (reading_spot mid) mid.reader.count)
  first = unread_steps nothing_said says c.session.side c.session.config.now (id_text c.session.config.now.id) h.events
      (state_at c.session (reading_spot c) c.reader.count) (state_at mid.session (reading_spot mid) mid.reader.count)
      h.unread h.steps

  moved : Steps says c.session.side c.session.config.now (id_text c.session.config.now.id)
      (state_at mid.session (reading_spot mid) mid.reader.count) es
      (state_at c'.session (reading_spot c') c'.reader.count)
  moved = subst (λ (x : Side). Steps says x c.session.config.now (id_text c.session.config.now.id)
      (state_at mid.session (reading_spot mid) mid.reader.count) es
      (state_at c'.session (reading_spot c') c'.reader.count)) h.side
      (subst (λ (b : Bor Config). Steps says mid.session.side b.now (id_text b.now.id)
      (state_at mid.session (reading_spot mid) mid.reader.count) es
      (state_at c'.session (reading_spot c') c'.reader.count)) h.config k.steps)

takes_input : (says : Says) (c c' : Connection) (piece : List ℕ) → c'.failed ≡ false → IsLive c' → Takes says c piece c'
    → TakesInput says (bare_of c) piece (bare_of c')
takes_input says c c' piece f live t = record {
  events = t.heard.events ++ t.reads.events;
  acts = record {
    side = w.side;
    config = ap (λ (x : Bor Config). x.now) w.config;
    steps = w.steps;
    output = w.output;
    delivered = t.reads.delivered ∙ ap (λ (b : List (List ℕ)). b ++ delivered_in t.reads.events) t.heard.delivered
        ∙ append_assoc c.delivered.items (delivered_in t.heard.events) (delivered_in t.reads.events)
        ∙ ap (λ (b : List (List ℕ)). c.delivered.items ++ b) (sym (delivered_more t.heard.events t.reads.events));
    quiet = live.settled (reading_spot c');
    live = f;
  };
  input = w.input;
  behind = w.behind;
  line = w.line;
  read = w.read;
  part = t.part;
  small = left_short c'.session.line (reading_spot c') c'.reader.waiting live.short t.part;
} where
  w : Went says c piece (t.heard.events ++ t.reads.events) c'
  w = went says c t.mid c' piece t.reads.events t.heard (goes_of says t.mid c' t.reads) t.line

-- a piece that ends before the line does
pub takes_none : (says : Says) (c c' : Connection) (piece : List ℕ) → Hears c piece c'
    → WaitsInPart (reading_spot c') c'.reader.waiting → Takes says c piece c'
unfolding reads_none
takes_none says c c' piece h p = record { mid = c'; heard = h; reads = reads_none says c'; line = inr refl; part = p }

-- a piece behind whose line packets are read
pub takes_read : (says : Config → Says) (c mid c' : Connection) (piece : List ℕ) (answer : Result (Unit {0}) Error)
    → Hears c piece mid → IsHeard mid.session.line → OnOk answer (Reads (says mid.session.config.now) mid c')
    → OnOk answer (WaitsInPart (reading_spot c') c'.reader.waiting)
    → OnOk answer (Takes (says c.session.config.now) c piece c')
takes_read says c mid c' piece (Ok u) h i k p = record {
  mid = mid;
  heard = h;
  reads = subst (λ (b : Bor Config). Reads (says b.now) mid c') h.config k;
  line = inl i;
  part
      = p;
}
takes_read says c mid c' piece (Err e) h i k p = tt

-- ---- as calls answer

takes_fed : (says : Says) (c c' : Connection) (piece : List ℕ) → c'.failed ≡ false → IsLive c'
    → WaitsBehind c'.session.line c'.reader.waiting → Takes says (emptied c) (c.reader.waiting ++ piece) c'
    → TakesInput says (standing_of c) piece (standing_of c')
takes_fed says c c' piece f live w t = subst (λ (x : Standing). TakesInput says (standing_of c) piece x)
    (sym (standing_bare c' w)) (takes_kept says (bare_of (emptied c)) (bare_of c') c.reader.waiting piece
    (takes_input says (emptied c) c' (c.reader.waiting ++ piece) f live t))

pub fed_answer : (says : Says) (c c' mid : Connection) (piece : List ℕ) (answer done : Result (Unit {0}) Error)
    → c.failed ≡ false → done ≡ answer → OnOk answer (c' ≡ mid) → mid.failed ≡ c.failed → OnOk answer (IsLive mid)
    → OnOk answer (WaitsBehind mid.session.line mid.reader.waiting)
    → OnOk answer (Takes says (emptied c) (c.reader.waiting ++ piece) mid)
    → OnOk done (TakesInput says (standing_of c) piece (standing_of c'))
fed_answer says c c' mid piece (Ok u) done f d e g live w t = subst
    (λ (x : Result (Unit {0}) Error). OnOk x (TakesInput says (standing_of c) piece (standing_of c'))) (sym d)
    (subst (λ (x : Connection). TakesInput says (standing_of c) piece (standing_of x)) (sym e)
    (takes_fed says c mid piece (g ∙ f) live w t))
fed_answer says c c' mid piece (Err x) done f d e g live w t = subst
    (λ (y : Result (Unit {0}) Error). OnOk y (TakesInput says (standing_of c) piece (standing_of c'))) (sym d) tt

-- a payload that is lent
lends_input : (says : Says) (c c' : Connection) (payload : List ℕ) → c'.failed ≡ false → IsLive c'
    → LendsBehind says c payload c' → LendsPayload says (standing_of c) payload (bare_of c')
lends_input says c c' payload f live t = record {
  events = h.events ++ k.events;
  acts = record {
    side = w.side;
    config = ap (λ (x : Bor Config). x.now) w.config;
    steps = w.steps;
    output = w.output;
    delivered = ap (λ (b : List (List ℕ)). b ++ payload ∷ []) same
        ∙ ap (λ (b : List (List ℕ)). c.delivered.items ++ b) (sym lent);
    quiet = live.settled (reading_spot c');
    live = f;
  };
  input = w.input;
  unqueued = same;
  lent = lent;
  before = handled h.events ++ k.before;
  item = k.item;
  last = handled_more h.events k.events ∙ ap (λ (b : List Item). handled h.events ++ b) k.last
      ∙ sym (append_assoc (handled h.events) k.before (k.item ∷ []));
  payload_is = k.payload_is;
  behind = w.behind;
  line = kept_line c.session.side c.session.line [] c.reader.waiting [] (h.events ++ k.events) c'.session.line w.behind
      (subst (λ (b : List ℕ). ReadsLineFrom c.session.side c.session.line [] b (h.events ++ k.events) c'.session.line
      w.behind) (sym (append-nil c.reader.waiting)) w.line);
  read = w.read;
} where
  h : Hears (emptied c) c.reader.waiting t.mid
  h = t.heard

  k : Lends says t.mid payload c'
  k = t.lends

  w : Went says (emptied c) c.reader.waiting (h.events ++ k.events) c'
  w = went says (emptied c) t.mid c' c.reader.waiting k.events h k.goes (inl t.line)

  same : c'.delivered.items ≡ c.delivered.items
  same = items_of c' t.mid k.unqueued ∙ items_of t.mid c t.unqueued

  lent : delivered_in (h.events ++ k.events) ≡ payload ∷ []
  lent = delivered_more h.events k.events ∙ ap (λ (b : List (List ℕ)). b ++ delivered_in k.events)
      (nothing_more c.delivered.items (delivered_in h.events) (sym (items_of t.mid c t.unqueued) ∙ h.delivered))
      ∙ k.lent

-- by whether one is lent
polls_input : (says : Says) (c c' : Connection) (lends : Bool) → c'.failed ≡ false → IsLive c'
    → WaitsBehind c'.session.line c'.reader.waiting → TakesPayload says c lends c'
    → Polls says (standing_of c) (lent_by lends c'.reader.handed) (standing_of c')
polls_input says c c' true f live w t = subst (λ (x : Standing). LendsPayload says (standing_of c) c'.reader.handed x)
    (sym (standing_bare c' w)) (lends_input says c c' c'.reader.handed f live t)
polls_input says c c' false f live w t = (
  takes_fed says c c' [] f live w
      (subst (λ (b : List ℕ). Takes says (emptied c) b c') (sym (append-nil c.reader.waiting)) t.0),
  items_of c' c t.1,
)

pub polled_answer : (says : Says) (c c' mid : Connection) (answer done : Result Bool Error) → c.failed ≡ false
    → done ≡ answer → OnOk answer (c' ≡ mid) → mid.failed ≡ c.failed → OnOk answer (IsLive mid)
    → OnOk answer (WaitsBehind mid.session.line mid.reader.waiting)
    → IfOk answer (λ lends. TakesPayload says c lends mid)
    → IfOk done (λ lends. Polls says (standing_of c) (lent_by lends c'.reader.handed) (standing_of c'))
polled_answer says c c' mid (Ok lends) done f d e g live w t = subst
    (λ (x : Result Bool Error). IfOk x (λ l. Polls says (standing_of c) (lent_by l c'.reader.handed) (standing_of c')))
    (sym d)
    (subst (λ (x : Connection). Polls says (standing_of c) (lent_by lends x.reader.handed) (standing_of x)) (sym e)
    (polls_input says c mid lends (g ∙ f) live w t))
polled_answer says c c' mid (Err x) done f d e g live w t = subst
    (λ (y : Result Bool Error). IfOk y (λ l. Polls says (standing_of c) (lent_by l c'.reader.handed) (standing_of c')))
    (sym d) tt

-- behind the line: nothing is lent where nothing more is whole
takes_payload : (says : Config → Says) (c mid c' : Connection) (lends : Bool) → Hears (emptied c) c.reader.waiting mid
    → IsHeard mid.session.line → mid.delivered ≡ c.delivered
    → PollsOne (says mid.session.config.now) mid (read_by lends) c'
    → TakesPayload (says c.session.config.now) c lends c'
takes_payload says c mid c' true h i d k = record {
  mid = mid;
  heard = h;
  line = i;
  unqueued = d;
  lends = subst
      (λ (b : Bor Config). Lends (says b.now) mid c'.reader.handed c') h.config k;
}
takes_payload says c mid c' false h i d k = (
  record {
    mid = mid;
    heard = h;
    reads = subst
        (λ (b : Bor Config). Reads (says b.now) mid c') h.config k.0;
    line = inl i;
    part = k.2;
  },
  k.1 ∙ d,
)

pub takes_polled : (says : Config → Says) (c mid c' : Connection) (answer : Result Bool Error)
    → Hears (emptied c) c.reader.waiting mid → IsHeard mid.session.line → mid.delivered ≡ c.delivered
    → IfOk answer (λ lends. PollsOne (says mid.session.config.now) mid (read_by lends) c')
    → IfOk answer (λ lends. TakesPayload (says c.session.config.now) c lends c')
takes_polled says c mid c' (Ok lends) h i d k = takes_payload says c mid c' lends h i d k
takes_polled says c mid c' (Err e) h i d k = tt

pub takes_nothing : (says : Says) (c c' : Connection) → Hears (emptied c) c.reader.waiting c' → c'.reader.waiting ≡ []
    → c'.delivered ≡ c.delivered → TakesPayload says c false c'
takes_nothing says c c' h n d = (
  takes_none says (emptied c) c' c.reader.waiting h
      (part_nothing (reading_spot c') c'.reader.waiting n),
  d,
)
