-- What a piece of the peer's version line does to a connection.
use Rattle.std.proofs.Common.{◌≡◌, ℕ, zero, suc, ◌+◌, ◌-◌, ◌*◌, ◌<◌, ◌≤◌, Bool, true, false, List, [], ◌∷◌, ◌++◌, length, take, drop, Option, Some, None, IsSome, Result, Ok, Err, refl, sym, ap, ◌∙◌, subst, arith, append_assoc, append-nil, length-append}
use Rattle.std.proofs.Math.Seq.{drop-append-add, take-length}
use Rattle.std.proofs.lemmas.List.{drop-append-le, drop_all, length-take-le, take-append-drop}
use Rattle.ssh_wire.specs.Lines as lines
use Rattle.ssh_wire.specs.Lines.{IdFound, Unfinished, id_of, id_text, line_end, longest_line}
use Rattle.ssh_wire.specs.Reading.{IdReading, Waiting, Heard, Failed, Decides, Feeds, IsShort, by_end, reading_left, still_allowed, waiting_length}
use Rattle.ssh_wire.specs.declared.error.Error.{Error}
use Rattle.ssh_wire.specs.declared.error.Error.TheVariants as errors
use Rattle.ssh_wire.specs.declared.read_id.IdProgress.{IdProgress}
use Rattle.ssh_wire.specs.declared.read_id.IdProgress.TheVariants as progress
use Rattle.ssh_wire.specs.declared.side.Side.{Side}
use Rattle.ssh_wire.proofs.Lemmas.{beyond, decided_stays, fed_more, fits_room, id_of_line, line_unfinished}
use Rattle.ssh_packet.specs.Front as fronts
use Rattle.ssh_packet.specs.Front.{front_of}
use Rattle.ssh_packet.specs.Keys.{opening_of}
use Rattle.ssh_packet.specs.Reading.{Reader}
use Rattle.ssh_packet.specs.Sealing.{Block, Clear, Gcm, Sealing, sealed_packet}
use Rattle.ssh_packet.specs.Writing.{Writer}
use Rattle.ssh_rules.specs.Machine.{Event, ExchangeBegun, IdHeard, Inside, Outside, Silent, Spot, Start, Steps, Where}
use Rattle.ssh_rules.specs.Standing.{HearsFrom, ReadsLineFrom, WaitsInPart, lets_pass, nothing_said}
use Rattle.ssh_transport.specs.Handling.{IsHeard}
use Rattle.ssh_transport.specs.Hearing.{BeginsWhere, EndsBy, HearsLine}
use Rattle.ssh_transport.specs.Kept.{IsLive}
use Rattle.ssh_transport.specs.Saying.{Begins}
use Rattle.ssh_transport.specs.States.{WaitsBehind, emptied, heard_of, is_silent, reading_spot, stands_of, state_at, with_more}
use Rattle.ssh_transport.specs.Taking.{Hears}
use Rattle.ssh_transport.specs.declared.connection.Connection.{Connection}
use Rattle.ssh_transport.specs.declared.session.Session.{Session}
use Rattle.ssh_transport.proofs.Hearing.{found_within, left_unheard, unheard_yet}
use Rattle.ssh_transport.proofs.Kept.{emptied_same, live_emptied, waits_nothing}
use Rattle.ssh_transport.proofs.Saying.{begins_exchange}

-- ---- before the end of the line

decided_none : (side : Side) (found : IdFound) (bytes : List ℕ) (had others : ℕ) (new : IdReading)
    → Decides found had (reading_left (still_allowed (lets_pass side) others) bytes others) (Ok progress.NotYet) new
    → HearsFrom side found bytes others [] new []
decided_none side lines.NotYet bytes had others new d = (refl, d.1, refl)
decided_none side (lines.Id text end) bytes had others new d = absurd
    (let e : Ok progress.NotYet ≡ Ok (progress.Id (end - had)) = d.0 in cc)
decided_none side lines.Version bytes had others new d = absurd (let e = d.0 in cc)

line_none : (side : Side) (line : IdReading) (waiting piece : List ℕ) (new : IdReading) → WaitsBehind line waiting
    → Feeds (lets_pass side) line piece (Ok progress.NotYet) new → ReadsLineFrom side line waiting piece [] new waiting
line_none side (Waiting bytes others) waiting piece new w h = subst
    (λ (b : List ℕ). HearsFrom side (id_of (still_allowed (lets_pass side) others) (bytes ++ piece)) (bytes ++ piece)
    others [] new b) (sym w) (decided_none side (id_of (still_allowed (lets_pass side) others) (bytes ++ piece))
    (bytes ++ piece) (length bytes) others new h)
line_none side (Heard text) waiting piece new w h = absurd (let e = h.0 in cc)
line_none side Failed waiting piece new w h = absurd (let e = h.0 in cc)

none_unheard : (allow : Bool) (line : IdReading) (piece : List ℕ) (new : IdReading)
    → Feeds allow line piece (Ok progress.NotYet) new → heard_of line ≡ None
none_unheard allow (Waiting bytes others) piece new h = refl
none_unheard allow (Heard text) piece new h = absurd (let e = h.0 in cc)
none_unheard allow Failed piece new h = absurd (let e = h.0 in cc)

none_waits : (allow : Bool) (line : IdReading) (piece waiting : List ℕ) (new : IdReading)
    → Feeds allow line piece (Ok progress.NotYet) new → WaitsBehind line waiting → waiting ≡ []
none_waits allow (Waiting bytes others) piece waiting new h w = w
none_waits allow (Heard text) piece waiting new h w = absurd (let e = h.0 in cc)
none_waits allow Failed piece waiting new h w = w

-- the reader's place stays
pub record Pushes (r : Reader) (bytes : List ℕ) (r' : Reader) : Type 0 where
  pub becomes : r' ≡ record r { waiting = r.waiting ++ bytes; handed = r'.handed; spent = r'.spent }

abbrev pub steps_to : (c : Connection) (events : List Event) (s' : Session) (r : Reader) → Type 0
steps_to c events s' r = Steps nothing_said c.session.side c.session.config.now (id_text c.session.config.now.id)
    (state_at c.session (reading_spot c) c.reader.count) events
    (state_at s' (record { sealing = opening_of c.opening; number = r.number }) r.count)

pushed : (c : Connection) (events : List Event) (s' : Session) (bytes : List ℕ) (r' : Reader) → Pushes c.reader bytes r'
    → steps_to c events s' c.reader → steps_to c events s' r'
pushed c events s' bytes r' p h = subst (λ (r : Reader). steps_to c events s' r) (sym p.becomes) h

hears_none : (c : Connection) (s' : Session) (piece : List ℕ) (r' : Reader)
    → WaitsBehind c.session.line c.reader.waiting → HearsLine c.session piece None s' → Pushes c.reader [] r'
    → Hears c piece (record c { session = s'; reader = r' })
hears_none c s' piece r' w h p = record {
  events = [];
  side = ap (λ (x : Session). x.side) h.2;
  config = ap (λ (x : Session). x.config) h.2;
  steps = pushed c [] s' [] r' p (ap (λ (x : Session). state_at x (reading_spot c) c.reader.count) h.2
      ∙ ap (λ (x : Option (List ℕ)). record (state_at c.session (reading_spot c) c.reader.count) { heard = x })
      (unheard_yet (lets_pass c.session.side) c.session.line piece s'.line h.0
      ∙ sym (none_unheard (lets_pass c.session.side) c.session.line piece s'.line h.0)));
  output = ap (λ (x : Session). x.writer.output) h.2 ∙ sym (append-nil c.session.writer.output);
  unread = refl;
  bytes = λ at. refl;
  delivered = sym (append-nil c.delivered.items);
  input = (refl, refl);
  line = subst (λ (x : List ℕ). ReadsLineFrom c.session.side c.session.line c.reader.waiting piece [] s'.line x)
      (sym (ap (λ (x : Reader). x.waiting) p.becomes ∙ append-nil c.reader.waiting))
      (line_none c.session.side c.session.line c.reader.waiting piece s'.line w h.0);
}

front_nothing : (sealing : Sealing) (number : ℕ) → front_of sealing number [] ≡ fronts.Unfinished
unfolding front_of
front_nothing Clear number = refl
front_nothing (Block running mac) number = refl
front_nothing (Gcm key nonce) number = refl

pub part_nothing : (at : Spot) (waiting : List ℕ) → waiting ≡ [] → WaitsInPart at waiting
part_nothing at waiting e = subst (λ (x : List ℕ). front_of at.sealing at.number x ≡ fronts.Unfinished) (sym e)
    (front_nothing at.sealing at.number)

-- ---- at its end

unended : (left : ℕ) (bytes : List ℕ) → length bytes < longest_line → line_end bytes ≡ None
    → id_of left bytes ≡ lines.NotYet
unended left bytes s n = id_of_line left bytes Unfinished (line_unfinished bytes s n)

drop_behind : (a b : List ℕ) (n : ℕ) → length a ≤ n → drop n (a ++ b) ≡ drop (n - length a) b
drop_behind a b n h = let e : n ≡ length a + (n - length a) = omega (arith, h) in ap (λ (k : ℕ). drop k (a ++ b)) e
    ∙ drop-append-add a b (n - length a)

pub silent_is : (w : Where) → is_silent w ≡ true → w ≡ Silent
silent_is Silent e = refl
silent_is Outside e = cc
silent_is (Inside stage) e = cc

silent_by : (w : Where) (P : Type 0) → ((w ≡ Silent → ⊥) → P) → (P → ⊥) → is_silent w ≡ true
silent_by Silent P h n = refl
silent_by Outside P h n = absurd (n (h (λ e. let f : Outside ≡ Silent = e in cc)))
silent_by (Inside stage) P h n = absurd (n (h (λ e. let f : Inside stage ≡ Silent = e in cc)))

begun_by : (w : Where) → (w ≡ Silent → ⊥) → is_silent w ≡ false
begun_by Silent n = absurd (n refl)
begun_by Outside n = refl
begun_by (Inside stage) n = refl

begins_so : (due : Bool) (s s' : Session) → due ≡ true → BeginsWhere due s s' → Begins s s'
begins_so true s s' e h = h
begins_so false s s' e h = absurd (let f : false ≡ true = e in cc)

begins_not : (due : Bool) (s s' : Session) → due ≡ false → BeginsWhere due s s' → s' ≡ s
begins_not true s s' e h = absurd (let f : true ≡ false = e in cc)
begins_not false s s' e h = h

-- the line that was found, of bytes of which so many had waited
record Found (found : IdFound) (had used : ℕ) (new : IdReading) : Type 0 where
  pub text : List ℕ
  pub end : ℕ
  pub found_is : found ≡ lines.Id text end
  pub used_is : used ≡ end - had
  pub new_is : new ≡ Heard text

decided_some : (found : IdFound) (had used : ℕ) (left new : IdReading)
    → Decides found had left (Ok (progress.Id used)) new → Found found had used new
decided_some lines.NotYet had used left new d = absurd (let e : Ok (progress.Id used) ≡ Ok progress.NotYet = d.0 in cc)
decided_some (lines.Id text end) had used left new d = record {
  text = text;
  end = end;
  found_is = refl;
  used_is = (let e : Ok (progress.Id used) ≡ Ok (progress.Id (end - had)) =
      d.0 in cc);
  new_is = d.1;
}
decided_some lines.Version had used left new d = absurd (let e = d.0 in cc)

waits_unheard : (line : IdReading) (bytes : List ℕ) (others : ℕ) → line ≡ Waiting bytes others → IsHeard line → ⊥
waits_unheard line bytes others e i = let f : Waiting bytes others ≡ Heard i.0 = sym e ∙ i.1 in cc

line_some : (side : Side) (line : IdReading) (waiting piece : List ℕ) (more : List Event) (new : IdReading)
    (behind bytes text : List ℕ) (others end : ℕ) → line ≡ Waiting bytes others
    → id_of (still_allowed (lets_pass side) others) (bytes ++ piece) ≡ lines.Id text end
    → Rattle.ssh_rules.specs.Standing.HearsNone more → new ≡ Heard text → behind ≡ drop end (bytes ++ piece)
    → ReadsLineFrom side line waiting piece (IdHeard text ∷ more) new behind
line_some side line waiting piece more new behind bytes text others end e f n h b =
    subst (λ (x : IdReading). ReadsLineFrom side x waiting piece (IdHeard text ∷ more) new behind) (sym e)
    (subst (λ (x : IdFound). HearsFrom side x (bytes ++ piece) others (IdHeard text ∷ more) new behind) (sym f)
    ((more, refl, n), h, b))

-- the first line is heard, and the first exchange begun
hears_first : (c : Connection) (s' : Session) (used : ℕ) (piece : List ℕ) (r' : Reader) (bytes : List ℕ) (others : ℕ)
    → IsLive c → WaitsBehind c.session.line c.reader.waiting → HearsLine c.session piece (Some used) s'
    → Pushes c.reader (drop used piece) r' → c.session.line ≡ Waiting bytes others
    → Hears c piece (record c { session = s'; reader = r' })
hears_first c s' used piece r' bytes others live w h p e = record {
  events = IdHeard f.text ∷ ExchangeBegun Start b.item ∷ [];
  side = ap (λ (x : Session). x.side) b.becomes;
  config = ap (λ (x : Session). x.config) b.becomes;
  steps = pushed c (IdHeard f.text ∷ ExchangeBegun Start b.item ∷ []) s' (drop used piece) r' p (
    state_at s1 (reading_spot c) c.reader.count,
    record {
      unheard = ap heard_of e;
      silent = silent;
      becomes = ap
          (λ (x : Option (List ℕ)). record (state_at c.session (reading_spot c) c.reader.count) { heard = x })
          (ap heard_of f.new_is);
    },
    (
      state_at s' (reading_spot c) c.reader.count,
      begins_exchange s1 s' c.reader.count (reading_spot c) Start b refl
          (silent, subst (λ (x : Option (List ℕ)). IsSome x) (sym (ap heard_of f.new_is)) refl),
      refl,
    ),
  );
  output = ap (λ (w : Writer). w.output) b.sends.written
      ∙ ap (λ (t : List ℕ). c.session.writer.output ++ t) (sym
      (append-nil (sealed_packet c.session.writer.sealing c.session.writer.number b.item)));
  unread = refl;
  bytes = λ at. refl;
  delivered = sym (append-nil c.delivered.items);
  input = (refl, refl);
  line = line_some c.session.side c.session.line c.reader.waiting piece (ExchangeBegun Start b.item ∷ []) s'.line
      r'.waiting bytes f.text others f.end e f.found_is tt f.new_is behind;
} where
  s1 : Session
  s1 = record c.session { line = s'.line }

  f : Found (id_of (still_allowed (lets_pass c.session.side) others) (bytes ++ piece)) (length bytes) used s'.line
  f = decided_some (id_of (still_allowed (lets_pass c.session.side) others) (bytes ++ piece)) (length bytes) used
      (reading_left (still_allowed (lets_pass c.session.side) others) (bytes ++ piece) others) s'.line
      (subst (λ (x : IdReading). Feeds (lets_pass c.session.side) x piece (Ok (progress.Id used)) s'.line) e h.0)

  due : is_silent (stands_of c.session.finished.items c.session.kex) ≡ true
  due = silent_by (stands_of c.session.finished.items c.session.kex) (IsHeard c.session.line) live.opened.heard
      (waits_unheard c.session.line bytes others e)

  silent : stands_of c.session.finished.items c.session.kex ≡ Silent
  silent = silent_is (stands_of c.session.finished.items c.session.kex) due

  b : Begins s1 s'
  b = begins_so (is_silent (stands_of c.session.finished.items c.session.kex)) s1 s' due h.2

  short : IsShort (Waiting bytes others)
  short = subst IsShort e live.short

  within : length bytes ≤ f.end
  within = beyond (still_allowed (lets_pass c.session.side) others) bytes piece f.text f.end
      (unended (still_allowed (lets_pass c.session.side) others) bytes short.0 short.1) f.found_is

  behind : r'.waiting ≡ drop f.end (bytes ++ piece)
  behind = ap (λ (r : Reader). r.waiting) p.becomes ∙ ap (λ (x : List ℕ). x ++ drop used piece)
      (subst (λ (x : IdReading). WaitsBehind x c.reader.waiting) e w)
      ∙ ap (λ (n : ℕ). drop n piece) f.used_is ∙ sym (drop_behind bytes piece f.end within)

-- a line that was heard before
hears_later : (c : Connection) (s' : Session) (used : ℕ) (piece : List ℕ) (r' : Reader) (text : List ℕ) → IsLive c
    → HearsLine c.session piece (Some used) s' → Pushes c.reader (drop used piece) r' → c.session.line ≡ Heard text
    → Hears c piece (record c { session = s'; reader = r' })
hears_later c s' used piece r' text live h p e = record {
  events = [];
  side = ap (λ (x : Session). x.side) same;
  config = ap (λ (x : Session). x.config) same;
  steps = pushed c [] s' (drop used piece) r' p (ap (λ (x : Session). state_at x (reading_spot c) c.reader.count) same
      ∙ ap (λ (x : IdReading). record (state_at c.session (reading_spot c) c.reader.count) { heard = heard_of x })
      (fed.1 ∙ sym e));
  output = ap (λ (x : Session). x.writer.output) same ∙ sym (append-nil c.session.writer.output);
  unread = refl;
  bytes = λ at. refl;
  delivered = sym (append-nil c.delivered.items);
  input = (refl, refl);
  line = subst (λ (x : IdReading). ReadsLineFrom c.session.side x c.reader.waiting piece [] s'.line r'.waiting) (sym e)
      (tt, fed.1, ap (λ (r : Reader). r.waiting) p.becomes ∙ ap (λ (n : ℕ). c.reader.waiting ++ drop n piece) none);
} where
  fed : Feeds (lets_pass c.session.side) (Heard text) piece (Ok (progress.Id used)) s'.line
  fed = subst (λ (x : IdReading). Feeds (lets_pass c.session.side) x piece (Ok (progress.Id used)) s'.line) e h.0

  none : used ≡ 0
  none = let f : Ok (progress.Id used) ≡ Ok (progress.Id 0) = fed.0 in cc

  begun : is_silent (stands_of c.session.finished.items c.session.kex) ≡ false
  begun = begun_by (stands_of c.session.finished.items c.session.kex)
      (λ k. let n : None ≡ Some text = sym ((live.settled (reading_spot c)).silent k) ∙ ap heard_of e in cc)

  same : s' ≡ record c.session { line = s'.line }
  same = begins_not (is_silent (stands_of c.session.finished.items c.session.kex)) (record c.session { line = s'.line })
      s' begun h.2

hears_by : (c : Connection) (s' : Session) (used : ℕ) (piece : List ℕ) (r' : Reader) (line : IdReading) → IsLive c
    → WaitsBehind c.session.line c.reader.waiting → HearsLine c.session piece (Some used) s'
    → Pushes c.reader (drop used piece) r' → c.session.line ≡ line
    → Hears c piece (record c { session = s'; reader = r' })
hears_by c s' used piece r' (Waiting bytes others) live w h p e = hears_first c s' used piece r' bytes others live w h p
    e
hears_by c s' used piece r' (Heard text) live w h p e = hears_later c s' used piece r' text live h p e
hears_by c s' used piece r' Failed live w h p e = absurd
    (let f : Feeds (lets_pass c.session.side) Failed piece (Ok (progress.Id used)) s'.line = subst
    (λ (x : IdReading). Feeds (lets_pass c.session.side) x piece (Ok (progress.Id used)) s'.line) e h.0 in let g = f.0
    in cc)

-- ---- as a call answers, with more behind what it heard

line_decided : (n : ℕ) (r : Result IdProgress Error) → r ≡ Ok (progress.Id n) → r ≡ Ok progress.NotYet → ⊥
line_decided n r e f = cc

line_behind : (s s' : Session) (piece more : List ℕ) (used : ℕ) → HearsLine s piece (Some used) s'
    → HearsLine s (piece ++ more) (Some used) s'
line_behind s s' piece more used h = (
  fed_more (lets_pass s.side) s.line s'.line piece more (Ok (progress.Id used))
      (line_decided used (Ok (progress.Id used)) refl) h.0,
  h.1,
  h.2,
)

-- the reader, where these bytes are left
left_of : (r r' : Reader) (bytes handed : List ℕ) (spent : ℕ)
    → r' ≡ record r { waiting = bytes; handed = handed; spent = spent }
    → Pushes (record r { waiting = []; handed = []; spent = 0 }) bytes r'
left_of r r' bytes handed spent e = record {
  becomes = subst
      (λ (x : Reader). x ≡ record r { waiting = bytes; handed = x.handed; spent = x.spent }) (sym e) refl;
}

hears_left : (c : Connection) (s' : Session) (used : ℕ) (r' : Reader) (more handed : List ℕ) (spent : ℕ) → IsLive c
    → used ≤ length c.reader.waiting → HearsLine c.session c.reader.waiting (Some used) s'
    → r' ≡ record c.reader { waiting = drop used c.reader.waiting ++ more; handed = handed; spent = spent }
    → Hears (emptied c) (c.reader.waiting ++ more) (record c { session = s'; reader = r' })
hears_left c s' used r' more handed spent live within h e = hears_by (emptied c) s' used (c.reader.waiting ++ more) r'
    c.session.line (live_emptied c live) (waits_nothing c.session.line)
    (line_behind c.session s' c.reader.waiting more used h)
    (left_of c.reader r' (drop used (c.reader.waiting ++ more)) handed spent
    (e ∙ ap (λ (b : List ℕ). record c.reader { waiting = b; handed = handed; spent = spent })
    (sym (drop-append-le used c.reader.waiting more within)))) refl

pub hears_some : (c : Connection) (s' : Session) (used : ℕ) (r' : Reader) (handed : List ℕ) (spent : ℕ) → IsLive c
    → used ≤ length c.reader.waiting → HearsLine c.session c.reader.waiting (Some used) s'
    → r' ≡ record c.reader { waiting = drop used c.reader.waiting; handed = handed; spent = spent }
    → Hears (emptied c) c.reader.waiting (record c { session = s'; reader = r' })
hears_some c s' used r' handed spent live within h e = subst
    (λ (b : List ℕ). Hears (emptied c) b (record c { session = s'; reader = r' })) (append-nil c.reader.waiting)
    (hears_left c s' used r' [] handed spent live within h
    (e ∙ ap (λ (b : List ℕ). record c.reader { waiting = b; handed = handed; spent = spent })
    (sym (append-nil (drop used c.reader.waiting)))))

pub hears_part : (c : Connection) (s' : Session) (r' : Reader) (n : ℕ) (handed : List ℕ) (spent : ℕ)
    → n ≡ length c.reader.waiting → HearsLine c.session c.reader.waiting None s'
    → r' ≡ record c.reader { waiting = drop n c.reader.waiting; handed = handed; spent = spent }
    → Hears (emptied c) c.reader.waiting (record c { session = s'; reader = r' })
hears_part c s' r' n handed spent all h e = hears_none (emptied c) s' c.reader.waiting r' (waits_nothing c.session.line)
    h (left_of c.reader r' [] handed spent (e ∙ ap (λ (b : List ℕ). record c.reader
    { waiting = b; handed = handed; spent = spent }) (drop_all n c.reader.waiting (omega (arith, all)))))

-- of what was lent
pub heard_at : (c : Connection) (s' : Session) (bytes : List ℕ) (o o' : Option ℕ) → bytes ≡ c.reader.waiting → o ≡ o'
    → HearsLine c.session bytes o s' → HearsLine c.session c.reader.waiting o' s'
heard_at c s' bytes o o' b e h = subst (λ (x : List ℕ). HearsLine c.session x o' s') b
    (subst (λ (x : Option ℕ). HearsLine c.session bytes x s') e h)

pub within_at : (bytes waiting : List ℕ) (n : ℕ) → bytes ≡ waiting → n ≤ length bytes → n ≤ length waiting
within_at bytes waiting n e h = subst (λ (x : List ℕ). n ≤ length x) e h

pub none_left : (r r' : Reader) (n : ℕ) (handed : List ℕ) (spent : ℕ) → n ≡ length r.waiting
    → r' ≡ record r { waiting = drop n r.waiting; handed = handed; spent = spent } → r'.waiting ≡ []
none_left r r' n handed spent all e = ap (λ (x : Reader). x.waiting) e ∙ drop_all n r.waiting (omega (arith, all))

-- ---- a line that was heard, with more behind the piece

found_wider : (side : Side) (bytes more : List ℕ) (others : ℕ) (events : List Event) (new : IdReading) (behind : List ℕ)
    → IsHeard new → (found : IdFound) → id_of (still_allowed (lets_pass side) others) bytes ≡ found
    → HearsFrom side found bytes others events new behind
    → HearsFrom side (id_of (still_allowed (lets_pass side) others) (bytes ++ more)) (bytes ++ more) others events new
    (behind ++ more)
found_wider side bytes more others events new behind i lines.NotYet f h = absurd
    (let e : None ≡ Some i.0 = sym (left_unheard (still_allowed (lets_pass side) others) bytes others)
    ∙ ap heard_of (sym h.1 ∙ i.1) in cc)
found_wider side bytes more others events new behind i (lines.Id text end) f h =
    subst (λ (x : IdFound). HearsFrom side x (bytes ++ more) others events new (behind ++ more))
    (sym (decided_stays (still_allowed (lets_pass side) others) bytes more not_yet ∙ f)) (
      h.0,
      h.1,
      ap (λ (b : List ℕ). b ++ more) h.2 ∙ sym (drop-append-le end bytes more
          (found_within (still_allowed (lets_pass side) others) bytes text end f)),
    )
  where
    not_yet : id_of (still_allowed (lets_pass side) others) bytes ≡ lines.NotYet → ⊥
    not_yet n = let e : lines.Id text end ≡ lines.NotYet = sym f ∙ n in cc
found_wider side bytes more others events new behind i lines.Version f h = absurd h

line_wider : (side : Side) (line : IdReading) (waiting piece more : List ℕ) (events : List Event) (new : IdReading)
    (behind : List ℕ) → IsHeard new → ReadsLineFrom side line waiting piece events new behind
    → ReadsLineFrom side line waiting (piece ++ more) events new (behind ++ more)
line_wider side (Waiting bytes others) waiting piece more events new behind i h =
    subst (λ (b : List ℕ). HearsFrom side (id_of (still_allowed (lets_pass side) others) b) b others events new
    (behind ++ more)) (append_assoc bytes piece more)
    (found_wider side (bytes ++ piece) more others events new behind i
    (id_of (still_allowed (lets_pass side) others) (bytes ++ piece)) refl h)
line_wider side (Heard text) waiting piece more events new behind i h =
    (h.0, h.1, ap (λ (b : List ℕ). b ++ more) h.2 ∙ append_assoc waiting piece more)
line_wider side Failed waiting piece more events new behind i h = absurd h

pub hears_behind : (c mid : Connection) (piece more : List ℕ) → Hears c piece mid → IsHeard mid.session.line
    → Hears c (piece ++ more) (with_more mid more)
hears_behind c mid piece more h i = record {
  events = h.events;
  side = h.side;
  config = h.config;
  steps = h.steps;
  output = h.output;
  unread = h.unread;
  bytes = h.bytes;
  delivered = h.delivered;
  input = h.input;
  line = line_wider c.session.side c.session.line c.reader.waiting piece more h.events mid.session.line
      mid.reader.waiting i h.line;
}

-- a piece that was kept before
pub hears_kept : (c c1 m : Connection) (piece handed : List ℕ) (n spent : ℕ) → c1 ≡ record c { reader = c1.reader }
    → c1.reader ≡ record c.reader { waiting = c.reader.waiting ++ take n piece; handed = handed; spent = spent }
    → Hears (emptied c1) (c1.reader.waiting ++ drop n piece) m → Hears (emptied c) (c.reader.waiting ++ piece) m
hears_kept c c1 m piece handed n spent e f h = subst (λ (b : List ℕ). Hears (emptied c) b m)
    (ap (λ (r : Reader). r.waiting ++ drop n piece) f ∙ append_assoc c.reader.waiting (take n piece) (drop n piece)
    ∙ ap (λ (b : List ℕ). c.reader.waiting ++ b) (take-append-drop n piece))
    (subst (λ (x : Connection). Hears x (c1.reader.waiting ++ drop n piece) m)
    (emptied_same c c1 (c.reader.waiting ++ take n piece) handed spent e f) h)

pub hears_all : (c c1 m : Connection) (piece handed : List ℕ) (n spent : ℕ) → c1 ≡ record c { reader = c1.reader }
    → c1.reader ≡ record c.reader { waiting = c.reader.waiting ++ take n piece; handed = handed; spent = spent }
    → n ≡ length piece → Hears (emptied c1) c1.reader.waiting m → Hears (emptied c) (c.reader.waiting ++ piece) m
hears_all c c1 m piece handed n spent e f all h = subst (λ (b : List ℕ). Hears (emptied c) b m)
    (ap (λ (r : Reader). r.waiting) f ∙ ap (λ (k : ℕ). c.reader.waiting ++ take k piece) all
    ∙ ap (λ (b : List ℕ). c.reader.waiting ++ b) (take-length piece))
    (subst (λ (x : Connection). Hears x c1.reader.waiting m)
    (emptied_same c c1 (c.reader.waiting ++ take n piece) handed spent e f) h)

-- where that is all of it
pub all_kept : (c c1 : Connection) (piece handed : List ℕ) (n spent : ℕ) → c1 ≡ record c { reader = c1.reader }
    → c1.reader ≡ record c.reader { waiting = c.reader.waiting ++ take n piece; handed = handed; spent = spent }
    → n ≤ length piece → (n + waiting_length c.session.line + length c.reader.waiting < 262245 → n ≡ length piece)
    → waiting_length c1.session.line + length c1.reader.waiting < 262245 → n ≡ length piece
all_kept c c1 piece handed n spent e f within all short =
    let a : length c1.reader.waiting ≡ length c.reader.waiting + length (take n piece) = ap
    (λ (r : Reader). length r.waiting) f ∙ length-append c.reader.waiting (take n piece) in
    let b : length (take n piece) ≡ n = length-take-le n piece within in
    let d : waiting_length c1.session.line ≡ waiting_length c.session.line = ap
    (λ (x : Connection). waiting_length x.session.line) e in
    all (omega (arith, a, b, d, short))

-- what decides nothing is short
part_short : (allow : Bool) (line new : IdReading) (piece : List ℕ) → IsShort line → IsShort new
    → Feeds allow line piece (Ok progress.NotYet) new → waiting_length line + length piece < 262245
part_short allow (Waiting bytes others) new piece w s h =
    let few : length piece + 0 ≤ 255 * (still_allowed allow others + 1) - length bytes = fits_room allow
    (Waiting bytes others) new piece 0 h (short_length new s) in
    let most = allowed_few allow others in
    let own = w.0 in
    omega (arith, few, most, own)
  where
    short_length : (l : IdReading) → IsShort l → waiting_length l + 0 ≤ longest_line
    short_length (Waiting b o) t = let z = t.0 in omega (arith, z)
    short_length (Heard text) t = omega arith
    short_length Failed t = omega arith

    allowed_few : (a : Bool) (o : ℕ) → still_allowed a o ≤ 20
    allowed_few true o = omega arith
    allowed_few false o = omega arith
part_short allow (Heard text) new piece w s h = absurd (let e = h.0 in cc)
part_short allow Failed new piece w s h = absurd (let e = h.0 in cc)

pub line_part : (s s' : Session) (piece : List ℕ) → IsShort s.line → HearsLine s piece None s'
    → waiting_length s.line + length piece < 262245
line_part s s' piece w h = part_short (lets_pass s.side) s.line s'.line piece w h.1 h.0

pub short_line : (s : Session) (piece : List ℕ) (o : Option ℕ) (s' : Session) → HearsLine s piece o s' → IsShort s'.line
short_line s piece None s' h = h.1
short_line s piece (Some used) s' h = h.1

pub fed_as : (allow : Bool) (side : Side) (line : IdReading) (piece : List ℕ) (got got' : IdProgress) (new : IdReading)
    → allow ≡ lets_pass side → got ≡ got' → Feeds allow line piece (Ok got) new
    → Feeds (lets_pass side) line piece (Ok got') new
fed_as allow side line piece got got' new a e h = subst (λ (b : Bool). Feeds b line piece (Ok got') new) a
    (subst (λ (x : IdProgress). Feeds allow line piece (Ok x) new) e h)

pub line_begun : (s s' : Session) (line : IdReading) (piece : List ℕ) (used : ℕ) (due : Bool)
    → Feeds (lets_pass s.side) s.line piece (Ok (progress.Id used)) line → IsShort line
    → due ≡ is_silent (stands_of s.finished.items s.kex) → due ≡ true → s'.line ≡ line
    → Begins (record s { line = line }) s' → HearsLine s piece (Some used) s'
line_begun s s' line piece used due h q d t e b = subst
    (λ (l : IdReading). Feeds (lets_pass s.side) s.line piece (Ok (progress.Id used)) l × IsShort l
    × BeginsWhere (is_silent (stands_of s.finished.items s.kex)) (record s { line = l }) s') (sym e)
    (h, q, subst (λ (x : Bool). BeginsWhere x (record s { line = line }) s') (sym t ∙ d) b)

pub line_late : (s s' : Session) (line : IdReading) (piece : List ℕ) (used : ℕ) (due : Bool)
    → Feeds (lets_pass s.side) s.line piece (Ok (progress.Id used)) line → IsShort line
    → due ≡ is_silent (stands_of s.finished.items s.kex) → due ≡ false → s' ≡ record s { line = line }
    → HearsLine s piece (Some used) s'
line_late s s' line piece used due h q d t e = subst (λ (x : Session). HearsLine s piece (Some used) x) (sym e)
    (h, q, subst (λ (x : Bool). BeginsWhere x (record s { line = line }) (record s { line = line })) (sym t ∙ d) refl)

end_heeds : (unfinished : IdReading) (other : ℕ → IdReading) (e : Option ℕ) → (unfinished ≡ Failed → ⊥)
    → ((m : ℕ) → other m ≡ Failed → ⊥) → by_end unfinished other e ≡ Failed → ⊥
end_heeds unfinished other None u o e = u e
end_heeds unfinished other (Some m) u o e = o m e

waits_heeds : (bytes : List ℕ) (n : ℕ) → Waiting bytes n ≡ Failed → ⊥
waits_heeds bytes n e = cc

left_heeds : (k : ℕ) (bytes : List ℕ) (n : ℕ) → reading_left k bytes n ≡ Failed → ⊥
left_heeds zero bytes n e = waits_heeds bytes n e
left_heeds (suc k) bytes n e = end_heeds (Waiting bytes n) (λ m. reading_left k (drop m bytes) (n + 1)) (line_end bytes)
    (waits_heeds bytes n) (λ m f. left_heeds k (drop m bytes) (n + 1) f) e

decided_heeds : (found : IdFound) (k : ℕ) (bytes : List ℕ) (had n : ℕ) (got : IdProgress) (new : IdReading)
    → Decides found had (reading_left k bytes n) (Ok got) new → new ≡ Failed → ⊥
decided_heeds lines.NotYet k bytes had n got new d f = left_heeds k bytes n (sym d.1 ∙ f)
decided_heeds (lines.Id text end) k bytes had n got new d f = let g : Heard text ≡ Failed = sym d.1 ∙ f in cc
decided_heeds lines.Version k bytes had n got new d f = let g = d.0 in cc

feeds_heeds : (allow : Bool) (line : IdReading) (piece : List ℕ) (got : IdProgress) (new : IdReading)
    → (line ≡ Failed → ⊥) → Feeds allow line piece (Ok got) new → new ≡ Failed → ⊥
feeds_heeds allow (Waiting bytes others) piece got new n h f = decided_heeds
    (id_of (still_allowed allow others) (bytes ++ piece)) (still_allowed allow others) (bytes ++ piece) (length bytes)
    others got new h f
feeds_heeds allow (Heard text) piece got new n h f = let g : Heard text ≡ Failed = sym h.1 ∙ f in cc
feeds_heeds allow Failed piece got new n h f = n refl

pub heeds_line : (s : Session) (piece : List ℕ) (o : Option ℕ) (s' : Session) → (s.line ≡ Failed → ⊥)
    → HearsLine s piece o s' → s'.line ≡ Failed → ⊥
heeds_line s piece None s' n h = feeds_heeds (lets_pass s.side) s.line piece progress.NotYet s'.line n h.0
heeds_line s piece (Some used) s' n h = feeds_heeds (lets_pass s.side) s.line piece (progress.Id used) s'.line n h.0

-- ---- memory that is wanting at the end of the line

ends_line : (side : Side) (line : IdReading) (piece : List ℕ) (used : ℕ) (new : IdReading) → heard_of line ≡ None
    → Feeds (lets_pass side) line piece (Ok (progress.Id used)) new → EndsBy side line piece
ends_line side (Waiting bytes others) piece used new n h =
    let f = decided_some (id_of (still_allowed (lets_pass side) others) (bytes ++ piece)) (length bytes) used
    (reading_left (still_allowed (lets_pass side) others) (bytes ++ piece) others) new h in
    (f.text, f.end, f.found_is)
ends_line side (Heard text) piece used new n h = absurd (let e : Some text ≡ None = n in cc)
ends_line side Failed piece used new n h = absurd (let e = h.0 in cc)

pub ends_by : (allow : Bool) (side : Side) (line : IdReading) (piece : List ℕ) (got : IdProgress) (used : ℕ)
    (new : IdReading) → allow ≡ lets_pass side → got ≡ progress.Id used → heard_of line ≡ None
    → Feeds allow line piece (Ok got) new → EndsBy side line piece
ends_by allow side line piece got used new a e n h = ends_line side line piece used new n
    (fed_as allow side line piece got (progress.Id used) new a e h)

only_version : (found : IdFound) (had : ℕ) (left new : IdReading) (error : Error)
    → Decides found had left (Err error) new → error ≡ errors.Memory → ⊥
only_version lines.NotYet had left new error d m = let e = d.0 in cc
only_version (lines.Id text end) had left new error d m = let e = d.0 in cc
only_version lines.Version had left new error d m = let e : Err error ≡ Err errors.Version = d.0 in cc

pub no_memory_heard : (allow : Bool) (line : IdReading) (piece : List ℕ) (error : Error) (new : IdReading)
    → Feeds allow line piece (Err error) new → error ≡ errors.Memory → ⊥
no_memory_heard allow (Waiting bytes others) piece error new h m = only_version
    (id_of (still_allowed allow others) (bytes ++ piece)) (length bytes)
    (reading_left (still_allowed allow others) (bytes ++ piece) others) new error h m
no_memory_heard allow (Heard text) piece error new h m = let e = h.0 in cc
no_memory_heard allow Failed piece error new h m = let e : Err error ≡ Err errors.Version = h.0 in cc
