-- A payload that is submitted, and an exchange that is asked for.
use Rattle.std.proofs.Common.{◌≡◌, ℕ, ◌<◌, ◌^◌, Bool, true, false, List, [], ◌∷◌, ◌++◌, Result, Ok, Err, OnOk, OnErr, IfErr, refl, sym, ap, ◌∙◌, subst, append-nil}
use Rattle.std.specs.Borrow.{Bor}
use Rattle.rand_core.specs.Stream.{Stream}
use Rattle.ssh_wire.specs.Reading.{Failed, IdReading, IsShort}
use Rattle.ssh_wire.specs.declared.error.Error.{Error}
use Rattle.ssh_wire.specs.declared.error.Error.TheVariants.{Memory}
use Rattle.ssh_kex.specs.declared.config.Config.{Config}
use Rattle.ssh_transport.specs.Handling.{IsOpen}
use Rattle.ssh_transport.specs.Kept.{IsKept, IsLive}
use Rattle.ssh_packet.specs.Sealing.{Item, IsAdmissible, IsPadded, item_of, sealed_packet}
use Rattle.ssh_packet.specs.Writing.{Writer, Sends, with_item}
use Rattle.ssh_kex.specs.Setting.{Says}
use Rattle.ssh_rules.specs.Machine.{Asked, ExchangeBegun, Outside, PayloadSent, PayloadSubmitted, SendsPayload, Silent, Spot}
use Rattle.ssh_rules.specs.Standing.{BeginsAsked, Rekeyed, RekeyedFrom, Standing, Submitted, is_outside, line_with, waiting_with, nothing_said}
use Rattle.ssh_rules.specs.Valid.{is_good_payload}
use Rattle.ssh_transport.specs.Saying.{AreGood, Begins, GoesOn, IsSettled}
use Rattle.ssh_transport.specs.States.{CanBegin, heard_of, reading_spot, standing_of, stands_of, state_at}
use Rattle.ssh_transport.specs.Submitting.{Breaks, Submits}
use Rattle.ssh_transport.specs.declared.connection.Connection.{Connection}
use Rattle.ssh_transport.specs.declared.session.Session.{Session}
use Rattle.ssh_transport.proofs.Kept.{kept_session}
use Rattle.ssh_transport.proofs.Kexinits.{sends_item}
use Rattle.ssh_transport.proofs.Saying.{begins_exchange, good_some, good_type, only_silent, settled_inside, stated, unread_steps}

good_snoc : (held : List (List ℕ)) (p : List ℕ) → AreGood held → is_good_payload p ≡ true → AreGood (held ++ p ∷ [])
good_snoc [] p h g = (g, tt)
good_snoc (q ∷ held) p h g = (h.0, good_snoc held p h.1 g)

-- inside an exchange it is held
pub submits_inside : (s s' : Session) (read : ℕ) (p : List ℕ) → is_outside (stands_of s.finished.items s.kex) ≡ false
    → IsSettled s read → AreGood s.held.items → is_good_payload p ≡ true → s'.held.items ≡ s.held.items ++ p ∷ []
    → s' ≡ record s { held = s'.held } → Submits s read p s'
submits_inside s s' read p i q g v h e = record {
  side = ap (λ (x : Session). x.side) e;
  config = ap (λ (x : Session). x.config) e;
  line = ap (λ (x : Session). x.line) e;
  rest = [];
  only = tt;
  steps = λ at. (
    state_at s' at read,
    record {
      allowed = good_type p v;
      becomes = ap
          (λ (x : Session). state_at x at read) e ∙ ap (λ (held : List (List ℕ)). stated s held s.writer
          (stands_of s.finished.items s.kex) false at read) h;
    },
    refl,
  );
  output = ap (λ (x : Session). x.writer.output) e ∙ sym (append-nil s.writer.output);
  settled = settled_inside s' read (ap (λ (x : Session). is_outside (stands_of x.finished.items x.kex)) e ∙ i)
      (λ k. ap (λ (x : Session). heard_of x.line) e ∙ (q (reading_at s)).silent
      (sym (ap (λ (x : Session). stands_of x.finished.items x.kex) e) ∙ k));
  good = subst AreGood (sym h) (good_snoc s.held.items p g v);
} where
  reading_at : Session → Spot
  reading_at x = record { sealing = x.writer.sealing; number = x.writer.number }

-- outside one it is sealed at once
pub submits_outside : (s s1 s' : Session) (read : ℕ) (p : List ℕ) (stream : Stream)
    → stands_of s.finished.items s.kex ≡ Outside → IsSettled s read → is_good_payload p ≡ true
    → IsAdmissible s.writer.sealing (item_of s.writer.sealing p stream)
    → IsPadded s.writer.sealing (item_of s.writer.sealing p stream) → Sends s.writer p stream s1.writer
    → s1 ≡ record s { writer = s1.writer } → GoesOn s1 read s' → Submits s read p s'
submits_outside s s1 s' read p stream o q v a d w e h = record {
  side = h.writes.side ∙ ap (λ (x : Session). x.side) e;
  config = h.writes.config ∙ ap (λ (x : Session). x.config) e;
  line = h.writes.line ∙ ap (λ (x : Session). x.line) e;
  rest = PayloadSent item ∷ h.events;
  only = h.writes.only;
  steps = λ at. (
    record (state_at s at read) { held = s.held.items ++ p ∷ [] },
    record
        { allowed = good_type p v; becomes = refl },
    (state_at s1 at read, sent at, behind at),
  );
  output = h.writes.output ∙ ap (λ (t : List ℕ). t ++ sent_after) (ap (λ (x : Writer). x.output) moved) ∙ append_of;
  settled = h.settled;
  good = h.writes.good;
} where
  item : Item
  item = item_of s.writer.sealing p stream

  moved : s1.writer ≡ record (with_item s.writer item) { room = s1.writer.room }
  moved = sends_item s.writer s1.writer p stream (good_some p v) w

  sent_after : List ℕ
  sent_after = Rattle.ssh_rules.specs.Log.sent_bytes s1.side
      (record { sealing = s1.writer.sealing; number = s1.writer.number }) h.events

  none : s.held.items ≡ []
  none = (q (record { sealing = s.writer.sealing; number = s.writer.number })).sent o

  append_of : (s.writer.output ++ sealed_packet s.writer.sealing s.writer.number item) ++ sent_after ≡ s.writer.output
      ++ Rattle.ssh_rules.specs.Log.sent_bytes s.side (record { sealing = s.writer.sealing; number = s.writer.number })
      (PayloadSent item ∷ h.events)
  append_of = Rattle.std.proofs.Common.append_assoc s.writer.output
      (sealed_packet s.writer.sealing s.writer.number item) sent_after
      ∙ ap (λ (t : List ℕ). s.writer.output ++ (sealed_packet s.writer.sealing s.writer.number item ++ t))
      (ap (λ (x : Session). Rattle.ssh_rules.specs.Log.sent_bytes x.side
      (record { sealing = s1.writer.sealing; number = s1.writer.number }) h.events) e
      ∙ ap (λ (x : Writer). Rattle.ssh_rules.specs.Log.sent_bytes s.side
      (record { sealing = x.sealing; number = x.number }) h.events) moved)

  sent : (at : Spot) → SendsPayload s.config.now (record (state_at s at read) { held = s.held.items ++ p ∷ [] }) item
      (state_at s1 at read)
  sent at = record {
    outside = o;
    owes = refl;
    below = λ k. ((q at).below_write o, (q at).below_read o);
    more = [];
    holds = ap (λ (x : List (List ℕ)). x ++ p ∷ []) none;
    is_written = record { admissible = a; padded = d };
    becomes = ap (λ (x : Session). state_at x at read) e
        ∙ ap (λ (x : Writer). stated s s.held.items x (stands_of s.finished.items s.kex) false at read) moved
        ∙ ap (λ (x : List (List ℕ)). stated s x (with_item s.writer item) (stands_of s.finished.items s.kex) false at
        read) none;
  }

  behind : (at : Spot) → Rattle.ssh_rules.specs.Machine.Steps nothing_said s.side s.config.now
      (Rattle.ssh_wire.specs.Lines.id_text s.config.now.id) (state_at s1 at read) h.events (state_at s' at read)
  behind at = subst (λ (x : Session). Rattle.ssh_rules.specs.Machine.Steps nothing_said x.side x.config.now
      (Rattle.ssh_wire.specs.Lines.id_text x.config.now.id) (state_at s1 at read) h.events (state_at s' at read)) e
      (h.writes.steps at)

-- ---- as contracts see it

line_same : (c c' : Connection) → c' ≡ record c { session = c'.session } → c'.session.line ≡ c.session.line
    → (standing_of c').line ≡ (standing_of c).line
line_same c c' e l = ap (λ (x : Connection). line_with c'.session.line x.reader.waiting) e
    ∙ ap (λ (x : IdReading). line_with x c.reader.waiting) l

waiting_same : (c c' : Connection) → c' ≡ record c { session = c'.session } → c'.session.line ≡ c.session.line
    → (standing_of c').waiting ≡ (standing_of c).waiting
waiting_same c c' e l = ap (λ (x : Connection). waiting_with c'.session.line [] x.reader.waiting) e
    ∙ ap (λ (x : IdReading). waiting_with x [] c.reader.waiting) l

pub submitted : (c c' : Connection) (p : List ℕ) → c.failed ≡ false → c' ≡ record c { session = c'.session }
    → Submits c.session c.reader.count p c'.session → Submitted nothing_said (standing_of c) p (standing_of c')
submitted c c' p f e h = record {
  events = PayloadSubmitted p ∷ h.rest;
  acts = record {
    side = h.side;
    config = ap (λ (x : Bor Config). x.now) h.config;
    steps = subst (λ (x : Connection). Rattle.ssh_rules.specs.Machine.Steps nothing_said c.session.side
        c.session.config.now (Rattle.ssh_wire.specs.Lines.id_text c.session.config.now.id)
        (state_at c.session (reading_spot c) c.reader.count) (PayloadSubmitted p ∷ h.rest)
        (state_at c'.session (reading_spot x) x.reader.count)) (sym e) (h.steps (reading_spot c));
    output = h.output;
    delivered = ap (λ (x : Connection). x.delivered.items) e
        ∙ sym (ap (λ (t : List (List ℕ)). c.delivered.items ++ t) (log.delivered_none) ∙ append-nil c.delivered.items);
    quiet = subst (λ (x : Connection). Rattle.ssh_rules.specs.Machine.IsQuiet c'.session.config.now
        (state_at c'.session (reading_spot c') x.reader.count)) (sym e) (h.settled (reading_spot c'));
    live = ap (λ (x : Connection). x.failed) e ∙ f;
  };
  one = ap (λ (t : List (List ℕ)). p ∷ t) log.submitted_none;
  none_read = log.handled_none;
  unasked = log.unasked;
  silent = log.hears_none;
  line = line_same c c' e h.line;
  waiting = waiting_same c c' e h.line;
} where
  log : Rattle.ssh_transport.proofs.Saying.IsSilentLog h.rest
  log = only_silent h.rest h.only

-- the parts say nothing of it
pub submitted_says : (says : Says) (t t' : Standing) (p : List ℕ) → Submitted nothing_said t p t'
    → Submitted says t p t'
submitted_says says t t' p h = record {
  events = h.events;
  acts = record {
    side = h.acts.side;
    config = h.acts.config;
    steps = unread_steps nothing_said says t.side t.config (Rattle.ssh_wire.specs.Lines.id_text t.config.id) h.events
        t.state t'.state h.none_read h.acts.steps;
    output = h.acts.output;
    delivered = h.acts.delivered;
    quiet = h.acts.quiet;
    live = h.acts.live;
  };
  one = h.one;
  none_read = h.none_read;
  unasked = h.unasked;
  silent = h.silent;
  line = h.line;
  waiting = h.waiting;
}

-- an exchange that is asked for outside one
pub begun_asked : (c c' : Connection) → c.failed ≡ false → stands_of c.session.finished.items c.session.kex ≡ Outside
    → c' ≡ record c { session = c'.session } → Begins c.session c'.session
    → BeginsAsked nothing_said (standing_of c) (standing_of c')
begun_asked c c' f o e b = record {
  item = b.item;
  acts = record {
    side = ap (λ (x : Session). x.side) b.becomes;
    config = ap (λ (x : Session). x.config.now) b.becomes;
    steps = (state_at c'.session (reading_spot c') c'.reader.count, moved, refl);
    output = ap (λ (w : Writer). w.output) b.sends.written
        ∙ ap (λ (t : List ℕ). c.session.writer.output ++ t)
        (sym (append-nil (sealed_packet c.session.writer.sealing c.session.writer.number b.item)));
    delivered = ap (λ (x : Connection). x.delivered.items) e ∙ sym (append-nil c.delivered.items);
    quiet = settled_inside c'.session c'.reader.count inside
        (λ k. absurd (let z : is_outside (stands_of c'.session.finished.items c'.session.kex) ≡ false = inside in
        not_silent k)) (reading_spot c');
    live = ap (λ (x : Connection). x.failed) e ∙ f;
  };
  line = line_same c c' e (ap (λ (x : Session). x.line) b.becomes);
  waiting = waiting_same c c' e (ap (λ (x : Session). x.line) b.becomes);
} where
  moved : Rattle.ssh_rules.specs.Machine.BeginsExchange c.session.side c.session.config.now
      (state_at c.session (reading_spot c) c.reader.count) Asked b.item
      (state_at c'.session (reading_spot c') c'.reader.count)
  moved = subst (λ (x : Connection). Rattle.ssh_rules.specs.Machine.BeginsExchange c.session.side c.session.config.now
      (state_at c.session (reading_spot c) c.reader.count) Asked b.item
      (state_at c'.session (reading_spot x) x.reader.count)) (sym e)
      (begins_exchange c.session c'.session c.reader.count (reading_spot c) Asked b refl o)

  stands_is : stands_of c'.session.finished.items c'.session.kex ≡ Rattle.ssh_rules.specs.Machine.Inside b.machine.stage
  stands_is = ap (λ (x : Session). stands_of x.finished.items x.kex) b.becomes

  inside : is_outside (stands_of c'.session.finished.items c'.session.kex) ≡ false
  inside = ap is_outside stands_is

  not_silent : stands_of c'.session.finished.items c'.session.kex ≡ Silent → ⊥
  not_silent k = let z : Silent ≡ Rattle.ssh_rules.specs.Machine.Inside b.machine.stage = sym k ∙ stands_is in cc

pub begun_says : (says : Says) (t t' : Standing) → BeginsAsked nothing_said t t' → BeginsAsked says t t'
begun_says says t t' h = record {
  item = h.item;
  acts = record {
    side = h.acts.side;
    config = h.acts.config;
    steps = unread_steps nothing_said says t.side t.config (Rattle.ssh_wire.specs.Lines.id_text t.config.id)
        (ExchangeBegun Asked h.item ∷ []) t.state t'.state refl h.acts.steps;
    output = h.acts.output;
    delivered = h.acts.delivered;
    quiet = h.acts.quiet;
    live = h.acts.live;
  };
  line = h.line;
  waiting = h.waiting;
}

rekeyed_from : (says : Says) (t t' : Standing) (b : Bool) → RekeyedFrom b nothing_said t t' → RekeyedFrom b says t t'
rekeyed_from says t t' true h = begun_says says t t' h
rekeyed_from says t t' false h = h

pub rekeyed_says : (says : Says) (t t' : Standing) → Rekeyed nothing_said t t' → Rekeyed says t t'
rekeyed_says says t t' h = rekeyed_from says t t' (is_outside t.state.stands) h

pub rekeyed_inside : (c c' : Connection) → is_outside (stands_of c.session.finished.items c.session.kex) ≡ false
    → c' ≡ c → Rekeyed nothing_said (standing_of c) (standing_of c')
rekeyed_inside c c' i e = subst (λ (b : Bool). RekeyedFrom b nothing_said (standing_of c) (standing_of c')) (sym i)
    (ap standing_of e)

pub rekeyed_outside : (c c' : Connection) → is_outside (stands_of c.session.finished.items c.session.kex) ≡ true
    → BeginsAsked nothing_said (standing_of c) (standing_of c') → Rekeyed nothing_said (standing_of c) (standing_of c')
rekeyed_outside c c' i h = subst (λ (b : Bool). RekeyedFrom b nothing_said (standing_of c) (standing_of c')) (sym i) h

-- ---- by what a call answers

live_behind : (c : Connection) (s' : Session) (read : ℕ) (p : List ℕ) → read ≡ c.reader.count → CanBegin s' → IsLive c
    → Submits c.session read p s' → IsOpen s' → IsLive (record c { session = s' })
live_behind c s' read p e b l h o = record {
  short = subst IsShort (sym h.line) l.short;
  heeds = subst
      (λ (x : IdReading). x ≡ Failed → ⊥) (sym h.line) l.heeds;
  unbroken = l.unbroken;
  windowed = l.windowed;
  begins = b;
  settled = subst (λ (n : ℕ). IsSettled s' n) e h.settled;
  good = h.good;
  opened = o;
  numbered = l.numbered;
}

pub kept_behind : (c : Connection) (s' : Session) (read : ℕ) (p : List ℕ) → read ≡ c.reader.count → CanBegin s'
    → IsKept c → IsLive c → Submits c.session read p s' → IsOpen s' → IsKept (record c { session = s' })
kept_behind c s' read p e b k l h o = kept_session c s' h.line b k (live_behind c s' read p e b l h o)

sent_by : (c c' : Connection) (s' : Session) (read : ℕ) (p : List ℕ) → c.failed ≡ false → read ≡ c.reader.count
    → c' ≡ record c { session = s' } → Submits c.session read p s'
    → Submitted nothing_said (standing_of c) p (standing_of c')
sent_by c c' s' read p f r e h =
    let same : c'.session ≡ s' = ap (λ (x : Connection). x.session) e in
    submitted c c' p f (e ∙ ap (λ (x : Session). record c { session = x }) (sym same))
    (subst (λ (x : Session). Submits c.session c.reader.count p x) (sym same)
    (subst (λ (n : ℕ). Submits c.session n p s') r h))

pub sent_answer : (c c' : Connection) (s' : Session) (read : ℕ) (p : List ℕ) (answer done : Result (Unit {0}) Error)
    → c.failed ≡ false → read ≡ c.reader.count → done ≡ answer → OnOk answer (c' ≡ record c { session = s' })
    → OnOk answer (Submits c.session read p s') → OnOk done (Submitted nothing_said (standing_of c) p (standing_of c'))
sent_answer c c' s' read p (Ok u) done f r d e h = subst
    (λ (x : Result (Unit {0}) Error). OnOk x (Submitted nothing_said (standing_of c) p (standing_of c'))) (sym d)
    (sent_by c c' s' read p f r e h)
sent_answer c c' s' read p (Err x) done f r d e h = subst
    (λ (y : Result (Unit {0}) Error). OnOk y (Submitted nothing_said (standing_of c) p (standing_of c'))) (sym d) tt

pub broken_answer : (c : Connection) (s' : Session) (t : Standing) (answer done : Result (Unit {0}) Error)
    → s'.side ≡ c.session.side → s'.config ≡ c.session.config → done ≡ answer → IfErr answer (λ e. e ≡ Memory)
    → OnErr answer (Breaks (standing_of (record c { session = s' })) t)
    → OnErr done ((done ≡ Err Memory) × Breaks (standing_of c) t)
broken_answer c s' t (Ok u) done side config d m b = subst
    (λ (y : Result (Unit {0}) Error). OnErr y ((y ≡ Err Memory) × Breaks (standing_of c) t)) (sym d) tt
broken_answer c s' t (Err x) done side config d m b = subst
    (λ (y : Result (Unit {0}) Error). OnErr y ((y ≡ Err Memory) × Breaks (standing_of c) t)) (sym d) (
      ap (λ (y : Error). Err y) m,
      record {
        side = b.side ∙ side;
        config = b.config
            ∙ ap (λ (y : Bor Config). y.now) config;
        delivered = b.delivered;
        failed = b.failed;
        nothing = b.nothing;
      },
    )
