-- What a side writes of itself, event by event.
use Rattle.std.proofs.Common.{◌≡◌, ℕ, ◌<◌, ◌≤◌, ◌==◌, Bool, true, false, not, ◌&&◌, ◌||◌, nat_le, nat_lt, List, [], ◌∷◌, ◌++◌, length, None, Result, Ok, Err, OnOk, refl, sym, ap, ◌∙◌, subst, arith, append_assoc, append-nil, ◌⊎◌, inl, inr}
use Rattle.std.proofs.lemmas.Bool.Decides.{nat_tests}
use Rattle.std.specs.Borrow.{Bor}
use Rattle.rand_core.specs.Stream.{Stream}
use Rattle.ssh_wire.specs.Lines.{id_text}
use Rattle.ssh_wire.specs.Reading.{text_heard}
use Rattle.ssh_wire.specs.declared.error.Error.{Error}
use Rattle.ssh_wire.specs.declared.side.Side.{Side}
use Rattle.ssh_packet.specs.Sealing.{Clear, Item, IsAdmissible, IsPadded, item_of, longest_payload, sealed_packet}
use Rattle.ssh_packet.specs.Stream.{message_type}
use Rattle.ssh_packet.specs.Writing.{Writer, Sends, with_item}
use Rattle.ssh_kex.specs.Setting.{Says}
use Rattle.ssh_negotiate.specs.declared.kex.KexCause.{KexCause}
use Rattle.ssh_kex.specs.Stages.{Machine, Stage, Created}
use Rattle.ssh_kex.specs.declared.config.Config.{Config}
use Rattle.ssh_rules.specs.Log.{asked, asked_in, causes_in, delivered_in, handled, sent_bytes, submitted_in}
use Rattle.ssh_rules.specs.Machine.{BeginsExchange, Cause, Event, ExchangeBegun, IdHeard, PayloadSubmitted, AnswerSent, PayloadSent, MessageTaken, GuessDropped, PayloadDelivered, PacketDropped, ExchangeFinished, Inside, MayBegin, Outside, ReadLimit, SendsPayload, SideState, Silent, Spot, Steps, Where, WriteLimit, is_answering, cause_of}
use Rattle.ssh_rules.specs.MessageTypes.{is_payload_type}
use Rattle.ssh_rules.specs.Standing.{HearsNone, is_outside, nothing_said}
use Rattle.ssh_rules.specs.Valid.{is_bad_size, is_good_payload}
use Rattle.ssh_rules.proofs.Lemmas.{sent_join, steps_join}
use Rattle.ssh_transport.specs.Kexinits.{SendsKexinit, setting_between}
use Rattle.ssh_transport.specs.Saying.{AreGood, Begins, GoesOn, GoesPart, IsSettled, IsUnsaid, OnlyWrites, Opens, Writes}
use Rattle.ssh_transport.specs.States.{heard_of, stands_of, state_at}
use Rattle.ssh_transport.specs.declared.session.Session.{Session}
use Rattle.ssh_transport.proofs.Kexinits.{between_config, between_side, sends_item}

-- ---- events that only write

only_join : (a b : List Event) → OnlyWrites a → OnlyWrites b → OnlyWrites (a ++ b)
only_join [] b h k = k
only_join (ExchangeBegun cause i ∷ a) b h k = (h.0, only_join a b h.1 k)
only_join (PayloadSent i ∷ a) b h k = only_join a b h k
only_join (IdHeard id ∷ a) b h k = absurd h
only_join (PayloadSubmitted p ∷ a) b h k = absurd h
only_join (AnswerSent i again ∷ a) b h k = absurd h
only_join (MessageTaken i ∷ a) b h k = absurd h
only_join (GuessDropped i ∷ a) b h k = absurd h
only_join (PayloadDelivered i ∷ a) b h k = absurd h
only_join (PacketDropped i ∷ a) b h k = absurd h
only_join (ExchangeFinished i x ∷ a) b h k = absurd h

-- what stands in them
pub record IsSilentLog (es : List Event) : Type 0 where
  pub handled_none : handled es ≡ []
  pub delivered_none : delivered_in es ≡ []
  pub submitted_none : submitted_in es ≡ []
  pub unasked : asked_in (causes_in es) ≡ 0
  pub hears_none : HearsNone es

pub only_silent : (es : List Event) → OnlyWrites es → IsSilentLog es
only_silent [] h = record {
  handled_none = refl;
  delivered_none = refl;
  submitted_none = refl;
  unasked = refl;
  hears_none = tt;
}
only_silent (ExchangeBegun cause i ∷ es) h =
    let r = only_silent es h.1 in
    record {
      handled_none = r.handled_none;
      delivered_none = r.delivered_none;
      submitted_none = r.submitted_none;
      unasked = (let a = h.0 in let u = r.unasked in omega (arith, a, u));
      hears_none = r.hears_none;
    }
only_silent (PayloadSent i ∷ es) h =
    let r = only_silent es h in
    record {
      handled_none = r.handled_none;
      delivered_none = r.delivered_none;
      submitted_none = r.submitted_none;
      unasked = r.unasked;
      hears_none = r.hears_none;
    }
only_silent (IdHeard id ∷ es) h = absurd h
only_silent (PayloadSubmitted p ∷ es) h = absurd h
only_silent (AnswerSent i again ∷ es) h = absurd h
only_silent (MessageTaken i ∷ es) h = absurd h
only_silent (GuessDropped i ∷ es) h = absurd h
only_silent (PayloadDelivered i ∷ es) h = absurd h
only_silent (PacketDropped i ∷ es) h = absurd h
only_silent (ExchangeFinished i x ∷ es) h = absurd h

cons_nil : {A : Type 0} (x : A) (xs : List A) → x ∷ xs ≡ [] → ⊥
cons_nil x xs e = cc

-- where no packet is read, nothing is asked of the parts
pub unread_steps : (says says' : Says) (side : Side) (config : Config) (own : List ℕ) (es : List Event)
    (st st' : SideState) → handled es ≡ [] → Steps says side config own st es st'
    → Steps says' side config own st es st'
unread_steps says says' side config own [] st st' e h = h
unread_steps says says' side config own (ExchangeBegun cause i ∷ es) st st' e h =
    (h.0, h.1, unread_steps says says' side config own es h.0 st' e h.2)
unread_steps says says' side config own (PayloadSent i ∷ es) st st' e h =
    (h.0, h.1, unread_steps says says' side config own es h.0 st' e h.2)
unread_steps says says' side config own (IdHeard id ∷ es) st st' e h =
    (h.0, h.1, unread_steps says says' side config own es h.0 st' e h.2)
unread_steps says says' side config own (PayloadSubmitted p ∷ es) st st' e h =
    (h.0, h.1, unread_steps says says' side config own es h.0 st' e h.2)
unread_steps says says' side config own (AnswerSent i again ∷ es) st st' e h =
    (h.0, h.1, unread_steps says says' side config own es h.0 st' e h.2)
unread_steps says says' side config own (MessageTaken i ∷ es) st st' e h = absurd (cons_nil i (handled es) e)
unread_steps says says' side config own (GuessDropped i ∷ es) st st' e h = absurd (cons_nil i (handled es) e)
unread_steps says says' side config own (PayloadDelivered i ∷ es) st st' e h = absurd (cons_nil i (handled es) e)
unread_steps says says' side config own (PacketDropped i ∷ es) st st' e h = absurd (cons_nil i (handled es) e)
unread_steps says says' side config own (ExchangeFinished i x ∷ es) st st' e h = absurd (cons_nil i (handled es) e)

-- ---- one after the other

nowhere : Spot
nowhere = record { sealing = Clear; number = 0 }

pub writes_none : (s : Session) (read : ℕ) → AreGood s.held.items → Writes s read [] s
writes_none s read g = record {
  side = refl;
  config = refl;
  line = refl;
  only = tt;
  steps = λ at. refl;
  output = sym
      (append-nil s.writer.output);
  good = g;
}

pub writes_join : (s mid s' : Session) (read : ℕ) (a b : List Event) → Writes s read a mid → Writes mid read b s'
    → Writes s read (a ++ b) s'
writes_join s mid s' read a b h k = record {
  side = k.side ∙ h.side;
  config = k.config ∙ h.config;
  line = k.line ∙ h.line;
  only = only_join a b h.only k.only;
  steps = λ at. steps_join nothing_said s.side s.config.now (id_text s.config.now.id) a b (state_at s at read)
      (state_at mid at read) (state_at s' at read) (h.steps at) (moved at);
  output = k.output ∙ ap (λ (t : List ℕ). t ++ sent_bytes mid.side at_mid b) h.output
      ∙ append_assoc s.writer.output (sent_bytes s.side at_start a) (sent_bytes mid.side at_mid b)
      ∙ ap (λ (x : Side). s.writer.output ++ (sent_bytes s.side at_start a ++ sent_bytes x at_mid b)) h.side
      ∙ ap (λ (t : List ℕ). s.writer.output ++ t) (sym joined);
  good = k.good;
} where
  at_start : Spot
  at_start = record { sealing = s.writer.sealing; number = s.writer.number }

  at_mid : Spot
  at_mid = record { sealing = mid.writer.sealing; number = mid.writer.number }

  moved : (at : Spot) → Steps nothing_said s.side s.config.now (id_text s.config.now.id) (state_at mid at read) b
      (state_at s' at read)
  moved at = subst (λ (x : Side). Steps nothing_said x s.config.now (id_text s.config.now.id) (state_at mid at read) b
      (state_at s' at read)) h.side (subst (λ (c : Bor Config). Steps nothing_said mid.side c.now (id_text c.now.id)
      (state_at mid at read) b (state_at s' at read)) h.config (k.steps at))

  joined : sent_bytes s.side at_start (a ++ b) ≡ sent_bytes s.side at_start a ++ sent_bytes s.side at_mid b
  joined = sent_join nothing_said s.side s.config.now (id_text s.config.now.id) a b (state_at s nowhere read)
      (state_at mid nowhere read) (h.steps nowhere)

-- ---- one packet

-- a state by its parts
abbrev pub stated : Session → List (List ℕ) → Writer → Where → Bool → Spot → ℕ → SideState
stated s held w stands called at read = record {
  heard = heard_of s.line;
  stands = stands;
  called = called;
  owed = [];
  records = s.finished.items;
  held = held;
  reading = at;
  writing = record { sealing = w.sealing; number = w.number };
  written = w.count;
  read = read;
}

pub begins_exchange : (s s' : Session) (read : ℕ) (at : Spot) (cause : Cause) (b : Begins s s')
    → is_answering cause ≡ false → MayBegin s.config.now (state_at s at read) cause
    → BeginsExchange s.side s.config.now (state_at s at read) cause b.item (state_at s' at read)
begins_exchange s s' read at cause b n m = record {
  may = m;
  owes = refl;
  not_called = refl;
  cookie = b.sends.cookie;
  cookie_length = b.sends.cookie_length;
  payload_is = b.sends.payload_is;
  is_written = record { admissible = b.sends.admissible; padded = b.sends.padded };
  becomes = ap (λ (x : Session). state_at x at read) b.becomes
      ∙ ap (λ (w : Writer). stated s s.held.items w (Inside b.machine.stage) false at read) b.sends.written
      ∙ ap (λ (stage : Stage). stated s s.held.items (with_item s.writer b.item) (Inside stage) false at read)
      b.stage_is
      ∙ ap (λ (called : Bool). stated s s.held.items (with_item s.writer b.item) (Inside (Created b.item.payload))
      called at read) (sym n);
}

-- an exchange that is begun at a limit
pub writes_begun : (s s' : Session) (read : ℕ) (cause : Cause) → is_answering cause ≡ false → asked cause ≡ 0
    → ((at : Spot) → MayBegin s.config.now (state_at s at read) cause) → AreGood s.held.items → (b : Begins s s')
    → Writes s read (ExchangeBegun cause b.item ∷ []) s'
writes_begun s s' read cause n a may g b = record {
  side = ap (λ (x : Session). x.side) b.becomes;
  config = ap (λ (x : Session). x.config) b.becomes;
  line = ap (λ (x : Session). x.line) b.becomes;
  only = (a, tt);
  steps = λ at. (state_at s' at read, begins_exchange s s' read at cause b n (may at), refl);
  output = ap (λ (w : Writer). w.output) b.sends.written
      ∙ ap (λ (t : List ℕ). s.writer.output ++ t) (sym (append-nil
      (sealed_packet s.writer.sealing s.writer.number b.item)));
  good = subst AreGood (sym (ap (λ (x : Session). x.held.items) b.becomes)) g;
}

pub good_some : (p : List ℕ) → is_good_payload p ≡ true → 0 < length p
good_some [] h = cc
good_some (b ∷ p) h = omega arith

pub and_first : (a b : Bool) → (a && b) ≡ true → a ≡ true
and_first true b e = refl
and_first false b e = cc

pub and_last : (a b : Bool) → (a && b) ≡ true → b ≡ true
and_last true b e = e
and_last false b e = cc

not_true : (b : Bool) → not b ≡ true → b ≡ false
not_true true e = cc
not_true false e = refl

or_last : (a b : Bool) → (a || b) ≡ false → b ≡ false
or_last true b e = cc
or_last false b e = e

within : (limit n : ℕ) → nat_lt limit n ≡ false → n ≤ limit
within limit n h = grind (arith, nat_tests)

pub good_short : (p : List ℕ) → is_good_payload p ≡ true → length p ≤ longest_payload
good_short p h = within longest_payload (length p) (or_last (length p == 0) (nat_lt longest_payload (length p))
    (not_true (is_bad_size (length p)) (and_first (not (is_bad_size (length p))) (is_payload_type (message_type p)) h)))

pub good_type : (p : List ℕ) → is_good_payload p ≡ true → is_payload_type (message_type p) ≡ true
good_type p h = and_last (not (is_bad_size (length p))) (is_payload_type (message_type p)) h

-- the first payload that is held is sealed
pub record SendsFirst (s : Session) (payload : List ℕ) (more : List (List ℕ)) (stream : Stream) (s' : Session) : Type 0
  where
    pub outside : stands_of s.finished.items s.kex ≡ Outside
    pub below_write : s.writer.count < s.config.now.limits.rekey_write_limit
    pub holds : s.held.items ≡ payload ∷ more
    pub some : 0 < length payload
    pub admissible : IsAdmissible s.writer.sealing (item_of s.writer.sealing payload stream)
    pub padded : IsPadded s.writer.sealing (item_of s.writer.sealing payload stream)
    pub sends : Sends s.writer payload stream s'.writer
    pub left : s'.held.items ≡ more
    pub becomes : s' ≡ record s { held = s'.held; writer = s'.writer }

sends_step : (s s' : Session) (read : ℕ) (at : Spot) (payload : List ℕ) (more : List (List ℕ)) (stream : Stream)
    → read < s.config.now.limits.rekey_read_limit → SendsFirst s payload more stream s'
    → SendsPayload s.config.now (state_at s at read) (item_of s.writer.sealing payload stream) (state_at s' at read)
sends_step s s' read at payload more stream r h = record {
  outside = h.outside;
  owes = refl;
  below = λ o. (h.below_write, r);
  more = more;
  holds = h.holds;
  is_written = record { admissible = h.admissible; padded = h.padded };
  becomes = ap (λ (x : Session). state_at x at read) h.becomes
      ∙ ap (λ (q : List (List ℕ)). stated s q s'.writer (stands_of s.finished.items s.kex) false at read) h.left
      ∙ ap (λ (w : Writer). stated s more w (stands_of s.finished.items s.kex) false at read)
      (sends_item s.writer s'.writer payload stream h.some h.sends);
}

pub writes_first : (s s' : Session) (read : ℕ) (payload : List ℕ) (more : List (List ℕ)) (stream : Stream)
    → read < s.config.now.limits.rekey_read_limit → AreGood more → SendsFirst s payload more stream s'
    → Writes s read (PayloadSent (item_of s.writer.sealing payload stream) ∷ []) s'
writes_first s s' read payload more stream r g h = record {
  side = ap (λ (x : Session). x.side) h.becomes;
  config = ap (λ (x : Session). x.config) h.becomes;
  line = ap (λ (x : Session). x.line) h.becomes;
  only = tt;
  steps = λ at. (state_at s' at read, sends_step s s' read at payload more stream r h, refl);
  output = ap (λ (w : Writer). w.output) (sends_item s.writer s'.writer payload stream h.some h.sends)
      ∙ ap (λ (t : List ℕ). s.writer.output ++ t) (sym (append-nil
      (sealed_packet s.writer.sealing s.writer.number (item_of s.writer.sealing payload stream))));
  good = subst AreGood (sym h.left) g;
}

-- ---- nothing is left to do

pub outside_is : (w : Where) → is_outside w ≡ true → w ≡ Outside
outside_is Silent e = cc
outside_is Outside e = refl
outside_is (Inside stage) e = cc

pub settled_inside : (s : Session) (read : ℕ) → is_outside (stands_of s.finished.items s.kex) ≡ false
    → (stands_of s.finished.items s.kex ≡ Silent → heard_of s.line ≡ None) → IsSettled s read
settled_inside s read i q at = record {
  owes = refl;
  not_called = refl;
  silent = q;
  sent = λ o. absurd (no o);
  below_write = λ o. absurd (no o);
  below_read = λ o. absurd (no o);
} where
  no : stands_of s.finished.items s.kex ≡ Outside → ⊥
  no o = let e : true ≡ false = sym (ap is_outside o) ∙ i in cc

pub settled_outside : (s : Session) (read : ℕ) → stands_of s.finished.items s.kex ≡ Outside → s.held.items ≡ []
    → s.writer.count < s.config.now.limits.rekey_write_limit → read < s.config.now.limits.rekey_read_limit
    → IsSettled s read
settled_outside s read o e w r at = record {
  owes = refl;
  not_called = refl;
  silent = λ q. absurd (let f : Silent ≡ Outside = sym q ∙ o in cc);
  sent = λ k. e;
  below_write = λ k. w;
  below_read = λ k. r;
}

-- ---- what calls leave

pub opened : (s : Session) (m m' : Machine) (w' : Writer) (cause : KexCause) (peer : List ℕ)
    → m ≡ record { setting = setting_between s.side s.config.now peer cause; stage = Created [] }
    → cause ≡ cause_of s.finished.items → peer ≡ text_heard s.line
    → (x : Item) × SendsKexinit m.setting.side m.setting.config s.writer x w'
    × (m' ≡ record m { stage = Created x.payload }) → Opens s m' (record s { writer = w' })
opened s m m' w' cause peer e c p h = record {
  item = h.0;
  sends = subst (λ (x : Side). SendsKexinit x s.config.now s.writer h.0 w')
      (ap (λ (x : Machine). x.setting.side) e ∙ between_side s.side s.config.now peer cause)
      (subst (λ (x : Config). SendsKexinit m.setting.side x s.writer h.0 w')
      (ap (λ (x : Machine). x.setting.config) e ∙ between_config s.side s.config.now peer cause) h.1);
  setting_is = ap (λ (x : Machine). x.setting) h.2 ∙ ap (λ (x : Machine). x.setting) e
      ∙ ap (λ (x : List ℕ). setting_between s.side s.config.now x cause) p
      ∙ ap (λ (x : KexCause). setting_between s.side s.config.now (text_heard s.line) x) c;
  stage_is = ap (λ (x : Machine). x.stage) h.2;
  becomes = refl;
}

pub on_ok : {T : Type 0} (answer : Result T Error) (P Q : Type 0) → (P → Q) → OnOk answer P → OnOk answer Q
on_ok (Ok x) P Q f h = f h
on_ok (Err e) P Q f h = tt

pub flipped : (r b : Bool) → r ≡ not b → r ≡ false → b ≡ true
flipped r true e f = refl
flipped r false e f = let g : true ≡ false = sym e ∙ f in cc

-- where a limit is reached an exchange is begun
reached : (write count limit read : ℕ) → (nat_le write count || nat_le limit read) ≡ true
    → (write ≤ count) ⊎ (limit ≤ read)
reached write count limit read h = by (nat_le write count) refl h
  where
    at_least : (n m : ℕ) → nat_le n m ≡ true → n ≤ m
    at_least n m k = grind (arith, nat_tests)

    by : (b : Bool) → nat_le write count ≡ b → (b || nat_le limit read) ≡ true → (write ≤ count) ⊎ (limit ≤ read)
    by true e k = inl (at_least write count e)
    by false e k = inr (at_least limit read k)

unreached : (write count limit read : ℕ) → (nat_le write count || nat_le limit read) ≡ false
    → (count < write) × (read < limit)
unreached write count limit read h = (
  below write count (first (nat_le write count) (nat_le limit read) h),
  below limit
      read (or_last (nat_le write count) (nat_le limit read) h),
)
  where
    below : (n m : ℕ) → nat_le n m ≡ false → m < n
    below n m k = grind (arith, nat_tests)

    first : (a b : Bool) → (a || b) ≡ false → a ≡ false
    first true b e = cc
    first false b e = refl

pub goes_on_begun : (s mid s' : Session) (read : ℕ) (outside limit : Bool)
    → outside ≡ not (is_outside (stands_of mid.finished.items mid.kex)) → outside ≡ false
    → limit ≡ (nat_le mid.config.now.limits.rekey_write_limit mid.writer.count || nat_le
    mid.config.now.limits.rekey_read_limit read) → limit ≡ true → (events : List Event) × Writes s read events mid
    → Begins mid s' → GoesOn s read s'
goes_on_begun s mid s' read outside limit oe o le l h b = by
    (reached mid.config.now.limits.rekey_write_limit mid.writer.count mid.config.now.limits.rekey_read_limit read
    (sym le ∙ l))
  where
    out : stands_of mid.finished.items mid.kex ≡ Outside
    out = outside_is (stands_of mid.finished.items mid.kex)
        (flipped outside (is_outside (stands_of mid.finished.items mid.kex)) oe o)

    stands : stands_of s'.finished.items s'.kex ≡ Inside b.machine.stage
    stands = ap (λ (x : Session). stands_of x.finished.items x.kex) b.becomes

    settled : IsSettled s' read
    settled = settled_inside s' read (ap is_outside stands)
        (λ k. absurd (let f : Silent ≡ Inside b.machine.stage = sym k ∙ stands in cc))

    go : (cause : Cause) → is_answering cause ≡ false → asked cause ≡ 0
        → ((at : Spot) → MayBegin mid.config.now (state_at mid at read) cause) → GoesOn s read s'
    go cause n a may = record {
      events = h.0 ++ ExchangeBegun cause b.item ∷ [];
      writes = writes_join s mid s' read h.0
          (ExchangeBegun cause b.item ∷ []) h.1 (writes_begun mid s' read cause n a may h.1.good b);
      settled = settled;
    }

    by : (mid.config.now.limits.rekey_write_limit ≤ mid.writer.count) ⊎ (mid.config.now.limits.rekey_read_limit ≤ read)
        → GoesOn s read s'
    by (inl w) = go WriteLimit refl refl (λ at. (out, w))
    by (inr r) = go ReadLimit refl refl (λ at. (out, r))

pub sends_first : (s mid s' : Session) (read : ℕ) (outside limit : Bool) (payload bytes : List ℕ) (stream : Stream)
    → outside ≡ not (is_outside (stands_of mid.finished.items mid.kex)) → outside ≡ false
    → limit ≡ (nat_le mid.config.now.limits.rekey_write_limit mid.writer.count || nat_le
    mid.config.now.limits.rekey_read_limit read) → limit ≡ false → (events : List Event) × Writes s read events mid
    → mid.held.items ≡ payload ∷ s'.held.items → bytes ≡ payload → Sends mid.writer bytes stream s'.writer
    → (0 < length bytes → IsAdmissible mid.writer.sealing (item_of mid.writer.sealing bytes stream))
    → (0 < length bytes → IsPadded mid.writer.sealing (item_of mid.writer.sealing bytes stream))
    → s' ≡ record mid { held = s'.held; writer = s'.writer } → (events : List Event) × Writes s read events s'
sends_first s mid s' read outside limit payload bytes stream oe o le l h held e w a d becomes = (
  h.0 ++ PayloadSent (item_of mid.writer.sealing payload stream) ∷ [],
  writes_join s mid s' read h.0
      (PayloadSent (item_of mid.writer.sealing payload stream) ∷ []) h.1
      (writes_first mid s' read payload s'.held.items stream below.1 good.1 sent),
)
  where
    below : (mid.writer.count < mid.config.now.limits.rekey_write_limit)
        × (read < mid.config.now.limits.rekey_read_limit)
    below = unreached mid.config.now.limits.rekey_write_limit mid.writer.count mid.config.now.limits.rekey_read_limit
        read (sym le ∙ l)

    good : AreGood (payload ∷ s'.held.items)
    good = subst AreGood held h.1.good

    some : 0 < length payload
    some = good_some payload good.0

    there : 0 < length bytes
    there = subst (λ (x : List ℕ). 0 < length x) (sym e) some

    sent : SendsFirst mid payload s'.held.items stream s'
    sent = record {
      outside = outside_is (stands_of mid.finished.items mid.kex)
          (flipped outside (is_outside (stands_of mid.finished.items mid.kex)) oe o);
      below_write = below.0;
      holds = held;
      some = some;
      admissible = subst (λ (x : List ℕ). IsAdmissible mid.writer.sealing (item_of mid.writer.sealing x stream)) e
          (a there);
      padded = subst (λ (x : List ℕ). IsPadded mid.writer.sealing (item_of mid.writer.sealing x stream)) e (d there);
      sends = subst (λ (x : List ℕ). Sends mid.writer x stream s'.writer) e w;
      left = refl;
      becomes = becomes;
    }

pub flipped_true : (r b : Bool) → r ≡ not b → r ≡ true → b ≡ false
flipped_true r true e f = let g : false ≡ true = sym e ∙ f in cc
flipped_true r false e f = refl

-- what was written before memory was wanting
pub goes_part : (s mid s' : Session) (read : ℕ) → (events : List Event) × Writes s read events mid
    → s'.writer.output ≡ mid.writer.output → s'.finished.items ≡ mid.finished.items → GoesPart s read s'
goes_part s mid s' read w o f = record { events = w.0; mid = mid; writes = w.1; output = o; records = f }

pub begins_part : (s mid s' : Session) (read : ℕ) (answer : Result (Unit {0}) Error)
    → (events : List Event) × Writes s read events mid → Rattle.std.proofs.Common.OnErr answer (IsUnsaid mid s')
    → Rattle.std.proofs.Common.OnErr answer (GoesPart s read s')
begins_part s mid s' read (Ok u) w h = tt
begins_part s mid s' read (Err e) w h = goes_part s mid s' read w (ap (λ (x : Session). x.writer.output) h)
    (ap (λ (x : Session). x.finished.items) h)

pub on_err : {T : Type 0} (answer : Result T Error) (P : Type 0) → P → Rattle.std.proofs.Common.OnErr answer P
on_err (Ok x) P h = tt
on_err (Err e) P h = h
