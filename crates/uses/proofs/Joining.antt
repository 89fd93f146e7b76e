-- What is read of a stream piece by piece, and lent payload by payload, is what is fed at once.
use Rattle.std.proofs.Common.{◌≡◌, ℕ, ◌+◌, ◌-◌, ◌<◌, ◌≤◌, List, [], ◌∷◌, ◌++◌, length, take, drop, Option, Some, None, Result, Ok, false, refl, sym, ap, ◌∙◌, subst, arith, append_assoc, append-nil, length-append, length-drop}
use Rattle.std.proofs.Math.Seq.{take-add, take-length}
use Rattle.std.proofs.lemmas.List.{append_cancel_left}
use Rattle.ssh_wire.specs.Lines as lines
use Rattle.ssh_wire.specs.Lines.{IdFound, id_of, id_text}
use Rattle.ssh_wire.specs.Reading.{IdReading, Waiting, Heard, Failed, still_allowed}
use Rattle.ssh_wire.specs.declared.error.Error.{Error}
use Rattle.ssh_wire.specs.declared.side.Side.{Side}
use Rattle.ssh_packet.specs.Sealing.{Item, sealed_packet}
use Rattle.ssh_packet.proofs.Lemmas.{length_sealed}
use Rattle.ssh_kex.specs.Setting.{Says}
use Rattle.ssh_kex.specs.declared.config.Config.{Config}
use Rattle.ssh_rules.specs.Log.{delivered_in, read_bytes, sent_bytes}
use Rattle.ssh_rules.specs.Machine.{AnswerSent, Event, ExchangeBegun, ExchangeFinished, GuessDropped, IdHeard, MessageTaken, PacketDropped, PayloadDelivered, PayloadSent, PayloadSubmitted, Spot, Steps}
use Rattle.ssh_rules.specs.Polling.{LendsPayload, Polls, queued}
use Rattle.ssh_rules.specs.Standing.{Acts, HearsFrom, IsInput, ReadsIdLine, ReadsLineFrom, Standing, TakesInput, input_room, lets_pass, unfinished, unfinished_by, with_input}
use Rattle.ssh_rules.proofs.Lemmas.{delivered_more, read_join, sent_join, steps_join}
use Rattle.ssh_transport.proofs.Lemmas.{Weaker, steps_weaker}
use Rattle.ssh_transport.proofs.Lemmas.{input_more}
use Rattle.uses.specs.Streams.{FedLent, LentSoFar, queued_all}
use Rattle.uses.proofs.Lines.{LinesJoin, line_back, lines_join}

-- these bytes were taken so far, and these payloads lent; more may be whole
pub record FedSo (says : Says) (old : Standing) (bytes : List ℕ) (lent : List (List ℕ)) (new : Standing) : Type 0 where
  pub events : List Event
  pub acts : Acts says old events (queued_all new lent)
  pub input : IsInput events
  pub behind : List ℕ
  pub line : ReadsIdLine old bytes events new.line behind
  pub read : behind ≡ read_bytes old.side old.state.reading events ++ new.waiting
  pub same : new.delivered ≡ old.delivered

pub fed_so : (says : Says) (old new : Standing) (bytes : List ℕ) (lent : List (List ℕ)) → FedLent says old bytes lent new → FedSo says old bytes lent new
fed_so says old new bytes lent h = record { events = h.0.events; acts = h.0.acts; input = h.0.input; behind = h.0.behind; line = h.0.line; read = h.0.read; same = h.1 }

pub lends_so : (says : Says) (old new : Standing) (payload : List ℕ) → LendsPayload says old payload new → FedSo says old [] (payload ∷ []) new
lends_so says old new payload h = record { events = h.events; acts = h.acts; input = h.input; behind = h.behind; line = h.line; read = h.read; same = h.unqueued }

delivers_both : (old mid new ps qs d e all : List (List ℕ)) → mid ≡ old → new ≡ mid → mid ++ ps ≡ old ++ d → new ++ qs ≡ mid ++ e → all ≡ d ++ e → new ++ (ps ++ qs) ≡ old ++ all
delivers_both old mid new ps qs d e all m n h k a =
    let first : ps ≡ d = append_cancel_left old ps d (ap (λ (x : List (List ℕ)). x ++ ps) (sym m) ∙ h) in
    let second : qs ≡ e = append_cancel_left mid qs e (ap (λ (x : List (List ℕ)). x ++ qs) (sym n) ∙ k) in
    ap (λ (x : List (List ℕ)). x ++ (ps ++ qs)) (n ∙ m) ∙ ap (λ (x : List (List ℕ)). old ++ x) (ap (λ (x : List (List ℕ)). x ++ qs) first ∙ (ap (λ (x : List (List ℕ)). d ++ x) second ∙ sym a))

-- what was read so far, and then what is whole
pub fed_join : (says : Says) (a b c : Standing) (p q : List ℕ) (ps qs : List (List ℕ)) → FedSo says a p ps b → FedLent says b q qs c → FedLent says a (p ++ q) (ps ++ qs) c
fed_join says a b c p q ps qs h k = (
  record {
    events = h.events ++ t.events;
    acts = record {
      side = t.acts.side ∙ h.acts.side;
      config = t.acts.config ∙ h.acts.config;
      steps = steps_join says a.side a.config (id_text a.config.id) h.events t.events a.state b.state c.state h.acts.steps steps;
      output = t.acts.output ∙ (ap (λ (x : List ℕ). x ++ sent_bytes b.side b.state.writing t.events) h.acts.output
          ∙ (append_assoc a.output (sent_bytes a.side a.state.writing h.events) (sent_bytes b.side b.state.writing t.events)
          ∙ ap (λ (x : List ℕ). a.output ++ x) (ap (λ (s : Side). sent_bytes a.side a.state.writing h.events ++ sent_bytes s b.state.writing t.events) h.acts.side
          ∙ sym (sent_join says a.side a.config (id_text a.config.id) h.events t.events a.state b.state h.acts.steps))));
      delivered = delivers_both a.delivered b.delivered c.delivered ps qs (delivered_in h.events) (delivered_in t.events) (delivered_in (h.events ++ t.events)) h.same k.1 h.acts.delivered t.acts.delivered (delivered_more h.events t.events);
      quiet = t.acts.quiet;
      live = t.acts.live;
    };
    input = input_more h.events t.events h.input t.input;
    behind = joined.all;
    line = joined.reads;
    read = joined.rest ∙ (ap (λ (x : List ℕ). r ++ x) (t.read ∙ ap (λ (s : Side). read_bytes s b.state.reading t.events ++ c.waiting) h.acts.side)
        ∙ (sym (append_assoc r (read_bytes a.side b.state.reading t.events) c.waiting)
        ∙ ap (λ (x : List ℕ). x ++ c.waiting) (sym (read_join says a.side a.config (id_text a.config.id) h.events t.events a.state b.state h.acts.steps))));
    part = t.part;
    small = t.small;
  },
  k.1 ∙ h.same,
) where
  t : TakesInput says b q (queued_all c qs)
  t = k.0

  r : List ℕ
  r = read_bytes a.side a.state.reading h.events

  steps : Steps says a.side a.config (id_text a.config.id) b.state t.events c.state
  steps = subst (λ (s : Side). Steps says s a.config (id_text a.config.id) b.state t.events c.state) h.acts.side (subst (λ (g : Config). Steps says b.side g (id_text g.id) b.state t.events c.state) h.acts.config t.acts.steps)

  later : ReadsLineFrom a.side b.line b.waiting q t.events c.line t.behind
  later = subst (λ (s : Side). ReadsLineFrom s b.line b.waiting q t.events c.line t.behind) h.acts.side t.line

  joined : LinesJoin a.side a.line a.waiting (p ++ q) r (h.events ++ t.events) c.line t.behind
  joined = lines_join a.side a.line b.line c.line p q a.waiting b.waiting r h.events t.events h.behind t.behind h.line (λ e. ap (λ (x : List Event). read_bytes a.side a.state.reading x) e) h.read later

-- a payload is lent, and then what follows it
pub lent_then : (says : Says) (a b c : Standing) (payload : List ℕ) (rest : List (List ℕ)) → LendsPayload says a payload b → FedLent says b [] rest c → FedLent says a [] (payload ∷ rest) c
lent_then says a b c payload rest h k = fed_join says a b c [] [] (payload ∷ []) rest (lends_so says a b payload h) k

-- ---- input that was kept

acts_back : (says : Says) (t new : Standing) (more : List ℕ) (events : List Event) → Acts says (with_input t more) events new → Acts says t events new
acts_back says t new more events h = record { side = h.side; config = h.config; steps = h.steps; output = h.output; delivered = h.delivered; quiet = h.quiet; live = h.live }

-- what is made of kept input is what is made of a piece
pub kept_back : (says : Says) (t new : Standing) (more : List ℕ) (lent : List (List ℕ)) → FedLent says (with_input t more) [] lent new → FedLent says t more lent new
kept_back says t new more lent h = (
  record {
    events = h.0.events;
    acts = acts_back says t (queued_all new lent) more h.0.events h.0.acts;
    input = h.0.input;
    behind = h.0.behind;
    line = line_back t.side t.line t.waiting more h.0.events new.line h.0.behind h.0.line;
    read = h.0.read;
    part = h.0.part;
    small = h.0.small;
  },
  h.1,
)

-- a further piece
pub pieces_join : (says : Says) (a b c : Standing) (bytes : List ℕ) (taken n : ℕ) (ps qs : List (List ℕ)) → FedLent says a (take taken bytes) ps b → FedLent says (with_input b (take n (drop taken bytes))) [] qs c → FedLent says a (take (taken + n) bytes) (ps ++ qs) c
pieces_join says a b c bytes taken n ps qs h k =
    let P : List ℕ → Type 0 = λ x. FedLent says a x (ps ++ qs) c in
    subst P (sym (take-add taken n bytes)) (fed_join says a b c (take taken bytes) (take n (drop taken bytes)) ps qs (fed_so says a b (take taken bytes) ps h) (kept_back says b c (take n (drop taken bytes)) qs k))

-- ---- what the parts say

acts_weaker : (x y : Says) → Weaker x y → (old new : Standing) (events : List Event) → Acts x old events new → Acts y old events new
acts_weaker x y w old new events h = record { side = h.side; config = h.config; steps = steps_weaker x y w old.side old.config (id_text old.config.id) events old.state new.state h.steps; output = h.output; delivered = h.delivered; quiet = h.quiet; live = h.live }

pub lends_weaker : (x y : Says) → Weaker x y → (old new : Standing) (payload : List ℕ) → LendsPayload x old payload new → LendsPayload y old payload new
lends_weaker x y w old new payload h = record { events = h.events; acts = acts_weaker x y w old (queued new payload) h.events h.acts; input = h.input; unqueued = h.unqueued; lent = h.lent; before = h.before; item = h.item; last = h.last; payload_is = h.payload_is; behind = h.behind; line = h.line; read = h.read }

pub fed_weaker : (x y : Says) → Weaker x y → (old new : Standing) (bytes : List ℕ) (lent : List (List ℕ)) → FedLent x old bytes lent new → FedLent y old bytes lent new
fed_weaker x y w old new bytes lent h = (record { events = h.0.events; acts = acts_weaker x y w old (queued_all new lent) h.0.events h.0.acts; input = h.0.input; behind = h.0.behind; line = h.0.line; read = h.0.read; part = h.0.part; small = h.0.small }, h.1)

-- ---- payload by payload

pub lent_more : (x y : Says) → Weaker x y → (a b c : Standing) (ps : List (List ℕ)) (payload : List ℕ) → LentSoFar y a ps b → LendsPayload x b payload c → LentSoFar y a (ps ++ payload ∷ []) c
lent_more x y w a b c ps payload h k rest end f =
    let P : List (List ℕ) → Type 0 = λ q. FedLent y a [] q end in
    subst P (sym (append_assoc ps (payload ∷ []) rest)) (h (payload ∷ rest) end (lent_then y b c end payload rest (lends_weaker x y w b c payload k) f))

fed_none : (says : Says) (b c : Standing) → TakesInput says b [] c × (c.delivered ≡ b.delivered) → FedLent says b [] [] c
fed_none says b c h =
    let P : List (List ℕ) → Type 0 = λ d. TakesInput says b [] (record c { delivered = d }) in
    (subst P (sym (append-nil c.delivered)) h.0, h.1)

pub lent_all : (x y : Says) → Weaker x y → (a b c : Standing) (ps : List (List ℕ)) → LentSoFar y a ps b → TakesInput x b [] c × (c.delivered ≡ b.delivered) → FedLent y a [] ps c
lent_all x y w a b c ps h k =
    let P : List (List ℕ) → Type 0 = λ q. FedLent y a [] q c in
    subst P (append-nil ps) (h [] c (fed_weaker x y w b c [] [] (fed_none x b c k)))

-- ---- piece by piece

pub room_left : (says : Says) (old t : Standing) (bytes : List ℕ) (lent : List (List ℕ)) (n : ℕ) → FedLent says old bytes lent t → 0 < n → 0 < input_room t n
room_left says old t bytes lent n h some = let small : length (unfinished t) < 262245 = h.0.small in omega (arith, small, some)

pub room_within : (t : Standing) (n : ℕ) → input_room t n ≤ n
room_within t n = omega arith

-- ---- what the calls say, over the parts as they were

pub kept_some : (x y : Config → Says) → ((k : Config) → Weaker (y k) (x k)) → (a b c : Standing) (ps : List (List ℕ)) (lent : Option (List ℕ)) (payload : List ℕ) → lent ≡ Some payload → b.config ≡ a.config → LentSoFar (x a.config) a ps b → Polls (y b.config) b lent c → LentSoFar (x a.config) a (ps ++ payload ∷ []) c
kept_some x y w a b c ps lent payload is e h k =
    let P : Option (List ℕ) → Type 0 = λ o. Polls (y b.config) b o c in
    let Q : Config → Type 0 = λ g. LendsPayload (y g) b payload c in
    lent_more (y a.config) (x a.config) (w a.config) a b c ps payload h (subst Q e (subst P is k))

pub kept_none : (x y : Config → Says) → ((k : Config) → Weaker (y k) (x k)) → (a b c : Standing) (ps : List (List ℕ)) (lent : Option (List ℕ)) → lent ≡ None → b.config ≡ a.config → LentSoFar (x a.config) a ps b → Polls (y b.config) b lent c → FedLent (x a.config) a [] ps c
kept_none x y w a b c ps lent is e h k =
    let P : Option (List ℕ) → Type 0 = λ o. Polls (y b.config) b o c in
    let Q : Config → Type 0 = λ g. TakesInput (y g) b [] c × (c.delivered ≡ b.delivered) in
    lent_all (y a.config) (x a.config) (w a.config) a b c ps h (subst Q e (subst P is k))

pub piece_more : (x y : Config → Says) → ((k : Config) → Weaker (y k) (x k)) → (a b t c : Standing) (bytes : List ℕ) (taken n : ℕ) (ps qs all : List (List ℕ)) → b.config ≡ a.config → FedLent (x a.config) a (take taken bytes) ps b → t ≡ with_input b (take n (drop taken bytes)) → FedLent (y t.config) t [] qs c → all ≡ ps ++ qs → FedLent (x a.config) a (take (taken + n) bytes) all c
piece_more x y w a b t c bytes taken n ps qs all e h is k sum =
    let P : Standing → Type 0 = λ s. FedLent (y s.config) s [] qs c in
    let Q : Config → Type 0 = λ g. FedLent (y g) (with_input b (take n (drop taken bytes))) [] qs c in
    let R : List (List ℕ) → Type 0 = λ l. FedLent (x a.config) a (take (taken + n) bytes) l c in
    let later = fed_weaker (y a.config) (x a.config) (w a.config) (with_input b (take n (drop taken bytes))) c [] qs (subst Q e (subst P is k)) in
    subst R (sym sum) (pieces_join (x a.config) a b c bytes taken n ps qs h later)

-- how much of a piece was kept
pub all_rest : (bytes : List ℕ) (taken : ℕ) → take (length bytes - taken) (drop taken bytes) ≡ drop taken bytes
all_rest bytes taken = ap (λ (k : ℕ). take k (drop taken bytes)) (sym (length-drop taken bytes)) ∙ take-length (drop taken bytes)

pub took : (b t : Standing) (rest whole : List ℕ) (n : ℕ) (answer : Result ℕ Error) → rest ≡ whole → answer ≡ Ok n → (b.failed ≡ false → (answer ≡ Ok (input_room b (length rest))) × (t ≡ with_input b (take (input_room b (length rest)) rest))) → b.failed ≡ false → (n ≡ input_room b (length whole)) × (t ≡ with_input b (take n whole))
took b t rest whole n answer all is h live =
    let k = h live in
    let found : (let r : Result ℕ Error = Ok n in r) ≡ Ok (input_room b (length rest)) = sym is ∙ k.0 in
    let same : n ≡ input_room b (length rest) = cc in
    let P : List ℕ → Type 0 = λ r. (n ≡ input_room b (length r)) × (t ≡ with_input b (take n r)) in
    subst P all (same, k.1 ∙ ap (λ (m : ℕ). with_input b (take m rest)) (sym same))

-- ---- each payload takes bytes

some_first : (at : Spot) (i : Item) (rest : List ℕ) → 0 < length (sealed_packet at.sealing at.number i ++ rest)
some_first at i rest = let n = length_sealed at.sealing at.number i in omega (arith, n, length-append (sealed_packet at.sealing at.number i) rest)

reads_some : (side : Side) (at : Spot) (events : List Event) (payload : List ℕ) → delivered_in events ≡ payload ∷ [] → 0 < length (read_bytes side at events)
reads_some side at [] payload h = absurd (cc)
reads_some side at (IdHeard id ∷ es) payload h = reads_some side at es payload h
reads_some side at (PayloadSubmitted p ∷ es) payload h = reads_some side at es payload h
reads_some side at (ExchangeBegun cause i ∷ es) payload h = reads_some side at es payload h
reads_some side at (AnswerSent i again ∷ es) payload h = reads_some side at es payload h
reads_some side at (PayloadSent i ∷ es) payload h = reads_some side at es payload h
reads_some side at (MessageTaken i ∷ es) payload h = some_first at i _
reads_some side at (GuessDropped i ∷ es) payload h = some_first at i _
reads_some side at (PayloadDelivered i ∷ es) payload h = some_first at i _
reads_some side at (PacketDropped i ∷ es) payload h = some_first at i _
reads_some side at (ExchangeFinished i x ∷ es) payload h = some_first at i _

-- what stands behind a line that is heard is part of what was kept
heard_within : (side : Side) (found : IdFound) (left : ℕ) (bytes : List ℕ) (others : ℕ) (events : List Event) (payload : List ℕ) (new : IdReading) (behind waiting : List ℕ) → id_of left bytes ≡ found → HearsFrom side found bytes others events new behind → delivered_in events ≡ payload ∷ [] → length waiting < length behind → length (unfinished_by new waiting) < length bytes
heard_within side lines.NotYet left bytes others events payload new behind waiting f h d w = absurd (let e : delivered_in [] ≡ payload ∷ [] = ap delivered_in (sym h.0) ∙ d in cc)
heard_within side (lines.Id text end) left bytes others events payload new behind waiting f h d w =
    let size : length behind ≡ length bytes - end = ap length h.2 ∙ length-drop end bytes in
    let n : length waiting < length bytes = omega (arith, w, size) in
    subst (λ (i : IdReading). length (unfinished_by i waiting) < length bytes) (sym h.1) n
heard_within side lines.Version left bytes others events payload new behind waiting f h d w = absurd h

line_shorter : (side : Side) (line new : IdReading) (old : List ℕ) (events : List Event) (payload : List ℕ) (behind waiting : List ℕ) → ReadsLineFrom side line old [] events new behind → delivered_in events ≡ payload ∷ [] → length waiting < length behind → length (unfinished_by new waiting) < length (unfinished_by line old)
line_shorter side (Waiting bytes others) new old events payload behind waiting h d w =
    let n = heard_within side (id_of (still_allowed (lets_pass side) others) (bytes ++ [])) (still_allowed (lets_pass side) others) (bytes ++ []) others events payload new behind waiting refl h d w in
    subst (λ (x : List ℕ). length (unfinished_by new waiting) < length x) (append-nil bytes) n
line_shorter side (Heard text) new old events payload behind waiting h d w =
    let size : length behind ≡ length old = ap length (h.2 ∙ append-nil old) in
    let n : length waiting < length old = omega (arith, w, size) in
    subst (λ (i : IdReading). length (unfinished_by i waiting) < length old) (sym h.1) n
line_shorter side Failed new old events payload behind waiting h d w = absurd h

pub lends_shorter : (says : Says) (old new : Standing) (payload : List ℕ) → LendsPayload says old payload new → length (unfinished new) < length (unfinished old)
lends_shorter says old new payload h =
    let some = reads_some old.side old.state.reading h.events payload h.lent in
    let size : length h.behind ≡ length (read_bytes old.side old.state.reading h.events) + length new.waiting = ap length h.read ∙ length-append (read_bytes old.side old.state.reading h.events) new.waiting in
    let n : length new.waiting < length h.behind = omega (arith, some, size) in
    line_shorter old.side old.line new.line old.waiting h.events payload h.behind new.waiting h.line h.lent n

pub some_shorter : (says : Says) (old new : Standing) (lent : Option (List ℕ)) (payload : List ℕ) → lent ≡ Some payload → Polls says old lent new → length (unfinished new) < length (unfinished old)
some_shorter says old new lent payload is h =
    let P : Option (List ℕ) → Type 0 = λ o. Polls says old o new in
    lends_shorter says old new payload (subst P is h)
