-- An attacked side: how its transport stands behind the bytes, payloads and rekeys that it was handed so far, and what
-- its report then says.
use Rattle.std.proofs.Common.{◌≡◌, ℕ, List, [], ◌∷◌, ◌++◌, refl, sym, ◌∙◌, ap, subst, arith, Bool, true, false, Option, None, append-nil, append_assoc}
use Rattle.ssh_packet.specs.Front.{Fault, Unfinished, Refused, Whole, front_of}
use Rattle.ssh_packet.specs.Sealing.{Item}
use Rattle.ssh_wire.specs.Forms.{AreBytes}
use Rattle.ssh_wire.specs.Lines.{Id, Version, id_line, id_text}
use Rattle.ssh_wire.specs.Reading.{IdReading, Waiting, Heard, Failed}
use Rattle.ssh_wire.specs.declared.side.Side.{Side}
use Rattle.ssh_kex.specs.Setting.{Says}
use Rattle.ssh_kex.specs.declared.config.Config.{Config}
use Rattle.ssh_rules.specs.Handled.{heard_in, id_text_in, packets_in}
use Rattle.ssh_rules.specs.Log.{delivered_in, handled, read_bytes, sent_bytes, submitted_in}
use Rattle.ssh_rules.specs.Machine.{Asked, Event, ExchangeBegun, IsQuiet, SideState, Steps, first_state, IdHeard, PayloadSubmitted, AnswerSent, PayloadSent, MessageTaken, GuessDropped, PayloadDelivered, PacketDropped, ExchangeFinished}
use Rattle.ssh_rules.specs.Standing.{Acts, HearsBy, IsIdleBefore, IsNew, IsNoId, ReadsLineFrom, StandsNext, OfFault, OfMemory, OfPacket, OfVersion, RefusalCause, RefusesInput, Rekeyed, RekeyedFrom, Standing, Submitted, TakesInput, WaitsInPart, is_outside}
use Rattle.ssh_rules.proofs.turns.CallTurns.{heard_stays, no_bytes}
use Rattle.ssh_rules.proofs.any_bytes.FedLines.{LineGoes, LineSoFar, behind_more, heard_stays_so, line_ends, line_first, line_goes, version_stays}
use Rattle.ssh_rules.proofs.marks.Moved.{delivered_more, submitted_more}
use Rattle.ssh_packet.proofs.Lemmas.{front_stays_refused, front_stays_whole}
use Rattle.ssh_rules.proofs.pair.NextWhole.{nothing_refused, nothing_whole}
use Rattle.ssh_rules.proofs.side.Ran.{read_join, sent_join, steps_join}
use Rattle.ssh_rules.proofs.refusals.RefusedTurns.{at_old}
use Rattle.ssh_rules.proofs.turns.Starts.{reading_stays}

-- What it did so far, of what it was handed: `asked` is whether its last call was a rekey.
pub record LiveSide (says : Says) (side : Side) (config : Config) (log : List Event) (t : Standing) (fed : List ℕ) (accepted delivered : List (List ℕ)) (asked : Bool) : Type 0 where
  pub side_is : t.side ≡ side
  pub config_is : t.config ≡ config
  pub live : t.failed ≡ false
  pub steps : Steps says side config (id_text config.id) first_state log t.state
  pub quiet : IsQuiet config t.state
  pub output : t.output ≡ id_line config.id ++ sent_bytes side first_state.writing log
  pub none : t.delivered ≡ []
  pub delivered_is : delivered ≡ delivered_in log
  pub submitted : submitted_in log ≡ accepted
  pub line : LineGoes side fed (read_bytes side first_state.reading log) t.state.heard t.line t.waiting
  pub part : WaitsInPart t.state.reading t.waiting
  pub rekeyed : asked ≡ true → is_outside t.state.stands ≡ false
  pub bytes : AreBytes fed

-- ---- events on a side

-- what some events of it add
record Adds (says : Says) (side : Side) (config : Config) (log events : List Event) (st st' : SideState) (output output' : List ℕ) : Type 0 where
  pub steps : Steps says side config (id_text config.id) first_state (log ++ events) st'
  pub sent_is : output' ≡ id_line config.id ++ sent_bytes side first_state.writing (log ++ events)
  pub reads : read_bytes side first_state.reading (log ++ events) ≡ read_bytes side first_state.reading log ++ read_bytes side st.reading events

adds : (says : Says) (side : Side) (config : Config) (log events : List Event) (st st' : SideState) (output output' : List ℕ) → Steps says side config (id_text config.id) first_state log st → output ≡ id_line config.id ++ sent_bytes side first_state.writing log → Steps says side config (id_text config.id) st events st' → output' ≡ output ++ sent_bytes side st.writing events → Adds says side config log events st st' output output'
adds says side config log events st st' output output' h o g p = record {
  steps = steps_join says side config (id_text config.id) log events first_state st st' h g;
  sent_is = p ∙ (ap (λ q. q ++ sent_bytes side st.writing events) o ∙ (append_assoc (id_line config.id) (sent_bytes side first_state.writing log) (sent_bytes side st.writing events) ∙ ap (λ q. id_line config.id ++ q) (sym (sent_join says side config (id_text config.id) log events first_state st h))));
  reads = read_join says side config (id_text config.id) log events first_state st h;
}

-- what was delivered, and taken over
pub taken_over : (log events : List Event) (before now mid : List (List ℕ)) → before ≡ delivered_in log → now ≡ [] → mid ≡ now ++ delivered_in events → before ++ mid ≡ delivered_in (log ++ events)
taken_over log events before now mid d n m = ap (λ q. q ++ mid) d ∙ (ap (λ q. delivered_in log ++ q) (m ∙ ap (λ q. q ++ delivered_in events) n) ∙ sym (delivered_more log events))

handed_more : (log events : List Event) (accepted more : List (List ℕ)) → submitted_in log ≡ accepted → submitted_in events ≡ more → submitted_in (log ++ events) ≡ accepted ++ more
handed_more log events accepted more a m = submitted_more log events ∙ (ap (λ q. q ++ submitted_in events) a ∙ ap (λ q. accepted ++ q) m)

no_asked : false ≡ true → ⊥
no_asked e = cc

-- ---- a piece that is taken

pub input_live : (says : Says) (side : Side) (config : Config) (log : List Event) (old : Standing) (fed piece : List ℕ) (accepted delivered : List (List ℕ)) (asked : Bool) (new : Standing) → AreBytes (fed ++ piece) → LiveSide says side config log old fed accepted delivered asked → (i : TakesInput says old piece new)
    → LiveSide says side config (log ++ i.events) (record new { delivered = [] }) (fed ++ piece) accepted (delivered ++ new.delivered) false
input_live says side config log old fed piece accepted delivered asked new bytes s i =
    let steps = at_old (λ x y. Steps says x y (id_text y.id) old.state i.events new.state) old.side side old.config config s.side_is s.config_is i.acts.steps in
    let out = at_old (λ x y. new.output ≡ old.output ++ sent_bytes x old.state.writing i.events) old.side side old.config config s.side_is s.config_is i.acts.output in
    let a = adds says side config log i.events old.state new.state old.output new.output s.steps s.output steps out in
    let line = at_old (λ x y. Rattle.ssh_rules.specs.Standing.ReadsLineFrom x old.line old.waiting piece i.events new.line i.behind) old.side side old.config config s.side_is s.config_is i.line in
    let read = at_old (λ x y. i.behind ≡ read_bytes x old.state.reading i.events ++ new.waiting) old.side side old.config config s.side_is s.config_is i.read in
    let g = line_goes says side config (id_text config.id) fed piece (read_bytes side first_state.reading log) old.waiting old.line new.line i.events i.behind old.state new.state s.line steps line in
    record {
      side_is = i.acts.side ∙ s.side_is;
      config_is = i.acts.config ∙ s.config_is;
      live = i.acts.live;
      steps = a.steps;
      quiet = subst (λ c. IsQuiet c new.state) (i.acts.config ∙ s.config_is) i.acts.quiet;
      output = a.sent_is;
      none = refl;
      delivered_is = taken_over log i.events delivered old.delivered new.delivered s.delivered_is s.none i.acts.delivered;
      submitted = handed_more log i.events accepted [] s.submitted i.input.0 ∙ append-nil accepted;
      line = record {
        line_is = g.line_is;
        read = g.read ∙ (ap (λ q. read_bytes side first_state.reading log ++ q) read ∙ (sym (append_assoc (read_bytes side first_state.reading log) (read_bytes side old.state.reading i.events) new.waiting) ∙ ap (λ q. q ++ new.waiting) (sym a.reads)));
        heard_as = g.heard_as;
      };
      part = i.part;
      rekeyed = λ e. absurd (no_asked e);
      bytes = bytes;
    }

-- ---- a payload, a rekey

cons_nil : {A : Type 0} (x : A) (xs : List A) → x ∷ xs ≡ [] → ⊥
cons_nil x xs e = cc

-- nothing is delivered where nothing is read
pub none_delivered : (es : List Event) → handled es ≡ [] → delivered_in es ≡ []
none_delivered [] e = refl
none_delivered (IdHeard id ∷ es) e = none_delivered es e
none_delivered (PayloadSubmitted p ∷ es) e = none_delivered es e
none_delivered (ExchangeBegun cause i ∷ es) e = none_delivered es e
none_delivered (AnswerSent i r ∷ es) e = none_delivered es e
none_delivered (PayloadSent i ∷ es) e = none_delivered es e
none_delivered (MessageTaken i ∷ es) e = absurd (cons_nil i (handled es) e)
none_delivered (GuessDropped i ∷ es) e = absurd (cons_nil i (handled es) e)
none_delivered (PayloadDelivered i ∷ es) e = absurd (cons_nil i (handled es) e)
none_delivered (PacketDropped i ∷ es) e = absurd (cons_nil i (handled es) e)
none_delivered (ExchangeFinished i x ∷ es) e = absurd (cons_nil i (handled es) e)

-- what a call that reads nothing leaves
record Reads0 (says : Says) (old : Standing) (events : List Event) (new : Standing) : Type 0 where
  pub acts : Acts says old events new
  pub none_read : handled events ≡ []
  pub heard : new.state.heard ≡ old.state.heard
  pub line : new.line ≡ old.line
  pub waiting : new.waiting ≡ old.waiting

still_live : (says : Says) (side : Side) (config : Config) (log events : List Event) (old : Standing) (fed : List ℕ) (accepted more delivered : List (List ℕ)) (asked now : Bool) (new : Standing) → LiveSide says side config log old fed accepted delivered asked → Reads0 says old events new → submitted_in events ≡ more → (now ≡ true → is_outside new.state.stands ≡ false)
    → LiveSide says side config (log ++ events) new fed (accepted ++ more) delivered now
still_live says side config log events old fed accepted more delivered asked now new s i one rekeyed =
    let steps = at_old (λ x y. Steps says x y (id_text y.id) old.state events new.state) old.side side old.config config s.side_is s.config_is i.acts.steps in
    let out = at_old (λ x y. new.output ≡ old.output ++ sent_bytes x old.state.writing events) old.side side old.config config s.side_is s.config_is i.acts.output in
    let a = adds says side config log events old.state new.state old.output new.output s.steps s.output steps out in
    let none = none_delivered events i.none_read in
    let same : read_bytes side first_state.reading (log ++ events) ≡ read_bytes side first_state.reading log = a.reads ∙ (ap (λ q. read_bytes side first_state.reading log ++ q) (no_bytes side old.state.reading events i.none_read) ∙ append-nil (read_bytes side first_state.reading log)) in
    record {
      side_is = i.acts.side ∙ s.side_is;
      config_is = i.acts.config ∙ s.config_is;
      live = i.acts.live;
      steps = a.steps;
      quiet = subst (λ c. IsQuiet c new.state) (i.acts.config ∙ s.config_is) i.acts.quiet;
      output = a.sent_is;
      none = i.acts.delivered ∙ (ap (λ q. q ++ delivered_in events) s.none ∙ none);
      delivered_is = s.delivered_is ∙ (sym (append-nil (delivered_in log)) ∙ (ap (λ q. delivered_in log ++ q) (sym none) ∙ sym (delivered_more log events)));
      submitted = handed_more log events accepted more s.submitted one;
      line = record {
        line_is = subst (λ l. LineSoFar side fed l) (sym i.line) s.line.line_is;
        read = s.line.read ∙ (ap (λ q. q ++ old.waiting) (sym same) ∙ ap (λ q. read_bytes side first_state.reading (log ++ events) ++ q) (sym i.waiting));
        heard_as = i.heard ∙ s.line.heard_as;
      };
      part = ap (λ (q : Rattle.ssh_rules.specs.Machine.Spot). front_of q.sealing q.number new.waiting) (reading_stays says side config (id_text config.id) events old.state new.state i.none_read steps) ∙ (ap (λ u. front_of old.state.reading.sealing old.state.reading.number u) i.waiting ∙ s.part);
      rekeyed = rekeyed;
      bytes = s.bytes;
    }

pub submit_live : (says : Says) (side : Side) (config : Config) (log : List Event) (old : Standing) (fed payload : List ℕ) (accepted delivered : List (List ℕ)) (asked : Bool) (new : Standing) → LiveSide says side config log old fed accepted delivered asked → (i : Submitted says old payload new)
    → LiveSide says side config (log ++ i.events) new fed (accepted ++ payload ∷ []) delivered false
submit_live says side config log old fed payload accepted delivered asked new s i =
    let heard = heard_stays says old.side old.config (id_text old.config.id) i.events old.state new.state i.silent i.acts.steps in
    still_live says side config log i.events old fed accepted (payload ∷ []) delivered asked false new s (record { acts = i.acts; none_read = i.none_read; heard = heard; line = i.line; waiting = i.waiting }) i.one (λ e. absurd (no_asked e))

-- behind a rekey the side is inside an exchange; inside one nothing changed
pub rekey_live : (says : Says) (side : Side) (config : Config) (log : List Event) (old : Standing) (fed : List ℕ) (accepted delivered : List (List ℕ)) (asked : Bool) (new : Standing) → LiveSide says side config log old fed accepted delivered asked → Rekeyed says old new → (more : List Event) × LiveSide says side config (log ++ more) new fed accepted delivered true
rekey_live says side config log old fed accepted delivered asked new s r = by (is_outside old.state.stands) refl r where
  by : (b : Bool) → is_outside old.state.stands ≡ b → RekeyedFrom b says old new → (more : List Event) × LiveSide says side config (log ++ more) new fed accepted delivered true
  by true e i =
      let events = ExchangeBegun Asked i.item ∷ [] in
      let step = i.acts.steps in
      let becomes = step.2 ∙ step.1.becomes in
      let heard : new.state.heard ≡ old.state.heard = ap (λ (q : SideState). q.heard) becomes in
      let stands : is_outside new.state.stands ≡ false = ap (λ (q : SideState). is_outside q.stands) becomes in
      let l = still_live says side config log (ExchangeBegun Asked i.item ∷ []) old fed accepted [] delivered asked true new s (record { acts = i.acts; none_read = refl; heard = heard; line = i.line; waiting = i.waiting }) refl (λ f. stands) in
      (ExchangeBegun Asked i.item ∷ [], subst (λ a. LiveSide says side config (log ++ ExchangeBegun Asked i.item ∷ []) new fed a delivered true) (append-nil accepted) l)
  by false e i =
      let same : LiveSide says side config log new fed accepted delivered true = subst (λ t. LiveSide says side config log t fed accepted delivered true) (sym i) (record {
        side_is = s.side_is;
        config_is = s.config_is;
        live = s.live;
        steps = s.steps;
        quiet = s.quiet;
        output = s.output;
        none = s.none;
        delivered_is = s.delivered_is;
        submitted = s.submitted;
        line = s.line;
        part = s.part;
        rekeyed = λ f. e;
        bytes = s.bytes;
      }) in
      ([], subst (λ l. LiveSide says side config l new fed accepted delivered true) (sym (append-nil log)) same)

-- ---- a side at its start

append_nil_left : (xs : List ℕ) → xs ≡ xs ++ []
append_nil_left xs = sym (append-nil xs)

no_waiting : WaitsInPart first_state.reading []
unfolding front_of
no_waiting = refl

quiet_first : (config : Config) → IsQuiet config first_state
quiet_first config = record {
  owes = refl;
  not_called = refl;
  silent = λ e. refl;
  sent = λ e. refl;
  below_write = λ e. absurd (let z : Rattle.ssh_rules.specs.Machine.Silent ≡ Rattle.ssh_rules.specs.Machine.Outside = e in cc);
  below_read = λ e. absurd (let z : Rattle.ssh_rules.specs.Machine.Silent ≡ Rattle.ssh_rules.specs.Machine.Outside = e in cc);
}

no_bytes_fed : AreBytes []
no_bytes_fed i = omega arith

pub live_first : (says : Says) (side : Side) (config : Config) (t : Standing) → IsNew side config t → LiveSide says side config [] t [] [] [] false
live_first says side config t n = subst (λ x. LiveSide says side config [] x [] [] [] false) (sym n) (record {
  side_is = refl;
  config_is = refl;
  live = refl;
  steps = refl;
  quiet = quiet_first config;
  output = append_nil_left (id_line config.id);
  none = refl;
  delivered_is = refl;
  submitted = refl;
  line = record { line_is = line_first side; read = first_behind side; heard_as = first_heard side };
  part = no_waiting;
  rekeyed = λ e. absurd (no_asked e);
  bytes = no_bytes_fed;
}) where
  first_behind : (side : Side) → packets_in (heard_in side []) [] ≡ [] ++ []
  first_behind Rattle.ssh_wire.specs.declared.side.Side.TheVariants.Client = refl
  first_behind Rattle.ssh_wire.specs.declared.side.Side.TheVariants.Server = refl

  first_heard : (side : Side) → None ≡ id_text_in (heard_in side [])
  first_heard Rattle.ssh_wire.specs.declared.side.Side.TheVariants.Client = refl
  first_heard Rattle.ssh_wire.specs.declared.side.Side.TheVariants.Server = refl

-- ---- a side that was refused

-- What was refused stands next of the bytes behind the line that it handled.
abbrev pub RefusedNext : RefusalCause → Side → List ℕ → SideState → (left : List ℕ) → Type 0
RefusedNext (OfFault fault) side fed at left = ((text : List ℕ) × (end : ℕ) × (heard_in side fed ≡ Id text end)) × (front_of at.reading.sealing at.reading.number left ≡ Refused fault)
RefusedNext (OfPacket i) side fed at left = ((text : List ℕ) × (end : ℕ) × (heard_in side fed ≡ Id text end)) × ((rest : List ℕ) × (front_of at.reading.sealing at.reading.number left ≡ Whole i rest))
RefusedNext OfVersion side fed at left = (heard_in side fed ≡ Version) × (front_of at.reading.sealing at.reading.number left ≡ Unfinished)
RefusedNext OfMemory side fed at left = ⊥

pub record FailedSide (says : Says) (side : Side) (config : Config) (log : List Event) (at : SideState) (cause : RefusalCause) (t : Standing) (fed : List ℕ) (accepted delivered : List (List ℕ)) : Type 0 where
  pub failed : t.failed ≡ true
  pub steps : Steps says side config (id_text config.id) first_state log at
  pub output : t.output ≡ id_line config.id ++ sent_bytes side first_state.writing log
  pub delivered_is : delivered ≡ delivered_in log
  pub submitted : submitted_in log ≡ accepted
  pub records : t.state.records ≡ at.records
  pub idle : IsIdleBefore cause config at
  pub heard : at.heard ≡ id_text_in (heard_in side fed)
  pub left : List ℕ
  pub read : packets_in (heard_in side fed) fed ≡ read_bytes side first_state.reading log ++ left
  pub next : RefusedNext cause side fed at left
  pub bytes : AreBytes fed

-- ---- a piece that is refused

found_in : (cause : RefusalCause) (side : Side) (fed done left behind rest : List ℕ) (line : IdReading) (heard : Option (List ℕ)) → LineGoes side fed done heard line behind → behind ≡ rest ++ left → (left ≡ [] → ⊥) → (text : List ℕ) × (end : ℕ) × (heard_in side fed ≡ Id text end)
found_in cause side fed done left behind rest (Waiting bytes others) heard g r some = absurd (some (rest_nil rest left (sym (behind_nil done behind (ap (λ f. packets_in f fed) (sym g.line_is.0) ∙ g.read)) ∙ r))) where
  behind_nil : (a b : List ℕ) → [] ≡ a ++ b → b ≡ []
  behind_nil [] b e = sym e
  behind_nil (x ∷ a) b e = cc

  rest_nil : (a b : List ℕ) → [] ≡ a ++ b → b ≡ []
  rest_nil [] b e = sym e
  rest_nil (x ∷ a) b e = cc
found_in cause side fed done left behind rest (Heard text) heard g r some = (text, g.line_is.0, g.line_is.1)
found_in cause side fed done left behind rest Failed heard g r some = absurd g.line_is

some_fault : (at : SideState) (left : List ℕ) (fault : Fault) → front_of at.reading.sealing at.reading.number left ≡ Refused fault → left ≡ [] → ⊥
some_fault at left fault e n = nothing_refused at.reading.sealing at.reading.number fault (ap (front_of at.reading.sealing at.reading.number) (sym n) ∙ e)

some_packet : (at : SideState) (left rest : List ℕ) (i : Item) → front_of at.reading.sealing at.reading.number left ≡ Whole i rest → left ≡ [] → ⊥
some_packet at left rest i e n = nothing_whole at.reading.sealing at.reading.number i rest (ap (front_of at.reading.sealing at.reading.number) (sym n) ∙ e)

-- what was heard, by the cause, where memory wasn't wanting
abbrev HearsAt : RefusalCause → Side → IdReading → (waiting piece : List ℕ) → List Event → IdReading → List ℕ → Type 0
HearsAt OfVersion side line waiting piece events line' behind = IsNoId side line piece events
HearsAt OfMemory side line waiting piece events line' behind = ⊥
HearsAt (OfFault fault) side line waiting piece events line' behind = ReadsLineFrom side line waiting piece events line' behind
HearsAt (OfPacket i) side line waiting piece events line' behind = ReadsLineFrom side line waiting piece events line' behind

hears_at : (cause : RefusalCause) (old : Standing) (piece : List ℕ) (events : List Event) (line : IdReading) (behind : List ℕ) → HearsBy cause old piece events line behind → (cause ≡ OfMemory → ⊥) → HearsAt cause old.side old.line old.waiting piece events line behind
hears_at (OfFault fault) old piece events line behind h not = h
hears_at (OfPacket i) old piece events line behind h not = h
hears_at OfVersion old piece events line behind h not = h
hears_at OfMemory old piece events line behind h not = absurd (not refl)

-- where it stood, by the cause
record StandsBy (side : Side) (fed done : List ℕ) (cause : RefusalCause) (at : SideState) : Type 0 where
  pub heard : at.heard ≡ id_text_in (heard_in side fed)
  pub left : List ℕ
  pub read : packets_in (heard_in side fed) fed ≡ done ++ left
  pub next : RefusedNext cause side fed at left

stands_by : (says : Says) (side : Side) (config : Config) (fed piece : List ℕ) (done : List ℕ) (line line' : IdReading) (waiting behind left : List ℕ) (events : List Event) (st at : SideState) (cause : RefusalCause)
    → LineGoes side fed done st.heard line waiting → WaitsInPart st.reading waiting → Steps says side config (id_text config.id) st events at
    → HearsAt cause side line waiting piece events line' behind → behind ≡ read_bytes side st.reading events ++ left → StandsNext cause at left → (cause ≡ OfMemory → ⊥)
    → StandsBy side (fed ++ piece) (done ++ read_bytes side st.reading events) cause at
stands_by says side config fed piece done line line' waiting behind left events st at (OfFault fault) g part steps hears read next not =
    let w = line_goes says side config (id_text config.id) fed piece done waiting line line' events behind st at g steps hears in
    record {
      heard = w.heard_as;
      left = left;
      read = w.read ∙ (ap (λ q. done ++ q) read ∙ sym (append_assoc done (read_bytes side st.reading events) left));
      next = (found_in (OfFault fault) side (fed ++ piece) done left behind (read_bytes side st.reading events) line' at.heard w read (some_fault at left fault next), next);
    }
stands_by says side config fed piece done line line' waiting behind left events st at (OfPacket i) g part steps hears read next not =
    let w = line_goes says side config (id_text config.id) fed piece done waiting line line' events behind st at g steps hears in
    record {
      heard = w.heard_as;
      left = left;
      read = w.read ∙ (ap (λ q. done ++ q) read ∙ sym (append_assoc done (read_bytes side st.reading events) left));
      next = (found_in (OfPacket i) side (fed ++ piece) done left behind (read_bytes side st.reading events) line' at.heard w read (some_packet at left next.0 i next.1), next);
    }
stands_by says side config fed piece done line line' waiting behind left events st at OfVersion g part steps hears read next not =
    let w = line_ends side fed piece done waiting line events st.heard g hears in
    let same : at ≡ st = subst (λ es. Steps says side config (id_text config.id) st es at) w.3 steps in
    let nothing : done ++ read_bytes side st.reading events ≡ [] = ap (λ q. q ++ read_bytes side st.reading events) w.1 ∙ ap (read_bytes side st.reading) w.3 in
    record {
      heard = ap (λ (q : SideState). q.heard) same ∙ (w.4 ∙ ap id_text_in (sym w.0));
      left = [];
      read = ap (λ f. packets_in f (fed ++ piece)) w.0 ∙ (ap (λ q. q ++ []) (sym nothing));
      next = (w.0, ap (λ (q : SideState). front_of q.reading.sealing q.reading.number []) same ∙ (ap (λ q. front_of st.reading.sealing st.reading.number q) (sym w.2) ∙ part));
    }
stands_by says side config fed piece done line line' waiting behind left events st at OfMemory g part steps hears read next not = absurd (not refl)

pub refused_fails : (says : Says) (side : Side) (config : Config) (log : List Event) (old : Standing) (fed piece : List ℕ) (accepted delivered : List (List ℕ)) (asked : Bool) (cause : RefusalCause) (new : Standing) → AreBytes (fed ++ piece) → LiveSide says side config log old fed accepted delivered asked → (i : RefusesInput says old piece cause new) → (cause ≡ OfMemory → ⊥)
    → FailedSide says side config (log ++ i.events) i.at cause (record new { delivered = [] }) (fed ++ piece) accepted (delivered ++ new.delivered)
refused_fails says side config log old fed piece accepted delivered asked cause new bytes s i not =
    let steps = at_old (λ x y. Steps says x y (id_text y.id) old.state i.events i.at) old.side side old.config config s.side_is s.config_is i.steps in
    let out = at_old (λ x y. new.output ≡ old.output ++ sent_bytes x old.state.writing i.events) old.side side old.config config s.side_is s.config_is i.output in
    let a = adds says side config log i.events old.state i.at old.output new.output s.steps s.output steps out in
    let read = at_old (λ x y. i.behind ≡ read_bytes x old.state.reading i.events ++ i.left) old.side side old.config config s.side_is s.config_is i.read in
    let hears = subst (λ x. HearsAt cause x old.line old.waiting piece i.events i.line i.behind) s.side_is (hears_at cause old piece i.events i.line i.behind i.heard not) in
    let b = stands_by says side config fed piece (read_bytes side first_state.reading log) old.line i.line old.waiting i.behind i.left i.events old.state i.at cause s.line s.part steps hears read i.next not in
    record {
      failed = i.failed;
      steps = a.steps;
      output = a.sent_is;
      delivered_is = taken_over log i.events delivered old.delivered new.delivered s.delivered_is s.none i.delivered;
      submitted = handed_more log i.events accepted [] s.submitted i.input.0 ∙ append-nil accepted;
      records = i.records;
      idle = subst (λ c. IsIdleBefore cause c i.at) (i.config ∙ s.config_is) i.done;
      heard = b.heard;
      left = b.left;
      read = b.read ∙ ap (λ q. q ++ b.left) (sym a.reads);
      next = b.next;
      bytes = bytes;
    }

-- more bytes change nothing
pub failed_more : (says : Says) (side : Side) (config : Config) (log : List Event) (at : SideState) (cause : RefusalCause) (t : Standing) (fed more : List ℕ) (accepted delivered : List (List ℕ)) → AreBytes (fed ++ more) → FailedSide says side config log at cause t fed accepted delivered → FailedSide says side config log at cause t (fed ++ more) accepted delivered
failed_more says side config log at cause t fed more accepted delivered bytes f =
    let b = on cause f.left f.heard f.read f.next in
    record {
      failed = f.failed;
      steps = f.steps;
      output = f.output;
      delivered_is = f.delivered_is;
      submitted = f.submitted;
      records = f.records;
      idle = f.idle;
      heard = b.heard;
      left = b.left;
      read = b.read;
      next = b.next;
      bytes = bytes;
    }
  where
    done : List ℕ
    done = read_bytes side first_state.reading log

    on : (cause : RefusalCause) (left : List ℕ) → at.heard ≡ id_text_in (heard_in side fed) → packets_in (heard_in side fed) fed ≡ done ++ left → RefusedNext cause side fed at left → StandsBy side (fed ++ more) done cause at
    on (OfFault fault) left h r n =
        let on_line = heard_stays_so side fed more n.0.0 n.0.1 n.0.2 in
        record {
          heard = h ∙ (ap id_text_in n.0.2 ∙ ap id_text_in (sym on_line));
          left = left ++ more;
          read = behind_more side fed more n.0.0 n.0.1 n.0.2 ∙ (ap (λ q. q ++ more) r ∙ append_assoc done left more);
          next = ((n.0.0, n.0.1, on_line), front_stays_refused at.reading.sealing at.reading.number left more fault n.1);
        }
    on (OfPacket i) left h r n =
        let on_line = heard_stays_so side fed more n.0.0 n.0.1 n.0.2 in
        record {
          heard = h ∙ (ap id_text_in n.0.2 ∙ ap id_text_in (sym on_line));
          left = left ++ more;
          read = behind_more side fed more n.0.0 n.0.1 n.0.2 ∙ (ap (λ q. q ++ more) r ∙ append_assoc done left more);
          next = ((n.0.0, n.0.1, on_line), (n.1.0 ++ more, front_stays_whole at.reading.sealing at.reading.number left more n.1.0 i n.1.1));
        }
    on OfVersion left h r n =
        let on_line = version_stays side fed more n.0 in
        record {
          heard = h ∙ (ap id_text_in n.0 ∙ ap id_text_in (sym on_line));
          left = left;
          read = ap (λ f. packets_in f (fed ++ more)) on_line ∙ (ap (λ f. packets_in f fed) (sym n.0) ∙ r);
          next = (on_line, n.1);
        }
    on OfMemory left h r n = absurd n
