-- Calls on a transport join: what they lead to, and that its parts answered.
use Rattle.std.proofs.Common.{◌≡◌, ◌∙◌, ℕ, true, false, Bool, List, [], ◌++◌, refl, sym, ap, subst, append_assoc, append-nil}
use Rattle.ssh_wire.specs.Lines.{id_line, id_text}
use Rattle.ssh_wire.specs.declared.side.Side.{Side}
use Rattle.ssh_kex.specs.Setting.{Says}
use Rattle.ssh_kex.specs.declared.config.Config.{Config}
use Rattle.ssh_kex.specs.declared.exchange.FinishedExchange.{FinishedExchange}
use Rattle.ssh_rules.specs.Answering.{AnswersAll, HasAnswered, PartTests}
use Rattle.ssh_rules.specs.Log.{sent_bytes}
use Rattle.ssh_rules.specs.Machine.{Event, IsQuiet, SideState, Steps, first_state}
use Rattle.ssh_rules.specs.Standing.{Acts, IsNew, Rekeyed, RekeyedFrom, Standing, Submitted, TakesInput, is_outside, nothing_said}
use Rattle.ssh_rules.proofs.Lemmas.{answers_join, answers_same, sent_join, steps_join}
use Rattle.ssh_transport.specs.Coming.{ComesAnswered}
use Rattle.ssh_transport.proofs.Answered.{answers_rekeyed, answers_submitted}
use Rattle.ssh_transport.proofs.Weaker.{Weaker, steps_weaker}

-- ---- one call

all_said : (a : Says) → Weaker a nothing_said
all_said a = record {
  agrees = λ n q c v x h. tt;
  client_makes = λ n q l c h. tt;
  server_makes = λ n q c v h. tt;
  reply = λ n q l c v x f h. tt;
  finds = λ sizes q h. tt;
  signs = λ host hash signature h. tt;
  accepts = λ host hash signature h. tt;
  trusts = λ host h. tt;
  offers = λ n h. tt;
}

comes_acts : (says : Says) (old new : Standing) (events : List Event) (t t' : PartTests) → Acts says old events new
    → AnswersAll old.side old.state new.state t t' → ComesAnswered old new t t'
comes_acts says old new events t t' h a = record {
  side = h.side;
  config = h.config;
  events = events;
  steps = steps_weaker says nothing_said (all_said says) old.side old.config (id_text old.config.id) events old.state
      new.state h.steps;
  output = h.output;
  quiet = λ q. h.quiet;
  answers = a;
}

pub comes_still : (t : Standing) (p : PartTests) → ComesAnswered t t p p
comes_still t p = record {
  side = refl;
  config = refl;
  events = [];
  steps = refl;
  output = sym (append-nil t.output);
  quiet = λ q. q;
  answers = answers_same t.side t.state t.state p refl refl;
}

pub comes_same : (old new : Standing) (p q : PartTests) → new ≡ old → q ≡ p → ComesAnswered old new p q
comes_same old new p q e f = subst (λ (t : Standing). ComesAnswered old t p q) (sym e)
    (subst (λ (x : PartTests). ComesAnswered old old p x) (sym f) (comes_still old p))

-- a payload that was submitted
pub comes_submitted : (says : Says) (old : Standing) (payload : List ℕ) (new : Standing) (t t' : PartTests) → t' ≡ t
    → Submitted says old payload new → ComesAnswered old new t t'
comes_submitted says old payload new t t' e h = comes_acts says old new h.events t t' h.acts
    (subst (λ q. AnswersAll old.side old.state new.state t q) (sym e) (answers_submitted says old payload new t h))

-- an exchange that was asked for
pub comes_rekeyed : (says : Says) (old new : Standing) (t t' : PartTests) → t' ≡ t → Rekeyed says old new
    → ComesAnswered old new t t'
comes_rekeyed says old new t t' e h = by (is_outside old.state.stands) h where
  by : (b : Bool) → RekeyedFrom b says old new → ComesAnswered old new t t'
  by true k = comes_acts says old new _ t t' k.acts (subst (λ q. AnswersAll old.side old.state new.state t q) (sym e)
      (answers_rekeyed says old new t h))
  by false k = comes_same old new t t' k e

-- bytes that were taken, whose payloads were taken over
pub comes_fed : (says : Says) (old fed new : Standing) (piece : List ℕ) (t t' : PartTests)
    → new ≡ record fed { delivered = [] } → TakesInput says old piece fed → AnswersAll old.side old.state fed.state t t'
    → ComesAnswered old new t t'
comes_fed says old fed new piece t t' e h a = subst (λ (x : Standing). ComesAnswered old x t t') (sym e) (
    let k = comes_acts says old fed h.events t t' h.acts a in
    record {
      side = k.side;
      config = k.config;
      events = k.events;
      steps = k.steps;
      output = k.output;
      quiet = k.quiet;
      answers = k.answers;
    }
    )

-- ---- one after the other

pub comes_join : (a b c : Standing) (p q r : PartTests) → ComesAnswered a b p q → ComesAnswered b c q r
    → ComesAnswered a c p r
comes_join a b c p q r h k =
    let own = id_text a.config.id in
    let steps : Steps nothing_said a.side a.config own b.state k.events c.state =
    subst (λ (s : Side). Steps nothing_said s a.config own b.state k.events c.state) h.side
    (subst (λ (x : Config). Steps nothing_said b.side x (id_text x.id) b.state k.events c.state) h.config k.steps)
    in
    let sent : c.output ≡ b.output ++ sent_bytes a.side b.state.writing k.events = subst
    (λ (s : Side). c.output ≡ b.output ++ sent_bytes s b.state.writing k.events) h.side k.output in
    record {
      side = k.side ∙ h.side;
      config = k.config ∙ h.config;
      events = h.events ++ k.events;
      steps = steps_join nothing_said a.side a.config own h.events k.events a.state b.state c.state h.steps steps;
      output =
          sent ∙ ap (λ o. o ++ sent_bytes a.side b.state.writing k.events) h.output
          ∙ append_assoc a.output (sent_bytes a.side a.state.writing h.events)
          (sent_bytes a.side b.state.writing k.events)
          ∙ ap (λ o. a.output ++ o) (sym (sent_join nothing_said a.side a.config own h.events k.events a.state b.state
          h.steps));
      quiet = λ n. k.quiet (h.quiet n);
      answers = answers_join a.side a.state b.state c.state p q r h.answers
          (subst (λ (s : Side). AnswersAll s b.state c.state q r) h.side k.answers);
    }

-- ---- from a new transport on

first_quiet : (config : Config) → IsQuiet config first_state
first_quiet config = record {
  owes = refl;
  not_called = refl;
  silent = λ s. refl;
  sent = λ o.
      (let x : Rattle.ssh_rules.specs.Machine.Silent ≡ Rattle.ssh_rules.specs.Machine.Outside = o in cc);
  below_write =
      λ o. (let x : Rattle.ssh_rules.specs.Machine.Silent ≡ Rattle.ssh_rules.specs.Machine.Outside = o in cc);
  below_read
      = λ o. (let x : Rattle.ssh_rules.specs.Machine.Silent ≡ Rattle.ssh_rules.specs.Machine.Outside = o in cc);
}

pub answered_new : (side : Side) (config : Config) (first old new : Standing) (wire : List ℕ)
    (exchanges : List FinishedExchange) (t t' : PartTests) → IsNew side config first → old ≡ first
    → ComesAnswered old new t t' → wire ≡ new.output → exchanges ≡ new.state.records
    → HasAnswered side config wire exchanges t t'
answered_new side config first old new wire exchanges t t' n e h w r = by (e ∙ n) h where
  start : Standing
  start = record {
    side = side;
    config = config;
    state = first_state;
    line = Rattle.ssh_wire.specs.Reading.Waiting [] 0;
    output = id_line config.id;
    waiting = [];
    delivered = [];
    failed = false;
  }

  by : old ≡ start → ComesAnswered old new t t' → HasAnswered side config wire exchanges t t'
  by i k =
      let c : ComesAnswered start new t t' = subst (λ (x : Standing). ComesAnswered x new t t') i k in
      record {
        ends = new.state;
        came = record {
          events = c.events;
          steps = c.steps;
          sent = w
              ∙ c.output;
          quiet = subst (λ (x : Config). IsQuiet x new.state) c.config (c.quiet (first_quiet config));
        };
        records = sym r;
        answers = c.answers;
      }
