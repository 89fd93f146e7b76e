-- How often the parts of a side answer: message by message, and over events that read nothing.
use Rattle.std.proofs.Common.{◌≡◌, ℕ, ◌+◌, ◌*◌, if◌then◌else◌, Bool, true, false, List, [], ◌∷◌, length, refl, sym, ap, ◌∙◌, subst, arith, Option, Some, None}
use Rattle.ssh_wire.specs.declared.side.Side.{Side}
use Rattle.ssh_wire.specs.declared.side.Side.TheVariants.{Client, Server}
use Rattle.ssh_negotiate.specs.declared.negotiation.Names.{Names}
use Rattle.ssh_kex.specs.Messages.{is_gex}
use Rattle.ssh_kex.specs.Setting.{Opened, Says, Setting}
use Rattle.ssh_kex.specs.Stages.{AwaitsGroup, AwaitsNewkeys, AwaitsReply, AwaitsRequest, AwaitsValue, Created, IsStageOf, OpensBy, Stage, Takes, drops_guess, guess_dropped}
use Rattle.ssh_kex.specs.Stepping.{answers_agreement, asks_groups, asks_hosts, once_unless}
use Rattle.ssh_kex.specs.declared.config.Config.{Config}
use Rattle.ssh_kex.specs.declared.exchange.Exchange.{Exchange}
use Rattle.ssh_kex.specs.declared.exchange.FinishedExchange.{FinishedExchange}
use Rattle.ssh_kex.specs.declared.exchange.GexChosen.{GexChosen}
use Rattle.ssh_kex.specs.declared.exchange.ServerHost.{ServerHost}
use Rattle.ssh_rules.specs.Answering.{AnswersAll, PartTests, agreement_open, hosts_open, lookups_in, lookups_open}
use Rattle.ssh_rules.specs.Counting.{calls_of, group_in}
use Rattle.ssh_rules.specs.Log.{handled}
use Rattle.ssh_rules.specs.Machine.{Answering, Asked, Cause, Event, ExchangeBegun, AnswerSent, ExchangeFinished, GuessDropped, IdHeard, Inside, MayBegin, MessageTaken, Outside, PacketDropped, PayloadDelivered, PayloadSent, PayloadSubmitted, ReadLimit, SideState, Silent, Start, Step, Steps, Where, WriteLimit}
use Rattle.ssh_rules.proofs.side.Asking.{none_once}

-- ---- one message

-- what a step from a stage to the next has answered, by what each stage has answered
pub record StageAnswers (side : Side) (stage next : Stage) : Type 0 where
  pub agreement : agreement_open side (Inside next) ≡ agreement_open side (Inside stage) + answers_agreement side stage (Some next)
  pub hosts : hosts_open (Inside next) ≡ hosts_open (Inside stage) + asks_hosts stage
  pub lookups : lookups_open side (Inside next) ≡ lookups_open side (Inside stage) + asks_groups stage

by_next : (side : Side) (stage next same : Stage) → next ≡ same → StageAnswers side stage same → StageAnswers side stage next
by_next side stage next same e h = subst (λ (n : Stage). StageAnswers side stage n) (sym e) h

once_one : (dropped : Bool) → dropped ≡ false → once_unless dropped ≡ 1
once_one false e = refl
once_one true e = cc

chosen : (n : Names) (kind : Bool) → is_gex n.kex ≡ kind → group_in (Some n) ≡ (if kind then 1 else 0)
chosen n kind e = ap (λ (b : Bool). if b then 1 else 0) e

opened_answers : (says : Says) (s : Setting) (o : Opened) (side : Side) (kind : Bool) (own : List ℕ) (written : List (List ℕ)) (next : Stage) → is_gex o.names.kex ≡ kind → OpensBy side kind says s o written next → StageAnswers side (Created own) next
opened_answers says s o Client true own written next e h = by_next Client (Created own) next (AwaitsGroup o) h.next_is (record { agreement = refl; hosts = refl; lookups = refl })
opened_answers says s o Client false own written next e h = by_next Client (Created own) next (AwaitsReply o None h.local h.public) h.leads.next_is (record { agreement = refl; hosts = refl; lookups = refl })
opened_answers says s o Server true own written next e h = by_next Server (Created own) next (AwaitsRequest o) h.next_is (record { agreement = refl; hosts = refl; lookups = refl })
opened_answers says s o Server false own written next e h = by_next Server (Created own) next (AwaitsValue o None) h.next_is (record { agreement = refl; hosts = refl; lookups = (let a = chosen o.names false e in omega (arith, a)) })

group_answers : (side : Side) (o : Opened) (gex : Option GexChosen) (local public : List ℕ) → IsStageOf side (AwaitsGroup o) → o.names.ignore_guessed ≡ false → StageAnswers side (AwaitsGroup o) (AwaitsReply o gex local public)
group_answers Client o gex local public f k = record { agreement = (let a = once_one o.names.ignore_guessed k in omega (arith, a)); hosts = refl; lookups = refl }
group_answers Server o gex local public f k = absurd f

reply_answers : (side : Side) (o : Opened) (gex : Option GexChosen) (local public : List ℕ) (x : Exchange) (made : FinishedExchange) (host : Option ServerHost) → IsStageOf side (AwaitsReply o gex local public) → o.names.ignore_guessed ≡ false → StageAnswers side (AwaitsReply o gex local public) (AwaitsNewkeys x made host)
reply_answers Client o gex local public x made host f k = let a = once_one o.names.ignore_guessed k in record { agreement = omega (arith, a); hosts = omega (arith, a); lookups = refl }
reply_answers Server o gex local public x made host f k = absurd f

request_answers : (side : Side) (o : Opened) (gex : Option GexChosen) → IsStageOf side (AwaitsRequest o) → o.names.ignore_guessed ≡ false → StageAnswers side (AwaitsRequest o) (AwaitsValue o gex)
request_answers Client o gex f k = absurd f
request_answers Server o gex f k = let a = once_one o.names.ignore_guessed k in let b = chosen o.names true f in record { agreement = refl; hosts = refl; lookups = omega (arith, a, b) }

value_answers : (side : Side) (o : Opened) (gex : Option GexChosen) (x : Exchange) (made : FinishedExchange) (host : Option ServerHost) → made.names ≡ o.names → IsStageOf side (AwaitsValue o gex) → o.names.ignore_guessed ≡ false → StageAnswers side (AwaitsValue o gex) (AwaitsNewkeys x made host)
value_answers Client o gex x made host e f k = absurd f
value_answers Server o gex x made host e f k = let a = once_one o.names.ignore_guessed k in let b = ap (λ (n : Names). group_in (Some n)) e in record { agreement = omega (arith, a); hosts = omega (arith, a); lookups = omega (arith, b) }

-- a message that is taken
pub taken_answers : (says : Says) (s : Setting) (stage : Stage) (seqn : ℕ) (payload : List ℕ) (written : List (List ℕ)) (next : Stage) → IsStageOf s.side stage → drops_guess stage ≡ false → Takes says s stage seqn payload written next → StageAnswers s.side stage next
taken_answers says s (Created own) seqn payload written next f k h = opened_answers says s _ s.side (is_gex h.names.kex) own written next refl h.opens
taken_answers says s (AwaitsGroup o) seqn payload written next f k h = by_next s.side _ next _ h.leads.next_is (group_answers s.side o _ _ _ f k)
taken_answers says s (AwaitsReply o gex local public) seqn payload written next f k h = by_next s.side _ next _ h.leads.next_is (reply_answers s.side o gex local public _ _ _ f k)
taken_answers says s (AwaitsRequest o) seqn payload written next f k h = by_next s.side _ next _ h.leads.next_is (request_answers s.side o _ f k)
taken_answers says s (AwaitsValue o gex) seqn payload written next f k h = by_next s.side _ next _ h.leads.next_is (value_answers s.side o gex _ _ _ refl f k)
taken_answers says s (AwaitsNewkeys exchange made host) seqn payload written next f k h = absurd h

-- a wrong guess, of which nothing is asked
pub dropped_answers : (side : Side) (stage : Stage) → drops_guess stage ≡ true → StageAnswers side stage (guess_dropped stage)
dropped_answers side (Created own) d = cc
dropped_answers side (AwaitsGroup o) d = by side where
  a : once_unless o.names.ignore_guessed ≡ 0
  a = none_once o.names.ignore_guessed d

  by : (side : Side) → StageAnswers side (AwaitsGroup o) (guess_dropped (AwaitsGroup o))
  by Client = record { agreement = omega (arith, a); hosts = refl; lookups = refl }
  by Server = record { agreement = omega (arith, a); hosts = refl; lookups = refl }
dropped_answers side (AwaitsReply o gex local public) d = by side where
  a : once_unless o.names.ignore_guessed ≡ 0
  a = none_once o.names.ignore_guessed d

  by : (side : Side) → StageAnswers side (AwaitsReply o gex local public) (guess_dropped (AwaitsReply o gex local public))
  by Client = record { agreement = omega (arith, a); hosts = omega (arith, a); lookups = refl }
  by Server = record { agreement = omega (arith, a); hosts = omega (arith, a); lookups = refl }
dropped_answers side (AwaitsRequest o) d = by side where
  a : once_unless o.names.ignore_guessed ≡ 0
  a = none_once o.names.ignore_guessed d

  by : (side : Side) → StageAnswers side (AwaitsRequest o) (guess_dropped (AwaitsRequest o))
  by Client = record { agreement = refl; hosts = refl; lookups = omega (arith, a) }
  by Server = record { agreement = refl; hosts = refl; lookups = omega (arith, a) }
dropped_answers side (AwaitsValue o gex) d = by side where
  a : once_unless o.names.ignore_guessed ≡ 0
  a = none_once o.names.ignore_guessed d

  by : (side : Side) → StageAnswers side (AwaitsValue o gex) (guess_dropped (AwaitsValue o gex))
  by Client = record { agreement = omega (arith, a); hosts = omega (arith, a); lookups = refl }
  by Server = record { agreement = omega (arith, a); hosts = omega (arith, a); lookups = omega arith }
dropped_answers side (AwaitsNewkeys exchange made host) d = cc

-- ---- events that read nothing

-- what was answered stays
record StandsStill (side : Side) (st st' : SideState) : Type 0 where
  records : st'.records ≡ st.records
  agreement : agreement_open side st'.stands ≡ agreement_open side st.stands
  hosts : hosts_open st'.stands ≡ hosts_open st.stands
  lookups : lookups_open side st'.stands ≡ lookups_open side st.stands

still : (side : Side) (st st' : SideState) → st'.records ≡ st.records → st'.stands ≡ st.stands → StandsStill side st st'
still side st st' e f = record { records = e; agreement = ap (agreement_open side) f; hosts = ap hosts_open f; lookups = ap (lookups_open side) f }

-- outside an exchange none of it was answered
nothing_open : (side : Side) (w : Where) (own : List ℕ) → (agreement_open side w ≡ 0) × (hosts_open w ≡ 0) × (lookups_open side w ≡ 0) → (agreement_open side (Inside (Created own)) ≡ agreement_open side w) × (hosts_open (Inside (Created own)) ≡ hosts_open w) × (lookups_open side (Inside (Created own)) ≡ lookups_open side w)
nothing_open Client w own h = (sym h.0, sym h.1, refl)
nothing_open Server w own h = (sym h.0, sym h.1, sym h.2)

silent_open : (side : Side) → (agreement_open side Silent ≡ 0) × (hosts_open Silent ≡ 0) × (lookups_open side Silent ≡ 0)
silent_open Client = (refl, refl, refl)
silent_open Server = (refl, refl, refl)

outside_open : (side : Side) → (agreement_open side Outside ≡ 0) × (hosts_open Outside ≡ 0) × (lookups_open side Outside ≡ 0)
outside_open Client = (refl, refl, refl)
outside_open Server = (refl, refl, refl)

begins_open : (side : Side) (config : Config) (st : SideState) (cause : Cause) → MayBegin config st cause → (agreement_open side st.stands ≡ 0) × (hosts_open st.stands ≡ 0) × (lookups_open side st.stands ≡ 0)
begins_open side config st Start h = subst (λ (w : Where). (agreement_open side w ≡ 0) × (hosts_open w ≡ 0) × (lookups_open side w ≡ 0)) (sym h.0) (silent_open side)
begins_open side config st Asked h = subst (λ (w : Where). (agreement_open side w ≡ 0) × (hosts_open w ≡ 0) × (lookups_open side w ≡ 0)) (sym h) (outside_open side)
begins_open side config st Answering h = subst (λ (w : Where). (agreement_open side w ≡ 0) × (hosts_open w ≡ 0) × (lookups_open side w ≡ 0)) (sym h) (outside_open side)
begins_open side config st WriteLimit h = subst (λ (w : Where). (agreement_open side w ≡ 0) × (hosts_open w ≡ 0) × (lookups_open side w ≡ 0)) (sym h.0) (outside_open side)
begins_open side config st ReadLimit h = subst (λ (w : Where). (agreement_open side w ≡ 0) × (hosts_open w ≡ 0) × (lookups_open side w ≡ 0)) (sym h.0) (outside_open side)

event_still : (says : Says) (side : Side) (config : Config) (own_id : List ℕ) (st : SideState) (e : Event) (st' : SideState) → handled (e ∷ []) ≡ [] → Step says side config own_id st e st' → StandsStill side st st'
event_still says side config own_id st (IdHeard id) st' n h = still side st st' (ap (λ (x : SideState). x.records) h.becomes) (ap (λ (x : SideState). x.stands) h.becomes)
event_still says side config own_id st (PayloadSubmitted p) st' n h = still side st st' (ap (λ (x : SideState). x.records) h.becomes) (ap (λ (x : SideState). x.stands) h.becomes)
event_still says side config own_id st (ExchangeBegun cause i) st' n h =
    let z = nothing_open side st.stands i.payload (begins_open side config st cause h.may) in
    let f : st'.stands ≡ Inside (Created i.payload) = ap (λ (x : SideState). x.stands) h.becomes in
    record {
      records = ap (λ (x : SideState). x.records) h.becomes;
      agreement = ap (agreement_open side) f ∙ z.0;
      hosts = ap hosts_open f ∙ z.1;
      lookups = ap (lookups_open side) f ∙ z.2;
    }
event_still says side config own_id st (AnswerSent i r) st' n h = still side st st' (ap (λ (x : SideState). x.records) h.becomes) (ap (λ (x : SideState). x.stands) h.becomes)
event_still says side config own_id st (PayloadSent i) st' n h = still side st st' (ap (λ (x : SideState). x.records) h.becomes) (ap (λ (x : SideState). x.stands) h.becomes)
event_still says side config own_id st (MessageTaken i) st' n h = cc
event_still says side config own_id st (GuessDropped i) st' n h = cc
event_still says side config own_id st (PayloadDelivered i) st' n h = cc
event_still says side config own_id st (PacketDropped i) st' n h = cc
event_still says side config own_id st (ExchangeFinished i x) st' n h = cc

still_join : (side : Side) (a b c : SideState) → StandsStill side a b → StandsStill side b c → StandsStill side a c
still_join side a b c p q = record { records = q.records ∙ p.records; agreement = q.agreement ∙ p.agreement; hosts = q.hosts ∙ p.hosts; lookups = q.lookups ∙ p.lookups }

steps_still : (says : Says) (side : Side) (config : Config) (own_id : List ℕ) (log : List Event) (st st' : SideState) → handled log ≡ [] → Steps says side config own_id st log st' → StandsStill side st st'
steps_still says side config own_id [] st st' n h = subst (λ (m : SideState). StandsStill side st m) (sym h) (still side st st refl refl)
steps_still says side config own_id (IdHeard id ∷ es) st st' n h = still_join side st h.0 st' (event_still says side config own_id st (IdHeard id) h.0 refl h.1) (steps_still says side config own_id es h.0 st' n h.2)
steps_still says side config own_id (PayloadSubmitted p ∷ es) st st' n h = still_join side st h.0 st' (event_still says side config own_id st (PayloadSubmitted p) h.0 refl h.1) (steps_still says side config own_id es h.0 st' n h.2)
steps_still says side config own_id (ExchangeBegun cause i ∷ es) st st' n h = still_join side st h.0 st' (event_still says side config own_id st (ExchangeBegun cause i) h.0 refl h.1) (steps_still says side config own_id es h.0 st' n h.2)
steps_still says side config own_id (AnswerSent i r ∷ es) st st' n h = still_join side st h.0 st' (event_still says side config own_id st (AnswerSent i r) h.0 refl h.1) (steps_still says side config own_id es h.0 st' n h.2)
steps_still says side config own_id (PayloadSent i ∷ es) st st' n h = still_join side st h.0 st' (event_still says side config own_id st (PayloadSent i) h.0 refl h.1) (steps_still says side config own_id es h.0 st' n h.2)
steps_still says side config own_id (MessageTaken i ∷ es) st st' n h = cc
steps_still says side config own_id (GuessDropped i ∷ es) st st' n h = cc
steps_still says side config own_id (PayloadDelivered i ∷ es) st st' n h = cc
steps_still says side config own_id (PacketDropped i ∷ es) st st' n h = cc
steps_still says side config own_id (ExchangeFinished i x ∷ es) st st' n h = cc

pub answers_at : (test : ℕ → ℕ → Bool) (n m : ℕ) → m ≡ n → (known : ℕ) → test known n ≡ true → test known m ≡ true
answers_at test n m e known h = subst (λ k. test known k ≡ true) (sym e) h

-- nothing was asked
pub answers_still : (says : Says) (side : Side) (config : Config) (own_id : List ℕ) (log : List Event) (st st' : SideState) (t : PartTests) → handled log ≡ [] → Steps says side config own_id st log st' → AnswersAll side st st' t t
answers_still says side config own_id log st st' t n h =
    let k = steps_still says side config own_id log st st' n h in
    let r : length st'.records ≡ length st.records = ap length k.records in
    let g : lookups_in side st'.records ≡ lookups_in side st.records = ap (lookups_in side) k.records in
    let a = k.agreement in
    let b = k.hosts in
    let c = k.lookups in
    record {
      agreement = answers_at t.agreement _ _ (ap (λ q. q + agreement_open side st'.stands) (ap (λ q. calls_of side * q) r) ∙ ap (λ q. calls_of side * length st.records + q) a);
      hosts = answers_at t.hosts _ _ (ap (λ q. q + hosts_open st'.stands) (ap (λ q. calls_of side * q) r) ∙ ap (λ q. calls_of side * length st.records + q) b);
      lookups = answers_at t.lookups _ _ (ap (λ q. q + lookups_open side st'.stands) g ∙ ap (λ q. lookups_in side st.records + q) c);
    }

-- where a side stands still
pub answers_same : (side : Side) (st st' : SideState) (t : PartTests) → st'.records ≡ st.records → st'.stands ≡ st.stands → AnswersAll side st st' t t
answers_same side st st' t e f = record {
  agreement = answers_at t.agreement _ _ (ap (λ (r : List FinishedExchange). calls_of side * length r + agreement_open side st'.stands) e ∙ ap (λ (w : Where). calls_of side * length st.records + agreement_open side w) f);
  hosts = answers_at t.hosts _ _ (ap (λ (r : List FinishedExchange). calls_of side * length r + hosts_open st'.stands) e ∙ ap (λ (w : Where). calls_of side * length st.records + hosts_open w) f);
  lookups = answers_at t.lookups _ _ (ap (λ (r : List FinishedExchange). lookups_in side r + lookups_open side st'.stands) e ∙ ap (λ (w : Where). lookups_in side st.records + lookups_open side w) f);
}

pub answers_join : (side : Side) (a b c : SideState) (t u v : PartTests) → AnswersAll side a b t u → AnswersAll side b c u v → AnswersAll side a c t v
answers_join side a b c t u v p q = record {
  agreement = λ known h. q.agreement known (p.agreement known h);
  hosts = λ known h. q.hosts known (p.hosts known h);
  lookups = λ known h. q.lookups known (p.lookups known h);
}
