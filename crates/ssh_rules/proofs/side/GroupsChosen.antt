-- A lookup is asked in group exchanges alone: what a message and an event do to their count.
use Rattle.std.proofs.Common.{◌≡◌, ℕ, ◌+◌, ◌≤◌, if◌then◌else◌, Bool, true, false, List, [], ◌∷◌, ◌++◌, refl, sym, ap, subst, arith, Some}
use Rattle.ssh_packet.specs.Sealing.{next_number}
use Rattle.ssh_negotiate.specs.declared.negotiation.Names.{Names}
use Rattle.ssh_wire.specs.declared.side.Side.{Side}
use Rattle.ssh_wire.specs.declared.side.Side.TheVariants.{Client, Server}
use Rattle.ssh_kex.specs.Messages.{is_gex}
use Rattle.ssh_kex.specs.Setting.{Opened, Says, Setting}
use Rattle.ssh_kex.specs.Stages.{AwaitsGroup, AwaitsNewkeys, AwaitsReply, AwaitsRequest, AwaitsValue, Created, OpensBy, Stage, Takes, guess_dropped, names_in_stage}
use Rattle.ssh_kex.specs.Stepping.{asks_groups, once_unless}
use Rattle.ssh_kex.specs.declared.config.Config.{Config}
use Rattle.ssh_kex.specs.declared.exchange.FinishedExchange.{FinishedExchange}
use Rattle.ssh_rules.specs.Counting.{LookupsFrom, group_in, groups_in, request_due}
use Rattle.ssh_rules.proofs.side.Calls.{at_most_one}
use Rattle.ssh_rules.specs.Machine.{Answering, Asked, Cause, Event, ExchangeBegun, AnswerSent, ExchangeFinished, GuessDropped, IdHeard, Inside, MayBegin, MessageTaken, PacketDropped, PayloadDelivered, PayloadSent, PayloadSubmitted, ReadLimit, SideState, Start, Step, Steps, Where, WriteLimit, names_now, setting}

pub groups_more : (a b : List FinishedExchange) → groups_in (a ++ b) ≡ groups_in a + groups_in b
groups_more [] b = omega arith
groups_more (x ∷ a) b = (let r = groups_more a b in omega (arith, r))

-- ---- stages

-- where a machine comes to stand no more is asked than a group exchange that was chosen asks
abbrev pub GroupFrom : Stage → Stage → ℕ → Type 0
GroupFrom stage next asked = asked + request_due (Inside next) + group_in (names_in_stage stage) ≤ request_due (Inside stage) + group_in (names_in_stage next)

chosen_one : (n : Names) → is_gex n.kex ≡ true → group_in (Some n) ≡ 1
chosen_one n e = ap (λ (b : Bool). if b then 1 else 0) e

opened_group : (says : Says) (s : Setting) (o : Opened) (side : Side) (kind : Bool) (own : List ℕ) (written : List (List ℕ)) (next : Stage) → is_gex o.names.kex ≡ kind → OpensBy side kind says s o written next → GroupFrom (Created own) next 0
opened_group says s o Client true own written next e h = subst (λ n. GroupFrom (Created own) n 0) (sym h.next_is) (omega arith)
opened_group says s o Client false own written next e h = subst (λ n. GroupFrom (Created own) n 0) (sym h.leads.next_is) (omega arith)
opened_group says s o Server true own written next e h = subst (λ n. GroupFrom (Created own) n 0) (sym h.next_is) (let c = chosen_one o.names e in omega (arith, c))
opened_group says s o Server false own written next e h = subst (λ n. GroupFrom (Created own) n 0) (sym h.next_is) (omega arith)

pub taken_group : (says : Says) (s : Setting) (stage : Stage) (seqn : ℕ) (payload : List ℕ) (written : List (List ℕ)) (next : Stage) → Takes says s stage seqn payload written next → GroupFrom stage next (asks_groups stage)
taken_group says s (Created own) seqn payload written next h = opened_group says s _ s.side (is_gex h.names.kex) own written next refl h.opens
taken_group says s (AwaitsGroup o) seqn payload written next h = subst (λ n. GroupFrom (AwaitsGroup o) n 0) (sym h.leads.next_is) (omega arith)
taken_group says s (AwaitsReply o gex local public) seqn payload written next h = subst (λ n. GroupFrom (AwaitsReply o gex local public) n 0) (sym h.leads.next_is) (omega arith)
taken_group says s (AwaitsRequest o) seqn payload written next h = let a = at_most_one o.names.ignore_guessed in subst (λ n. GroupFrom (AwaitsRequest o) n (once_unless o.names.ignore_guessed)) (sym h.leads.next_is) (omega (arith, a))
taken_group says s (AwaitsValue o gex) seqn payload written next h = subst (λ n. GroupFrom (AwaitsValue o gex) n 0) (sym h.leads.next_is) (omega arith)
taken_group says s (AwaitsNewkeys exchange made host) seqn payload written next h = absurd h

-- a wrong guess changes nothing of it
pub dropped_group : (stage : Stage) → (request_due (Inside (guess_dropped stage)) ≡ request_due (Inside stage)) × (group_in (names_in_stage (guess_dropped stage)) ≡ group_in (names_in_stage stage))
dropped_group (Created own) = (refl, refl)
dropped_group (AwaitsGroup o) = (refl, refl)
dropped_group (AwaitsReply o gex local public) = (refl, refl)
dropped_group (AwaitsRequest o) = (refl, refl)
dropped_group (AwaitsValue o gex) = (refl, refl)
dropped_group (AwaitsNewkeys exchange made host) = (refl, refl)

-- a stage asks only for the request
pub request_alone : (stage : Stage) → asks_groups stage ≤ request_due (Inside stage)
request_alone (Created own) = omega arith
request_alone (AwaitsGroup o) = omega arith
request_alone (AwaitsReply o gex local public) = omega arith
request_alone (AwaitsRequest o) = at_most_one o.names.ignore_guessed
request_alone (AwaitsValue o gex) = omega arith
request_alone (AwaitsNewkeys exchange made host) = omega arith

-- ---- events

closed_group : (config : Config) (st : SideState) (cause : Cause) → MayBegin config st cause → (request_due st.stands ≡ 0) × (group_in (names_now st.stands) ≡ 0)
closed_group config st Start h = (ap request_due h.0, ap (λ (w : Where). group_in (names_now w)) h.0)
closed_group config st Asked h = (ap request_due h, ap (λ (w : Where). group_in (names_now w)) h)
closed_group config st Answering h = (ap request_due h, ap (λ (w : Where). group_in (names_now w)) h)
closed_group config st WriteLimit h = (ap request_due h.0, ap (λ (w : Where). group_in (names_now w)) h.0)
closed_group config st ReadLimit h = (ap request_due h.0, ap (λ (w : Where). group_in (names_now w)) h.0)

inside_group : (st : SideState) (stage : Stage) → st.stands ≡ Inside stage → (request_due st.stands ≡ request_due (Inside stage)) × (group_in (names_now st.stands) ≡ group_in (names_in_stage stage))
inside_group st stage e = (ap request_due e, ap (λ (w : Where). group_in (names_now w)) e)

event_groups : (says : Says) (side : Side) (config : Config) (own_id : List ℕ) (n : ℕ) (st : SideState) (e : Event) (st' : SideState) → Step says side config own_id st e st' → LookupsFrom st st' n n
event_groups says side config own_id n st (IdHeard id) st' h = subst (λ m. LookupsFrom st m n n) (sym h.becomes) (omega arith)
event_groups says side config own_id n st (PayloadSubmitted p) st' h = subst (λ m. LookupsFrom st m n n) (sym h.becomes) (omega arith)
event_groups says side config own_id n st (ExchangeBegun cause i) st' h = subst (λ m. LookupsFrom st m n n) (sym h.becomes) (let z = closed_group config st cause h.may in omega (arith, z.0, z.1))
event_groups says side config own_id n st (AnswerSent i r) st' h = subst (λ m. LookupsFrom st m n n) (sym h.becomes) (omega arith)
event_groups says side config own_id n st (PayloadSent i) st' h = subst (λ m. LookupsFrom st m n n) (sym h.becomes) (omega arith)
event_groups says side config own_id n st (MessageTaken i) st' h = subst (λ m. LookupsFrom st m n n) (sym h.becomes) (
    let z = inside_group st h.stage h.inside in
    let t = taken_group says (setting side config own_id st) h.stage (next_number st.reading.number) i.payload h.answers h.next h.takes in
    omega (arith, z.0, z.1, t)
    )
event_groups says side config own_id n st (GuessDropped i) st' h = subst (λ m. LookupsFrom st m n n) (sym h.becomes) (
    let z = inside_group st h.stage h.inside in
    let d = dropped_group h.stage in
    omega (arith, z.0, z.1, d.0, d.1)
    )
event_groups says side config own_id n st (PayloadDelivered i) st' h = subst (λ m. LookupsFrom st m n n) (sym h.becomes) (omega arith)
event_groups says side config own_id n st (PacketDropped i) st' h = subst (λ m. LookupsFrom st m n n) (sym h.becomes) (omega arith)
event_groups says side config own_id n st (ExchangeFinished i x) st' h = subst (λ m. LookupsFrom st m n n) (sym h.becomes) (
    let z = inside_group st (AwaitsNewkeys h.exchange x h.host) h.inside in
    let g = groups_more st.records (x ∷ []) in
    omega (arith, z.0, z.1, g)
    )

-- where no call is counted
pub steps_groups : (says : Says) (side : Side) (config : Config) (own_id : List ℕ) (log : List Event) (st st' : SideState) (n : ℕ) → Steps says side config own_id st log st' → LookupsFrom st st' n n
steps_groups says side config own_id [] st st' n h = subst (λ m. LookupsFrom st m n n) (sym h) (omega arith)
steps_groups says side config own_id (e ∷ es) st st' n h =
    let a = event_groups says side config own_id n st e h.0 h.1 in
    let b = steps_groups says side config own_id es h.0 st' n h.2 in
    omega (arith, a, b)
