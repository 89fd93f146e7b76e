-- How often the parts are asked: a machine's step, a packet, and packets one after the other.
use Rattle.std.proofs.Common.{◌≡◌, ℕ, ◌+◌, ◌-◌, ◌*◌, ◌≤◌, Bool, true, false, List, [], ◌∷◌, ◌++◌, length, refl, sym, ap, ◌∙◌, subst, arith, Option, Some, None, Result, Ok, Err, IfOk, OnOk, length-append, ◌⊎◌, inl, inr}
use Rattle.ssh_wire.specs.Lines.{id_text}
use Rattle.ssh_wire.specs.Orders.{is_kex}
use Rattle.ssh_wire.specs.declared.error.Error.{Error}
use Rattle.ssh_wire.specs.declared.side.Side.{Side}
use Rattle.ssh_negotiate.specs.declared.negotiation.Names.{Names}
use Rattle.ssh_packet.specs.Sealing.{Item}
use Rattle.ssh_packet.specs.Stream.{message_type}
use Rattle.ssh_packet.specs.Writing.{Writer}
use Rattle.ssh_packet.specs.declared.reader.Incoming.{Incoming}
use Rattle.ssh_kex.specs.Parts.{Raises}
use Rattle.ssh_kex.specs.Setting.{Says, Setting}
use Rattle.ssh_kex.specs.Stages.{Stage, Created, AwaitsGroup, AwaitsReply, AwaitsRequest, AwaitsValue, AwaitsNewkeys, IsStageOf, Machine, Finishes, Skips, names_in_stage}
use Rattle.ssh_kex.specs.Stepping.{answers_agreement, asks_hosts, asks_groups, next_of, DropsGuess, IsDone, Progresses, TakesOne}
use Rattle.ssh_kex.specs.declared.exchange.Exchange.{Exchange}
use Rattle.ssh_kex.specs.declared.exchange.FinishedExchange.{FinishedExchange}
use Rattle.ssh_kex.specs.declared.exchange.NewKeys.{NewKeys}
use Rattle.ssh_kex.specs.declared.exchange.ServerHost.{ServerHost}
use Rattle.ssh_kex.specs.declared.progress.KexProgress.{KexProgress}
use Rattle.ssh_kex.specs.declared.progress.KexProgress.TheVariants.{NeedsReply}
use Rattle.ssh_kex.specs.declared.progress.KexProgress.TheVariants as progress
use Rattle.ssh_kex.specs.declared.session_state.SessionKexState.{SessionKexState}
use Rattle.ssh_rules.specs.Answering.{AnswersAll, PartTests}
use Rattle.ssh_rules.specs.Asking.{AsksForCause, AsksForMessage, AsksForType, AsksOnce, AsksUntil, AsksWithin, PartCalls, to_come_for}
use Rattle.ssh_rules.specs.Calls.{agreement_left, hosts_left, lookups_left}
use Rattle.ssh_rules.specs.Counting.{CallsFrom, agreement_to_come, begun, calls_of, group_in, groups_chosen, groups_in, hosts_to_come, lookups_of, lookups_to_come, open_count, request_due}
use Rattle.ssh_rules.specs.Log.{handled}
use Rattle.ssh_rules.specs.Machine.{AnswerSent, Event, ExchangeBegun, ExchangeFinished, GuessDropped, IdHeard, Inside, MessageTaken, Outside, PacketDropped, PayloadDelivered, PayloadSent, PayloadSubmitted, SideState, Spot, Steps, Where, names_now}
use Rattle.ssh_rules.specs.Standing.{OfMemory, OfPacket, RefusalCause, nothing_said}
use Rattle.ssh_rules.specs.Valid.{config_fault}
use Rattle.ssh_rules.proofs.Lemmas.{answers_at, answers_join, answers_same, answers_still, asks_join, asks_left, asks_lookups, asks_steps, asks_still, begun_first, begun_steps, cause_none, dropped_asks, dropped_calls, dropped_group, groups_more, request_alone, stage_bounds, taken_group}
use Rattle.ssh_transport.specs.Asking.{AsksBetween, AsksTo, MoveAnswers, MoveAsks, PartTally, StepAnswers, StepAsks, StepCalls, asks_trust, nowhere, state_of, trust_in}
use Rattle.ssh_transport.specs.Handling.{Installs, IsFor, IsOpen, Moves}
use Rattle.ssh_transport.specs.Saying.{GoesOn, GoesPart, IsFixed, OnlyWrites}
use Rattle.ssh_transport.specs.States.{after_exchanges, reading_spot, stands_of, state_at}
use Rattle.ssh_transport.specs.Taking.{Hears, TakesUp}
use Rattle.ssh_transport.specs.declared.connection.Connection.{Connection}
use Rattle.ssh_transport.specs.declared.session.Disposition.{Disposition}
use Rattle.ssh_transport.specs.Handling.{GivesKeys, GivesNothing, GivesPayload, Outcome}
use Rattle.ssh_transport.specs.declared.session.Session.{Session}
use Rattle.ssh_transport.proofs.Answered.{message_answers}
use Rattle.ssh_transport.proofs.Kexinits.{between_side}
use Rattle.ssh_transport.proofs.Refusing.{set_for}

-- ---- a machine's step

taken_asks : (says : Says) (m : Machine) (i : Incoming) (old new : Writer) (kex : Machine) (reset : Bool)
    (n n' : PartTally) → DropsGuess m old kex reset new ⊎ TakesOne says m i old kex reset new
    → StepCalls m.setting.side m.stage (Some kex.stage) n.calls n'.calls
    → StepAnswers m.setting.side m.stage (Some kex.stage) n.tests n'.tests
    → MoveAsks m.setting.side m.stage (Inside kex.stage) n n'
taken_asks says m i old new kex reset n n' (inl d) c q =
    let z = dropped_asks m.setting.side m.stage (Some kex.stage) d.drops in
    let k = dropped_calls m.setting.side m.stage in
    let e : kex.stage ≡ Rattle.ssh_kex.specs.Stages.guess_dropped m.stage = ap (λ (x : Machine). x.stage) d.kex_is in
    let a = ap (λ (x : Stage). agreement_left m.setting.side x) e in
    let h = ap (λ (x : Stage). hosts_left m.setting.side x) e in
    let l = ap (λ (x : Stage). lookups_left m.setting.side x) e in
    record {
      agreement = (c.agreement_later, (let y = c.agreement in omega (arith, y, z.0, k.0, a)));
      hosts = (c.hosts_later, (let y = c.hosts in omega (arith, y, z.1, k.1, h)));
      lookups = (c.lookups_later, (let y = c.lookups in omega (arith, y, z.2, k.2, l)));
      groups = c.lookups;
      answers = record { fits = q.fits; agreement = q.agreement; hosts = q.hosts; lookups = q.lookups };
    }
taken_asks says m i old new kex reset n n' (inr t) c q =
    let r = asks_left says m.setting m.stage i.seqn i.payload.now t.written kex.stage t.takes in
    let l = asks_lookups says m.setting m.stage i.seqn i.payload.now t.written kex.stage t.takes in
    record {
      agreement = (c.agreement_later, (let y = c.agreement in omega (arith, y, r.0)));
      hosts = (c.hosts_later, (let y = c.hosts in omega (arith, y, r.1)));
      lookups = (c.lookups_later, (let y = c.lookups in omega (arith, y, l)));
      groups = c.lookups;
      answers = record { fits = q.fits; agreement = q.agreement; hosts = q.hosts; lookups = q.lookups };
    }

-- a machine that awaits more
pub moves_on : (says : Says) (m : Machine) (i : Incoming) (old new : Writer)
    (answer : Result (KexProgress Machine) Error) (p : KexProgress Machine) (kex : Machine) (reset : Bool)
    (n n' : PartTally) → answer ≡ Ok p → p ≡ NeedsReply kex reset → Progresses says m (Some i) old p new
    → StepCalls m.setting.side m.stage (next_of answer) n.calls n'.calls
    → StepAnswers m.setting.side m.stage (next_of (Ok p)) n.tests n'.tests
    → MoveAsks m.setting.side m.stage (Inside kex.stage) n n'
moves_on says m i old new answer p kex reset n n' a e h c q = taken_asks says m i old new kex reset n n'
    (subst (λ (x : KexProgress Machine). Progresses says m (Some i) old x new) e h)
    (subst (λ (x : Option Stage). StepCalls m.setting.side m.stage x n.calls n'.calls)
    (ap next_of a ∙ ap (λ (x : KexProgress Machine). next_of (Ok x)) e) c)
    (subst (λ (x : Option Stage). StepAnswers m.setting.side m.stage x n.tests n'.tests)
    (ap (λ (x : KexProgress Machine). next_of (Ok x)) e) q)

-- a machine that refuses
pub refused_asks : (side : Side) (stage : Stage) (answer : Result (KexProgress Machine) Error) (error : Error)
    (n n' : PartCalls) → answer ≡ Err error → StepCalls side stage (next_of answer) n n'
    → AsksForMessage side (Inside stage) n n'
refused_asks side stage answer error n n' e h =
    let c : StepCalls side stage None n n' = subst (λ (x : Option Stage). StepCalls side stage x n n') (ap next_of e) h
    in
    let b = stage_bounds side stage in
    record {
      agreement = (
        c.agreement_later,
        (let y = c.agreement in let z = b.agreement_once in omega (arith, y, z)),
        (let y = c.agreement in let z = b.agreement in omega (arith, y, z)),
      );
      hosts = (
        c.hosts_later,
        (let y = c.hosts in let z = b.hosts_once in omega (arith, y, z)),
        (let y = c.hosts in let z = b.hosts in omega (arith, y, z)),
      );
      lookups = (
        c.lookups_later,
        (let y = c.lookups in let z = b.lookups_once in omega (arith, y, z)),
        (let y = c.lookups in let z = b.lookups in omega (arith, y, z)),
      );
      groups = (let y = c.lookups in let z = request_alone stage in omega (arith, y, z));
    }

-- ---- the end of an exchange

-- the host keys are asked for the host alone
pub record EndBounds (side : Side) (stage : Stage) (host : Option ServerHost) : Type 0 where
  pub hosts : asks_hosts stage + asks_trust host ≤ hosts_left side stage
  pub once : asks_hosts stage + asks_trust host ≤ 1

trust_bounds : (side : Side) (exchange : Exchange) (made : FinishedExchange) (host : Option ServerHost)
    → EndBounds side (AwaitsNewkeys exchange made host) host
trust_bounds side exchange made None = record { hosts = omega arith; once = omega arith }
trust_bounds side exchange made (Some host) = record { hosts = omega arith; once = omega arith }

skip_bounds : (side : Side) (own : List ℕ) (host : Option ServerHost) → host ≡ None → EndBounds side (Created own) host
skip_bounds side own host e = subst (λ (x : Option ServerHost). EndBounds side (Created own) x) (sym e)
    (record { hosts = omega arith; once = omega arith })

end_bounds : (side : Side) (s : Setting) (stage : Stage) (seqn : ℕ) (payload : List ℕ) (written : List (List ℕ))
    (x : Exchange) (made : FinishedExchange) (host : Option ServerHost)
    → (Finishes stage payload x made host × (written ≡ [])) ⊎ Skips s stage seqn payload written x made host
    → EndBounds side stage host
end_bounds side s (Created own) seqn payload written x made host (inl h) = absurd h.0
end_bounds side s (Created own) seqn payload written x made host (inr h) = skip_bounds side own host h.host_is
end_bounds side s (AwaitsGroup o) seqn payload written x made host (inl h) = absurd h.0
end_bounds side s (AwaitsGroup o) seqn payload written x made host (inr h) = absurd h
end_bounds side s (AwaitsReply o gex local public) seqn payload written x made host (inl h) = absurd h.0
end_bounds side s (AwaitsReply o gex local public) seqn payload written x made host (inr h) = absurd h
end_bounds side s (AwaitsRequest o) seqn payload written x made host (inl h) = absurd h.0
end_bounds side s (AwaitsRequest o) seqn payload written x made host (inr h) = absurd h
end_bounds side s (AwaitsValue o gex) seqn payload written x made host (inl h) = absurd h.0
end_bounds side s (AwaitsValue o gex) seqn payload written x made host (inr h) = absurd h
end_bounds side s (AwaitsNewkeys y m k) seqn payload written x made host (inl h) = subst
    (λ (z : Option ServerHost). EndBounds side (AwaitsNewkeys y m k) z) (sym (h.0).host_is) (trust_bounds side y m k)
end_bounds side s (AwaitsNewkeys y m k) seqn payload written x made host (inr h) = absurd h

-- the calls of the step, and then of the host keys
pub record EndCalls (side : Side) (stage : Stage) (host : Option ServerHost) (n n' : PartCalls) : Type 0 where
  pub mid : PartCalls
  pub step : StepCalls side stage None n mid
  pub agreement : n'.agreement ≡ mid.agreement
  pub hosts_later : mid.hosts ≤ n'.hosts
  pub hosts : n'.hosts ≤ mid.hosts + asks_trust host
  pub lookups : n'.lookups ≡ mid.lookups

pub step_ended : (side : Side) (stage : Stage) (answer : Result (KexProgress Machine) Error) (p : KexProgress Machine)
    (host : Option ServerHost) (k : NewKeys) (n n' : PartCalls) → answer ≡ Ok p → p ≡ progress.Done host k
    → StepCalls side stage (next_of answer) n n' → StepCalls side stage None n n'
step_ended side stage answer p host k n n' a e h = subst (λ (x : Option Stage). StepCalls side stage x n n')
    (ap next_of a ∙ ap (λ (x : KexProgress Machine). next_of (Ok x)) e) h

-- and what they answered: the step took its message, and the host, where there is one, is trusted
pub record EndAnswers (side : Side) (stage : Stage) (host : Option ServerHost) (t t' : PartTests) : Type 0 where
  pub mid : PartTests
  pub step : StepAnswers side stage None t mid
  pub agreement : t'.agreement ≡ mid.agreement
  pub hosts : Raises (asks_trust host) mid.hosts t'.hosts
  pub lookups : t'.lookups ≡ mid.lookups

pub answered_ended : (side : Side) (stage : Stage) (p : KexProgress Machine) (host : Option ServerHost) (k : NewKeys)
    (t t' : PartTests) → p ≡ progress.Done host k → StepAnswers side stage (next_of (Ok p)) t t'
    → StepAnswers side stage None t t'
answered_ended side stage p host k t t' e h = subst (λ (x : Option Stage). StepAnswers side stage x t t')
    (ap (λ (x : KexProgress Machine). next_of (Ok x)) e) h

-- at its end a stage asks for its host
trust_is : (s : Setting) (stage : Stage) (seqn : ℕ) (payload : List ℕ) (written : List (List ℕ)) (x : Exchange)
    (made : FinishedExchange) (host : Option ServerHost) → (Finishes stage payload x made host × (written ≡ []))
    ⊎ Skips s stage seqn payload written x made host → asks_trust host ≡ trust_in stage
trust_is s (Created own) seqn payload written x made host (inl h) = absurd h.0
trust_is s (Created own) seqn payload written x made host (inr h) = ap asks_trust h.host_is
trust_is s (AwaitsGroup o) seqn payload written x made host (inl h) = absurd h.0
trust_is s (AwaitsGroup o) seqn payload written x made host (inr h) = absurd h
trust_is s (AwaitsReply o gex local public) seqn payload written x made host (inl h) = absurd h.0
trust_is s (AwaitsReply o gex local public) seqn payload written x made host (inr h) = absurd h
trust_is s (AwaitsRequest o) seqn payload written x made host (inl h) = absurd h.0
trust_is s (AwaitsRequest o) seqn payload written x made host (inr h) = absurd h
trust_is s (AwaitsValue o gex) seqn payload written x made host (inl h) = absurd h.0
trust_is s (AwaitsValue o gex) seqn payload written x made host (inr h) = absurd h
trust_is s (AwaitsNewkeys y m k) seqn payload written x made host (inl h) = ap asks_trust (h.0).host_is
trust_is s (AwaitsNewkeys y m k) seqn payload written x made host (inr h) = absurd h

raises_join : (a b : ℕ) (p q r : ℕ → ℕ → Bool) → Raises a p q → Raises b q r → Raises (a + b) p r
raises_join a b p q r f g known n h = answers_at r _ _ (omega arith) known (g known (n + a) (f known n h))

-- whatever was finished before
behind_end : (side : Side) (stage : Stage) (t t' : PartTests) → IsStageOf side stage
    → Raises (answers_agreement side stage None) t.agreement t'.agreement
    → Raises (asks_hosts stage + trust_in stage) t.hosts t'.hosts → Raises (asks_groups stage) t.lookups t'.lookups
    → (records : List FinishedExchange) → MoveAnswers side stage (after_exchanges records) t t'
behind_end side stage t t' f a b c [] = record { fits = f; agreement = a; hosts = b; lookups = c }
behind_end side stage t t' f a b c (x ∷ records) = record { fits = f; agreement = a; hosts = b; lookups = c }

ended_answers : (side : Side) (stage : Stage) (host : Option ServerHost) (t t' : PartTests)
    → asks_trust host ≡ trust_in stage → EndAnswers side stage host t t' → (records : List FinishedExchange)
    → MoveAnswers side stage (after_exchanges records) t t'
ended_answers side stage host t t' e h records = behind_end side stage t t' (h.step).fits
    (subst (λ (q : ℕ → ℕ → Bool). Raises (answers_agreement side stage None) t.agreement q) (sym h.agreement)
    (h.step).agreement)
    (subst (λ k. Raises (asks_hosts stage + k) t.hosts t'.hosts) e
    (raises_join (asks_hosts stage) (asks_trust host) t.hosts (h.mid).hosts t'.hosts (h.step).hosts h.hosts))
    (subst (λ (q : ℕ → ℕ → Bool). Raises (asks_groups stage) t.lookups q) (sym h.lookups) (h.step).lookups) records

-- what is to come where no exchange is open
outside_none : (side : Side) (records : List FinishedExchange)
    → (agreement_to_come side (after_exchanges records) ≡ 0) × (hosts_to_come side (after_exchanges records) ≡ 0)
    × (lookups_to_come side (after_exchanges records) ≡ 0)
outside_none side [] = (refl, refl, refl)
outside_none side (x ∷ records) = (refl, refl, refl)

pub ends_on : (m : Machine) (i : Incoming) (old new : Writer) (host : Option ServerHost) (k : NewKeys)
    (records : List FinishedExchange) (n n' : PartTally) → IsDone m i old host k new
    → EndCalls m.setting.side m.stage host n.calls n'.calls → EndAnswers m.setting.side m.stage host n.tests n'.tests
    → MoveAsks m.setting.side m.stage (after_exchanges records) n n'
ends_on m i old new host k records n n' d c q =
    let b = stage_bounds m.setting.side m.stage in
    let e = end_bounds m.setting.side m.setting m.stage i.seqn i.payload.now d.written d.exchange d.made host d.ends in
    let o = outside_none m.setting.side records in
    let s = c.step in
    record {
      agreement = (
        (let x = s.agreement_later in let y = c.agreement in omega (arith, x, y)),
        (let x = s.agreement in let y = c.agreement in let z = b.agreement in omega (arith, x, y, z, o.0)),
      );
      hosts = (
        (let x = s.hosts_later in let y = c.hosts_later in omega (arith, x, y)),
        (let x = s.hosts in let y = c.hosts in let z = e.hosts in omega (arith, x, y, z, o.1)),
      );
      lookups = (
        (let x = s.lookups_later in let y = c.lookups in omega (arith, x, y)),
        (let x = s.lookups in let y = c.lookups in let z = b.lookups in omega (arith, x, y, z, o.2)),
      );
      groups = (let x = s.lookups in let y = c.lookups in omega (arith, x, y));
      answers = ended_answers m.setting.side m.stage host n.tests n'.tests
          (trust_is m.setting m.stage i.seqn i.payload.now d.written d.exchange d.made host d.ends) q records;
    }

pub ends_refused : (m : Machine) (i : Incoming) (old new : Writer) (host : Option ServerHost) (k : NewKeys)
    (n n' : PartCalls) → IsDone m i old host k new → EndCalls m.setting.side m.stage host n n'
    → AsksForMessage m.setting.side (Inside m.stage) n n'
ends_refused m i old new host k n n' d c =
    let b = stage_bounds m.setting.side m.stage in
    let e = end_bounds m.setting.side m.setting m.stage i.seqn i.payload.now d.written d.exchange d.made host d.ends in
    let s = c.step in
    record {
      agreement = (
        (let x = s.agreement_later in let y = c.agreement in omega (arith, x, y)),
        (let x = s.agreement in let y = c.agreement in let z = b.agreement_once in omega (arith, x, y, z)),
        (let x = s.agreement in let y = c.agreement in let z = b.agreement in omega (arith, x, y, z)),
      );
      hosts = (
        (let x = s.hosts_later in let y = c.hosts_later in omega (arith, x, y)),
        (let x = s.hosts in let y = c.hosts in let z = e.once in omega (arith, x, y, z)),
        (let x = s.hosts in let y = c.hosts in let z = e.hosts in omega (arith, x, y, z)),
      );
      lookups = (
        (let x = s.lookups_later in let y = c.lookups in omega (arith, x, y)),
        (let x = s.lookups in let y = c.lookups in let z = b.lookups_once in omega (arith, x, y, z)),
        (let x = s.lookups in let y = c.lookups in let z = b.lookups in omega (arith, x, y, z)),
      );
      groups = (let x = s.lookups in let y = c.lookups in let z = request_alone m.stage in omega (arith, x, y, z));
    }

-- the session behind it
pub ended_asks : (s s' : Session) (k : NewKeys) (answer : Outcome) (m : Machine) (n n' : PartTally)
    → Installs s k answer s' → ((records : List FinishedExchange)
    → MoveAsks m.setting.side m.stage (after_exchanges records) n n')
    → MoveAsks m.setting.side m.stage (stands_of s'.finished.items s'.kex) n n'
ended_asks s s' k GivesPayload m n n' h f = absurd h
ended_asks s s' k GivesNothing m n n' h f = absurd h
ended_asks s s' k (GivesKeys opening again) m n n' h f = subst (λ (x : Where). MoveAsks m.setting.side m.stage x n n')
    (sym (ap (λ (x : Session). stands_of s'.finished.items x.kex) h.3)) (f s'.finished.items)

-- ---- a message

one_more : (a b : List FinishedExchange) (x : FinishedExchange) → a ≡ b ++ x ∷ [] → length a ≡ length b + 1
one_more a b x e = ap length e ∙ length-append b (x ∷ [])

-- how many exchanges were begun behind it
moved_begun : (says : Says) (s1 s' : Session) (m : Machine) (i : Incoming) (answer : Outcome)
    → Moves says s1 m i answer s' → begun (state_of s') ≡ length s1.finished.items + 1
moved_begun says s1 s' m i GivesPayload h = absurd h
moved_begun says s1 s' m i GivesNothing h = ap (λ (x : Session). begun (state_of x)) h.becomes
moved_begun says s1 s' m i (GivesKeys opening again) h =
    let more = h.installs.2 in
    let idle : stands_of s'.finished.items s'.kex ≡ after_exchanges s'.finished.items = ap
    (λ (x : Session). stands_of s'.finished.items x.kex) h.installs.3 in
    let none : open_count (stands_of s'.finished.items s'.kex) ≡ 0 = ap open_count idle ∙ closed s'.finished.items in
    let l = one_more s'.finished.items s1.finished.items _ more in
    omega (arith, none, l)
  where
    closed : (records : List FinishedExchange) → open_count (after_exchanges records) ≡ 0
    closed [] = refl
    closed (x ∷ records) = refl

-- the open exchange's message, or one for which an exchange is begun
record IsFrom (to_come : Where → ℕ) (each : ℕ) (stage : Stage) (stands : Where) (before after : ℕ) : Type 0 where
  pub later : before ≤ after
  pub paid : to_come (Inside stage) ≤ to_come stands + each * (after - before)
  pub once : to_come (Inside stage) ≤ to_come_for to_come each stands

call_from : (to_come : Where → ℕ) (each : ℕ) (st st' : SideState) (stage : Stage) (n n' : ℕ)
    → IsFrom to_come each stage st.stands (begun st) (begun st') → StepAsks to_come stage st'.stands n n'
    → CallsFrom to_come each st st' n n'
call_from to_come each st st' stage n n' f h = (h.0, (let y = h.1 in let z = f.paid in omega (arith, y, z)))

once_from : (to_come : Where → ℕ) (each : ℕ) (stage : Stage) (stands : Where) (before after n n' : ℕ)
    → IsFrom to_come each stage stands before after → AsksOnce to_come each (Inside stage) n n'
    → AsksOnce to_come each stands n n'
once_from to_come each stage stands before after n n' f h =
    (h.0, h.1, (let y = h.2 in let z = f.once in omega (arith, y, z)))

from_inside : (to_come : Where → ℕ) (each : ℕ) (stage : Stage) (stands : Where) (before after : ℕ)
    → stands ≡ Inside stage → after ≡ before → IsFrom to_come each stage stands before after
from_inside to_come each stage stands before after e f = record {
  later = omega (arith, f);
  paid = (let y : to_come stands ≡ to_come (Inside stage) = ap to_come e in omega
      (arith, y));
  once = (let y : to_come_for to_come each stands ≡ to_come (Inside stage) = ap
      (to_come_for to_come each) e in omega (arith, y));
}

from_outside : (to_come : Where → ℕ) (each : ℕ) (stage : Stage) (stands : Where) (before after : ℕ) → stands ≡ Outside
    → after ≡ before + 1 → to_come (Inside stage) ≡ each → IsFrom to_come each stage stands before after
from_outside to_come each stage stands before after e f g = record {
  later = omega (arith, f);
  paid = (let d : after - before ≡ 1 = omega (arith, f) in let t : each * (after - before) ≡ each * 1 = ap
      (λ (x : ℕ). each * x) d in omega (arith, t, g));
  once = (let y : to_come_for to_come each stands ≡ each = ap (to_come_for to_come each) e in omega (arith, y, g));
}

-- of each part
record PartsFrom (side : Side) (stage : Stage) (stands : Where) (before after : ℕ) : Type 0 where
  pub agreement : IsFrom (agreement_to_come side) (calls_of side) stage stands before after
  pub hosts : IsFrom (hosts_to_come side) (calls_of side) stage stands before after
  pub lookups : IsFrom (lookups_to_come side) (lookups_of side) stage stands before after

parts_inside : (side : Side) (stage : Stage) (stands : Where) (before after : ℕ) → stands ≡ Inside stage
    → after ≡ before → PartsFrom side stage stands before after
parts_inside side stage stands before after e f = record {
  agreement = from_inside (agreement_to_come side) (calls_of side) stage stands before after e f;
  hosts = from_inside (hosts_to_come side) (calls_of side) stage stands before after e f;
  lookups = from_inside (lookups_to_come side) (lookups_of side) stage stands before after e f;
}

parts_outside : (side : Side) (stage : Stage) (own : List ℕ) (stands : Where) (before after : ℕ) → stage ≡ Created own
    → stands ≡ Outside → after ≡ before + 1 → PartsFrom side stage stands before after
parts_outside side stage own stands before after c e f =
    let b = begun_first side own in
    record {
      agreement = from_outside (agreement_to_come side) (calls_of side) stage stands before after e f
          (ap (λ (x : Stage). agreement_to_come side (Inside x)) c ∙ b.0);
      hosts = from_outside (hosts_to_come side) (calls_of side) stage stands before after e f
          (ap (λ (x : Stage). hosts_to_come side (Inside x)) c ∙ b.1);
      lookups = from_outside (lookups_to_come side) (lookups_of side) stage stands before after e f
          (ap (λ (x : Stage). lookups_to_come side (Inside x)) c ∙ b.2);
    }

parts_for : (s s1 : Session) (m : Machine) (after : ℕ) → after ≡ length s1.finished.items + 1 → IsFor s m s1
    → PartsFrom s.side m.stage (stands_of s.finished.items s.kex) (begun (state_of s)) after
parts_for s s1 m after e (inl f) =
    let same : length s1.finished.items ≡ length s.finished.items = ap (λ (x : Session). length x.finished.items)
    (f.0).becomes in
    let none : open_count (stands_of s.finished.items s.kex) ≡ 0 = ap open_count f.1 in
    parts_outside s.side m.stage (f.0).item.payload (stands_of s.finished.items s.kex) (begun (state_of s)) after
    (f.0).stage_is f.1 (omega (arith, e, same, none))
parts_for s s1 m after e (inr f) =
    let same : length s1.finished.items ≡ length s.finished.items = ap (λ (x : Session). length x.finished.items) f.1 in
    let stands : stands_of s.finished.items s.kex ≡ Inside m.stage = ap
    (λ (k : SessionKexState Machine). stands_of s.finished.items k) f.0 in
    let one : open_count (stands_of s.finished.items s.kex) ≡ 1 = ap open_count stands in
    parts_inside s.side m.stage (stands_of s.finished.items s.kex) (begun (state_of s)) after stands
    (omega (arith, e, same, one))

-- ---- group exchanges

-- where a message is for a session's machine, its request and its group are those of the stage
record GroupsFor (s : Session) (stage : Stage) (records : List FinishedExchange) : Type 0 where
  pub due : request_due (stands_of s.finished.items s.kex) ≡ request_due (Inside stage)
  pub chosen : groups_chosen (state_of s) ≡ groups_in records + group_in (names_in_stage stage)

groups_for : (s s1 : Session) (m : Machine) → IsFor s m s1 → GroupsFor s m.stage s1.finished.items
groups_for s s1 m (inl f) =
    let stage : m.stage ≡ Created (f.0).item.payload = (f.0).stage_is in
    let same : groups_in s1.finished.items ≡ groups_in s.finished.items = ap
    (λ (x : Session). groups_in x.finished.items) (f.0).becomes in
    let none : group_in (names_now (stands_of s.finished.items s.kex)) ≡ 0 = ap (λ (w : Where). group_in (names_now w))
    f.1 in
    let first : group_in (names_in_stage m.stage) ≡ 0 = ap (λ (x : Stage). group_in (names_in_stage x)) stage in
    record {
      due = ap request_due f.1 ∙ sym (ap (λ (x : Stage). request_due (Inside x)) stage);
      chosen = omega (arith, same, none, first);
    }
groups_for s s1 m (inr f) =
    let same : groups_in s1.finished.items ≡ groups_in s.finished.items = ap
    (λ (x : Session). groups_in x.finished.items) f.1 in
    let stands : stands_of s.finished.items s.kex ≡ Inside m.stage = ap
    (λ (k : SessionKexState Machine). stands_of s.finished.items k) f.0 in
    let now : group_in (names_now (stands_of s.finished.items s.kex)) ≡ group_in (names_in_stage m.stage) = ap
    (λ (w : Where). group_in (names_now w)) stands in
    record { due = ap request_due stands; chosen = omega (arith, same, now) }

-- an exchange that ends asks for no group any more
ended_group : (s : Setting) (stage : Stage) (seqn : ℕ) (payload : List ℕ) (written : List (List ℕ)) (x : Exchange)
    (made : FinishedExchange) (host : Option ServerHost) → (Finishes stage payload x made host × (written ≡ []))
    ⊎ Skips s stage seqn payload written x made host → asks_groups stage + group_in (names_in_stage stage) ≤ request_due
    (Inside stage) + group_in (Some made.names)
ended_group s (Created own) seqn payload written x made host (inl h) = absurd h.0
ended_group s (Created own) seqn payload written x made host (inr h) = omega arith
ended_group s (AwaitsGroup o) seqn payload written x made host (inl h) = absurd h.0
ended_group s (AwaitsGroup o) seqn payload written x made host (inr h) = absurd h
ended_group s (AwaitsReply o gex local public) seqn payload written x made host (inl h) = absurd h.0
ended_group s (AwaitsReply o gex local public) seqn payload written x made host (inr h) = absurd h
ended_group s (AwaitsRequest o) seqn payload written x made host (inl h) = absurd h.0
ended_group s (AwaitsRequest o) seqn payload written x made host (inr h) = absurd h
ended_group s (AwaitsValue o gex) seqn payload written x made host (inl h) = absurd h.0
ended_group s (AwaitsValue o gex) seqn payload written x made host (inr h) = absurd h
ended_group s (AwaitsNewkeys y m k) seqn payload written x made host (inl h) =
    (let a : group_in (Some made.names) ≡ group_in (Some m.names) = ap
    (λ (z : FinishedExchange). group_in (Some z.names)) (h.0).made_is in omega (arith, a))
ended_group s (AwaitsNewkeys y m k) seqn payload written x made host (inr h) = absurd h

-- a message that was handed to the machine
moved_groups : (says : Says) (s1 s' : Session) (m : Machine) (i : Incoming) (answer : Outcome)
    → Moves says s1 m i answer s' → asks_groups m.stage + request_due (stands_of s'.finished.items s'.kex) +
    (groups_in s1.finished.items + group_in (names_in_stage m.stage)) ≤ request_due (Inside m.stage) + groups_chosen
    (state_of s')
moved_groups says s1 s' m i GivesPayload h = absurd h
moved_groups says s1 s' m i GivesNothing h =
    let due : request_due (stands_of s'.finished.items s'.kex) ≡ request_due (Inside (h.next).stage) = ap
    (λ (x : Session). request_due (stands_of x.finished.items x.kex)) h.becomes in
    let chosen : groups_chosen (state_of s') ≡ groups_in s1.finished.items + group_in (names_in_stage (h.next).stage) =
    ap (λ (x : Session). groups_chosen (state_of x)) h.becomes in
    elim h.does [
      | inl d ↦ (
          let z = dropped_asks m.setting.side m.stage (Some (h.next).stage) d.drops in
          let k = dropped_group m.stage in
          let e : (h.next).stage ≡ Rattle.ssh_kex.specs.Stages.guess_dropped m.stage = ap (λ (x : Machine). x.stage)
          d.kex_is in
          let a = ap (λ (x : Stage). request_due (Inside x)) e in
          let b = ap (λ (x : Stage). group_in (names_in_stage x)) e in
          omega (arith, due, chosen, z.2, k.0, k.1, a, b)
          )
      | inr t ↦ (
          let g = taken_group says m.setting m.stage i.seqn i.payload.now t.written (h.next).stage t.takes in
          omega (arith, due, chosen, g)
          )
    ]
moved_groups says s1 s' m i (GivesKeys opening again) h =
    let more = h.installs.2 in
    let idle : stands_of s'.finished.items s'.kex ≡ after_exchanges s'.finished.items = ap
    (λ (x : Session). stands_of s'.finished.items x.kex) h.installs.3 in
    let due : request_due (stands_of s'.finished.items s'.kex) ≡ 0 = ap request_due idle ∙ none_due s'.finished.items in
    let now : group_in (names_now (stands_of s'.finished.items s'.kex)) ≡ 0 = ap (λ (w : Where). group_in (names_now w))
    idle ∙ none_now s'.finished.items in
    let records = ap groups_in more ∙ groups_more s1.finished.items _ in
    let names : group_in (Some (h.newkeys).names) ≡ group_in (Some (h.done).made.names) = ap
    (λ (n : Names). group_in (Some n)) ((h.done).newkeys).names_is in
    let e = ended_group m.setting m.stage i.seqn i.payload.now (h.done).written (h.done).exchange (h.done).made h.host
    (h.done).ends in
    omega (arith, due, now, records, names, e)
  where
    none_due : (records : List FinishedExchange) → request_due (after_exchanges records) ≡ 0
    none_due [] = refl
    none_due (x ∷ records) = refl

    none_now : (records : List FinishedExchange) → group_in (names_now (after_exchanges records)) ≡ 0
    none_now [] = refl
    none_now (x ∷ records) = refl

-- a message that is taken
pub message_asks : (says : Says) (s s1 s' : Session) (m : Machine) (i : Incoming) (answer : Outcome)
    (n n' : PartTally) → config_fault s.side s.config.now ≡ None → IsOpen s → IsFor s m s1 → Moves says s1 m i answer s'
    → MoveAsks m.setting.side m.stage (stands_of s'.finished.items s'.kex) n n' → AsksBetween s s' n n'
message_asks says s s1 s' m i answer n n' v o f h a =
    let g = groups_for s s1 m f in
    let p = parts_for s s1 m (begun (state_of s')) (moved_begun says s1 s' m i answer h) f in
    let b : MoveAsks s.side m.stage (stands_of s'.finished.items s'.kex) n n' = subst
    (λ (x : Side). MoveAsks x m.stage (stands_of s'.finished.items s'.kex) n n')
    (ap (λ (x : Setting). x.side) (set_for s s1 m o f) ∙ between_side s.side s.config.now _ _) a in
    record {
      later = p.agreement.later;
      within = record {
        agreement = call_from (agreement_to_come s.side) (calls_of s.side) (state_of s) (state_of s') m.stage
            (n.calls).agreement (n'.calls).agreement p.agreement b.agreement;
        hosts = call_from (hosts_to_come s.side) (calls_of s.side) (state_of s) (state_of s') m.stage (n.calls).hosts
            (n'.calls).hosts p.hosts b.hosts;
        lookups = call_from (lookups_to_come s.side) (lookups_of s.side) (state_of s) (state_of s') m.stage
            (n.calls).lookups (n'.calls).lookups p.lookups b.lookups;
        groups = (let x = b.groups in let y = moved_groups says s1 s' m i answer h in let z = g.due in let w = g.chosen
            in omega (arith, x, y, z, w));
      };
      answers = message_answers says s s1 s' m i answer n.tests n'.tests v o f h a.answers;
    }

-- and one that is refused
pub message_refused_asks : (s s1 : Session) (m : Machine) (n n' : PartCalls) → IsOpen s → IsFor s m s1
    → AsksForMessage m.setting.side (Inside m.stage) n n'
    → AsksForMessage s.side (stands_of s.finished.items s.kex) n n'
message_refused_asks s s1 m n n' o f a =
    let p = parts_for s s1 m (length s1.finished.items + 1) refl f in
    let b : AsksForMessage s.side (Inside m.stage) n n' = subst (λ (x : Side). AsksForMessage x (Inside m.stage) n n')
    (ap (λ (x : Setting). x.side) (set_for s s1 m o f) ∙ between_side s.side s.config.now _ _) a in
    record {
      agreement = once_from (agreement_to_come s.side) (calls_of s.side) m.stage (stands_of s.finished.items s.kex) _ _
          n.agreement n'.agreement p.agreement b.agreement;
      hosts = once_from (hosts_to_come s.side) (calls_of s.side) m.stage (stands_of s.finished.items s.kex) _ _ n.hosts
          n'.hosts p.hosts b.hosts;
      lookups = once_from (lookups_to_come s.side) (lookups_of s.side) m.stage (stands_of s.finished.items s.kex) _ _
          n.lookups n'.lookups p.lookups b.lookups;
      groups = (let x = b.groups in let z = (groups_for s s1 m f).due in omega (arith, x, z));
    }

pub typed_asks : (kex : Bool) (side : Side) (w : Where) (n n' : PartCalls) → kex ≡ true → AsksForMessage side w n n'
    → AsksForType kex side w n n'
typed_asks true side w n n' e h = h
typed_asks false side w n n' e h = cc

-- ---- packets

-- of parts that say nothing of themselves
abbrev pub untested : PartCalls → PartTally
untested calls = record {
  calls = calls;
  tests = record
      { agreement = λ known n. true; hosts = λ known n. true; lookups = λ known n. true };
}

pub between_same : (s s' : Session) (n : PartTally) → s' ≡ s → AsksBetween s s' n n
between_same s s' n e = subst (λ (x : Session). AsksBetween s x n n) (sym e)
    (record {
      later = omega arith;
      within = asks_still s.side (state_of s) (state_of s) n.calls refl refl;
      answers =
          answers_same s.side (state_of s) (state_of s) n.tests refl refl;
    })

pub between_join : (a b c : Session) (n m k : PartTally) → b.side ≡ a.side → AsksBetween a b n m → AsksBetween b c m k
    → AsksBetween a c n k
between_join a b c n m k e p q = record {
  later = (let x = p.later in let y = q.later in omega (arith, x, y));
  within = asks_join a.side (state_of a) (state_of b) (state_of c) n.calls m.calls k.calls p.later q.later p.within
      (subst (λ (x : Side). AsksWithin x (state_of b) (state_of c) m.calls k.calls) e q.within);
  answers = answers_join a.side (state_of a) (state_of b) (state_of c) n.tests m.tests k.tests p.answers
      (subst (λ (x : Side). AnswersAll x (state_of b) (state_of c) m.tests k.tests) e q.answers);
}

-- what was asked where a side stands still, and then for what is refused there
pub to_here : (s : Session) (at : Spot) (read : ℕ) (cause : RefusalCause) (n n' : PartCalls)
    → AsksForCause cause s.side (stands_of s.finished.items s.kex) n n' → AsksTo s n n' cause (state_at s at read)
to_here s at read cause n n' h = record {
  mid = n;
  before = asks_still s.side (state_of s) (state_at s at read) n refl
      refl;
  last = h;
}

-- for a packet
pub to_packet : (s : Session) (at : Spot) (read : ℕ) (i : Item) (payload : List ℕ) (n n' : PartCalls)
    → payload ≡ i.payload → AsksForType (is_kex (message_type payload)) s.side (stands_of s.finished.items s.kex) n n'
    → AsksTo s n n' (OfPacket i) (state_at s at read)
to_packet s at read i payload n n' p h = to_here s at read (OfPacket i) n n'
    (subst (λ (x : List ℕ). AsksForType (is_kex (message_type x)) s.side (stands_of s.finished.items s.kex) n n') p h)

-- for a payload that was taken
pub to_kept : (s s' : Session) (at : Spot) (read : ℕ) (n n' : PartTally) → s' ≡ s → AsksBetween s s' n n'
    → AsksTo s n.calls n'.calls OfMemory (state_at s at read)
to_kept s s' at read n n' e h =
    let k : AsksBetween s s n n' = subst (λ (x : Session). AsksBetween s x n n') e h in
    record {
      mid = n'.calls;
      before = record {
        agreement = (k.within).agreement;
        hosts = (k.within).hosts;
        lookups =
            (k.within).lookups;
        groups = (k.within).groups;
      };
      last = refl;
    }

writes_none : (events : List Event) → OnlyWrites events → handled events ≡ []
writes_none [] h = refl
writes_none (ExchangeBegun cause i ∷ es) h = writes_none es h.1
writes_none (PayloadSent i ∷ es) h = writes_none es h
writes_none (IdHeard id ∷ es) h = absurd h
writes_none (PayloadSubmitted p ∷ es) h = absurd h
writes_none (AnswerSent i again ∷ es) h = absurd h
writes_none (MessageTaken i ∷ es) h = absurd h
writes_none (GuessDropped i ∷ es) h = absurd h
writes_none (PayloadDelivered i ∷ es) h = absurd h
writes_none (PacketDropped i ∷ es) h = absurd h
writes_none (ExchangeFinished i x ∷ es) h = absurd h

-- for what was written behind a packet
pub between_written : (s s' : Session) (read : ℕ) (events : List Event) (n : PartTally) → handled events ≡ []
    → Steps nothing_said s.side s.config.now (id_text s.config.now.id) (state_at s nowhere read) events
    (state_at s' nowhere read) → AsksBetween s s' n n
between_written s s' read events n u h =
    let k = asks_steps nothing_said s.side s.config.now (id_text s.config.now.id) events (state_at s nowhere read)
    (state_at s' nowhere read) n.calls h in
    let a = answers_still nothing_said s.side s.config.now (id_text s.config.now.id) events (state_at s nowhere read)
    (state_at s' nowhere read) n.tests u h in
    record {
      later = begun_steps nothing_said s.side s.config.now (id_text s.config.now.id) events (state_at s nowhere read)
          (state_at s' nowhere read) h;
      within = record { agreement = k.agreement; hosts = k.hosts; lookups = k.lookups; groups = k.groups };
      answers = record { agreement = a.agreement; hosts = a.hosts; lookups = a.lookups };
    }

pub to_written : (s s' : Session) (at : Spot) (read : ℕ) (n n' : PartTally) → AsksBetween s s' n n'
    → AsksTo s n.calls n'.calls OfMemory (state_at s' at read)
to_written s s' at read n n' k = record {
  mid = n'.calls;
  before = record {
    agreement = (k.within).agreement;
    hosts = (k.within).hosts;
    lookups = (k.within).lookups;
    groups =
        (k.within).groups;
  };
  last = refl;
}

-- behind what was asked before
pub to_later : (s s1 : Session) (n m : PartTally) (k : PartCalls) → s1.side ≡ s.side → AsksBetween s s1 n m
    → (cause : RefusalCause) (at : SideState) → begun (state_of s1) ≤ begun at → AsksTo s1 m.calls k cause at
    → AsksTo s n.calls k cause at
to_later s s1 n m k e p cause at b h =
    let g : AsksUntil s.side cause (state_of s1) at m.calls k = subst
    (λ (x : Side). AsksUntil x cause (state_of s1) at m.calls k) e h in
    record {
      mid = g.mid;
      before = asks_join s.side (state_of s) (state_of s1) at n.calls m.calls g.mid p.later b
          p.within g.before;
      last = g.last;
    }

-- while the line was heard
pub to_still : (s : Session) (at : Spot) (read : ℕ) (n : PartCalls) (cause : RefusalCause) (events : List Event)
    (st : SideState) → Steps nothing_said s.side s.config.now (id_text s.config.now.id) (state_at s at read) events st
    → AsksTo s n n cause st
to_still s at read n cause events st h =
    let k = asks_steps nothing_said s.side s.config.now (id_text s.config.now.id) events (state_at s at read) st n h in
    record {
      mid = n;
      before = record {
        agreement = k.agreement;
        hosts = k.hosts;
        lookups = k.lookups;
        groups =
            k.groups;
      };
      last = cause_none cause s.side st.stands n;
    }

pub between_heard : (c mid : Connection) (piece : List ℕ) (n : PartTally) → Hears c piece mid
    → AsksBetween c.session mid.session n n
between_heard c mid piece n h =
    let k = asks_steps nothing_said c.session.side c.session.config.now (id_text c.session.config.now.id) h.events
    (state_at c.session (reading_spot c) c.reader.count) (state_at mid.session (reading_spot mid) mid.reader.count)
    n.calls h.steps in
    let a = answers_still nothing_said c.session.side c.session.config.now (id_text c.session.config.now.id) h.events
    (state_at c.session (reading_spot c) c.reader.count) (state_at mid.session (reading_spot mid) mid.reader.count)
    n.tests h.unread h.steps in
    record {
      later = begun_steps nothing_said c.session.side c.session.config.now (id_text c.session.config.now.id) h.events
          (state_at c.session (reading_spot c) c.reader.count)
          (state_at mid.session (reading_spot mid) mid.reader.count) h.steps;
      within = record { agreement = k.agreement; hosts = k.hosts; lookups = k.lookups; groups = k.groups };
      answers = record { agreement = a.agreement; hosts = a.hosts; lookups = a.lookups };
    }

-- behind a packet what could be written was written, in part or all of it
pub to_part : (c c1 c2 : Connection) (answer : Disposition) (s' : Session) (read : ℕ) (n n' : PartTally)
    → IsFixed c.session c1.session → AsksBetween c.session c1.session n n' → TakesUp answer c1 c2
    → (g : GoesPart c2.session read s') → AsksTo c.session n.calls n'.calls OfMemory
    (state_at g.mid (reading_spot c2) c2.reader.count)
to_part c c1 c2 answer s' read n n' fixed a u g = to_written c.session g.mid (reading_spot c2) c2.reader.count n n'
    (between_join c.session c1.session g.mid n n' n' fixed.0 a
    (subst (λ (x : Session). AsksBetween x g.mid n' n') (ap (λ (x : Connection). x.session) u.rest)
    (between_written c2.session g.mid read g.events n' (writes_none g.events g.writes.only) (g.writes.steps nowhere))))

pub asks_on : (c c1 c2 : Connection) (answer : Disposition) (s' : Session) (read : ℕ) (n n' : PartTally)
    → IsFixed c.session c1.session → AsksBetween c.session c1.session n n' → TakesUp answer c1 c2
    → GoesOn c2.session read s' → AsksBetween c.session s' n n'
asks_on c c1 c2 answer s' read n n' fixed a u g = between_join c.session c1.session s' n n' n' fixed.0 a
    (subst (λ (x : Session). AsksBetween x s' n' n') (ap (λ (x : Connection). x.session) u.rest)
    (between_written c2.session s' read g.events n' (writes_none g.events g.writes.only) (g.writes.steps nowhere)))

-- ---- as calls answer

pub by_answer : {T : Type 0} (answer : Result T Error) (P : T → Type 0) (A Q : Type 0) → ((x : T) → P x → A → Q)
    → IfOk answer P → OnOk answer A → OnOk answer Q
by_answer (Ok x) P A Q f h a = f x h a
by_answer (Err e) P A Q f h a = tt
