-- What is known of the exchanges that a client finished, by the moves that it made.
use Rattle.std.proofs.Common.{◌≡◌, ◌⊎◌, ℕ, List, [], ◌∷◌, ◌++◌, slice_get, refl, sym, ◌∙◌, ap, subst, true, false, Option, Some, None, append_assoc, append-nil, inl, inr}
use Rattle.ssh_wire.specs.Lines.{id_text}
use Rattle.ssh_wire.specs.Reading.{IdReading, Waiting, Heard, Failed}
use Rattle.ssh_wire.specs.declared.error.ConfigFault.{ConfigFault}
use Rattle.ssh_wire.specs.declared.error.Error.{Error}
use Rattle.ssh_wire.specs.declared.error.Error.TheVariants as errors
use Rattle.ssh_wire.specs.declared.side.Side.{Side}
use Rattle.ssh_wire.specs.declared.side.Side.TheVariants.{Client, Server}
use Rattle.ssh_kex.specs.Setting.{Says}
use Rattle.ssh_kex.specs.declared.config.Config.{Config}
use Rattle.ssh_kex.specs.declared.exchange.FinishedExchange.{FinishedExchange}
use Rattle.ssh_kex.specs.declared.exchange.ServerHost.{ServerHost}
use Rattle.ssh_rules.specs.Handled.{heard_in, packets_in}
use Rattle.ssh_rules.specs.Log.{read_bytes, recorded}
use Rattle.ssh_rules.specs.Machine.{Event, SideState, Steps, first_state}
use Rattle.ssh_rules.specs.Parts.{Accepting, Trusting}
use Rattle.ssh_rules.specs.Standing.{HearsBy, IsNew, IsNoId, OfFault, OfMemory, OfPacket, OfVersion, ReadsLineFrom, RefusalCause, RefusesInput, Standing, Submitted, TakesInput}
use Rattle.ssh_rules.specs.Valid.{config_fault}
use Rattle.ssh_rules.proofs.Lemmas.{LineGoes, behind_more, heard_stays, line_goes, no_bytes, read_join, recorded_is, run_signed, steps_join}
use Rattle.ssh_kex.specs.Refusals.{Denies}
use Rattle.ssh_pipe.specs.Desks.{DeskState, HasAnswered, first_of, first_said, login_service, was_granted}
use Rattle.ssh_pipe.specs.Known.{IsSignedClient}
use Rattle.ssh_pipe.specs.Talks.{Ends, IsRefusedUnfed, Fed, FedLast, Follows, Handed, Move, Talked, fed_in, untouched}
use Rattle.ssh_pipe.specs.declared.end.TalkEnd.{TalkEnd}

-- ---- where a side stands in what it was fed

-- these bytes stand right behind the other's version line in what a side was fed
abbrev StandsBehind : Side → (fed done : List ℕ) → Type 0
StandsBehind side fed done = (behind : List ℕ) × (packets_in (heard_in side fed) fed ≡ done ++ behind)

-- of more bytes too
nil_front : (a b : List ℕ) → [] ≡ a ++ b → a ≡ []
nil_front [] b e = refl
nil_front (x ∷ a) b e = cc

stands_more : (side : Side) (fed done waiting piece : List ℕ) (heard : Option (List ℕ)) (line : IdReading) → LineGoes side fed done heard line waiting → StandsBehind side (fed ++ piece) done
stands_more side fed done waiting piece heard (Waiting bytes others) g =
    let none : done ≡ [] = nil_front done waiting (sym (ap (λ f. packets_in f fed) g.line_is.0) ∙ g.read) in
    (packets_in (heard_in side (fed ++ piece)) (fed ++ piece), ap (λ q. q ++ packets_in (heard_in side (fed ++ piece)) (fed ++ piece)) (sym none))
stands_more side fed done waiting piece heard (Heard text) g =
    (waiting ++ piece, behind_more side fed piece text g.line_is.0 g.line_is.1 ∙ (ap (λ q. q ++ piece) g.read ∙ append_assoc done waiting piece))
stands_more side fed done waiting piece heard Failed g = absurd g.line_is

-- ---- a side that has not failed

record IsRunning (says : Says) (side : Side) (config : Config) (log : List Event) (fed : List ℕ) (t : Standing) : Type 0 where
  pub side_is : t.side ≡ side
  pub config_is : t.config ≡ config
  pub steps : Steps says side config (id_text config.id) first_state log t.state
  pub line : LineGoes side fed (read_bytes side first_state.reading log) t.state.heard t.line t.waiting

-- what is left of any side: a run, and what it read
record HasRun (says : Says) (side : Side) (config : Config) (fed : List ℕ) (t : Standing) : Type 0 where
  pub log : List Event
  pub state : SideState
  pub steps : Steps says side config (id_text config.id) first_state log state
  pub records : t.state.records ≡ state.records
  pub read : StandsBehind side fed (read_bytes side first_state.reading log)

has_run : (says : Says) (side : Side) (config : Config) (log : List Event) (fed : List ℕ) (t : Standing) → IsRunning says side config log fed t → HasRun says side config fed t
has_run says side config log fed t r = record { log = log; state = t.state; steps = r.steps; records = refl; read = (t.waiting, r.line.read) }

line_none : (side : Side) → LineGoes side [] [] None (Waiting [] 0) []
line_none Client = record { line_is = (refl, refl); read = refl; heard_as = refl }
line_none Server = record { line_is = (refl, refl); read = refl; heard_as = refl }

runs_first : (says : Says) (side : Side) (config : Config) (t : Standing) → IsNew side config t → IsRunning says side config [] [] t
runs_first says side config t n = subst (λ x. IsRunning says side config [] [] x) (sym n) (record {
  side_is = refl;
  config_is = refl;
  steps = refl;
  line = line_none side;
})

-- events of the side that it is
at_side : (P : Side → Config → Type 0) (a a' : Side) (b b' : Config) → a ≡ a' → b ≡ b' → P a b → P a' b'
at_side P a a' b b' e f p = subst (λ y. P a' y) f (subst (λ x. P x b) e p)

steps_at : (says : Says) (side : Side) (config : Config) (log : List Event) (fed : List ℕ) (old : Standing) (events : List Event) (st : SideState) → IsRunning says side config log fed old → Steps says old.side old.config (id_text old.config.id) old.state events st → Steps says side config (id_text config.id) first_state (log ++ events) st
steps_at says side config log fed old events st r steps = steps_join says side config (id_text config.id) log events first_state old.state st r.steps (at_side (λ x y. Steps says x y (id_text y.id) old.state events st) old.side side old.config config r.side_is r.config_is steps)

read_more : (says : Says) (side : Side) (config : Config) (log : List Event) (fed : List ℕ) (old : Standing) (events : List Event) → IsRunning says side config log fed old → read_bytes side first_state.reading (log ++ events) ≡ read_bytes side first_state.reading log ++ read_bytes side old.state.reading events
read_more says side config log fed old events r = read_join says side config (id_text config.id) log events first_state old.state r.steps

-- what a piece leaves of the line, and of what stands behind it
line_after : (says : Says) (side : Side) (config : Config) (log : List Event) (fed : List ℕ) (old : Standing) (piece : List ℕ) (events : List Event) (st : SideState) (line' : IdReading) (behind left : List ℕ)
    → IsRunning says side config log fed old → Steps says old.side old.config (id_text old.config.id) old.state events st → ReadsLineFrom old.side old.line old.waiting piece events line' behind → behind ≡ read_bytes old.side old.state.reading events ++ left
    → LineGoes side (fed ++ piece) (read_bytes side first_state.reading (log ++ events)) st.heard line' left
line_after says side config log fed old piece events st line' behind left r steps reads is =
    let done = read_bytes side first_state.reading log in
    let more = read_bytes side old.state.reading events in
    let g = line_goes says side config (id_text config.id) fed piece done old.waiting old.line line' events behind old.state st r.line
    (at_side (λ x y. Steps says x y (id_text y.id) old.state events st) old.side side old.config config r.side_is r.config_is steps)
    (subst (λ x. ReadsLineFrom x old.line old.waiting piece events line' behind) r.side_is reads) in
    let at : behind ≡ more ++ left = subst (λ x. behind ≡ read_bytes x old.state.reading events ++ left) r.side_is is in
    record {
      line_is = g.line_is;
      read = g.read ∙ (ap (λ q. done ++ q) at ∙ (sym (append_assoc done more left) ∙ ap (λ q. q ++ left) (sym (read_more says side config log fed old events r))));
      heard_as = g.heard_as;
    }

-- a piece was taken
runs_fed : (says : Says) (side : Side) (config : Config) (log : List Event) (fed : List ℕ) (old : Standing) (piece : List ℕ) (new : Standing) → IsRunning says side config log fed old → (h : TakesInput says old piece new) → IsRunning says side config (log ++ h.events) (fed ++ piece) new
runs_fed says side config log fed old piece new r h = record {
  side_is = h.acts.side ∙ r.side_is;
  config_is = h.acts.config ∙ r.config_is;
  steps = steps_at says side config log fed old h.events new.state r h.acts.steps;
  line = line_after says side config log fed old piece h.events new.state new.line h.behind new.waiting r h.acts.steps h.line h.read;
}

-- a payload was submitted
runs_handed : (says : Says) (side : Side) (config : Config) (log : List Event) (fed : List ℕ) (old : Standing) (payload : List ℕ) (new : Standing) → IsRunning says side config log fed old → (h : Submitted says old payload new) → IsRunning says side config (log ++ h.events) fed new
runs_handed says side config log fed old payload new r h = record {
  side_is = h.acts.side ∙ r.side_is;
  config_is = h.acts.config ∙ r.config_is;
  steps = steps_at says side config log fed old h.events new.state r h.acts.steps;
  line = subst (λ q. LineGoes side fed q new.state.heard new.line new.waiting) (sym same)
      (subst (λ x. LineGoes side fed (read_bytes side first_state.reading log) x new.line new.waiting) (sym (heard_stays says old.side old.config (id_text old.config.id) h.events old.state new.state h.silent h.acts.steps))
      (subst (λ i. LineGoes side fed (read_bytes side first_state.reading log) old.state.heard i new.waiting) (sym h.line)
      (subst (λ w. LineGoes side fed (read_bytes side first_state.reading log) old.state.heard old.line w) (sym h.waiting) r.line)));
} where
  same : read_bytes side first_state.reading (log ++ h.events) ≡ read_bytes side first_state.reading log
  same = read_more says side config log fed old h.events r ∙ (ap (λ q. read_bytes side first_state.reading log ++ q) (no_bytes side old.state.reading h.events h.none_read) ∙ append-nil (read_bytes side first_state.reading log))

no_id : (side : Side) (line : IdReading) (piece : List ℕ) (events : List Event) → IsNoId side line piece events → events ≡ []
no_id side (Waiting bytes others) piece events h = h.0
no_id side (Heard text) piece events h = absurd h
no_id side Failed piece events h = absurd h

-- a piece was refused
refused_behind : (says : Says) (side : Side) (config : Config) (log : List Event) (fed : List ℕ) (old : Standing) (piece : List ℕ) (events : List Event) (st : SideState) (cause : RefusalCause) (line' : IdReading) (behind left : List ℕ)
    → IsRunning says side config log fed old → Steps says old.side old.config (id_text old.config.id) old.state events st → HearsBy cause old piece events line' behind → behind ≡ read_bytes old.side old.state.reading events ++ left
    → StandsBehind side (fed ++ piece) (read_bytes side first_state.reading (log ++ events))
refused_behind says side config log fed old piece events st cause line' behind left r steps hears is = by cause hears where
  done : List ℕ
  done = read_bytes side first_state.reading log

  reads : ReadsLineFrom old.side old.line old.waiting piece events line' behind → StandsBehind side (fed ++ piece) (read_bytes side first_state.reading (log ++ events))
  reads h = (left, (line_after says side config log fed old piece events st line' behind left r steps h is).read)

  unread : events ≡ [] → StandsBehind side (fed ++ piece) done → StandsBehind side (fed ++ piece) (read_bytes side first_state.reading (log ++ events))
  unread none h = subst (λ q. StandsBehind side (fed ++ piece) q) (sym (read_more says side config log fed old events r ∙ (ap (λ es. done ++ read_bytes side old.state.reading es) none ∙ append-nil done))) h

  by : (cause : RefusalCause) → HearsBy cause old piece events line' behind → StandsBehind side (fed ++ piece) (read_bytes side first_state.reading (log ++ events))
  by (OfFault fault) h = reads h
  by (OfPacket i) h = reads h
  by OfVersion h = unread (no_id old.side old.line piece events h) (stands_more side fed done old.waiting piece old.state.heard old.line r.line)
  by OfMemory (inl none) = unread none (stands_more side fed done old.waiting piece old.state.heard old.line r.line)
  by OfMemory (inr h) = reads h

has_refused : (says : Says) (side : Side) (config : Config) (log : List Event) (fed : List ℕ) (old : Standing) (piece : List ℕ) (cause : RefusalCause) (new : Standing) → IsRunning says side config log fed old → RefusesInput says old piece cause new → HasRun says side config (fed ++ piece) new
has_refused says side config log fed old piece cause new r h = record {
  log = log ++ h.events;
  state = h.at;
  steps = steps_at says side config log fed old h.events h.at r h.steps;
  records = h.records;
  read = refused_behind says side config log fed old piece h.events h.at cause h.line h.behind h.left r h.steps h.heard h.read;
}

-- ---- moves

-- behind a side that has failed there is no move
none_behind : (says : Says) (ms : List Move) (old new : Standing) → old.failed ≡ true → Follows says old ms new → (ms ≡ []) × (new ≡ old)
none_behind says [] old new failed h = (refl, h)
none_behind says (m ∷ ms) old new failed h = absurd (let e : true ≡ false = sym failed ∙ h.1.0 in cc)

run_behind : (says : Says) (side : Side) (config : Config) (ms : List Move) (log : List Event) (fed : List ℕ) (old new : Standing) → IsRunning says side config log fed old → Follows says old ms new → HasRun says side config (fed ++ fed_in ms) new
run_behind says side config [] log fed old new r h =
    subst (λ q. HasRun says side config q new) (sym (append-nil fed)) (subst (λ t. HasRun says side config fed t) (sym h) (has_run says side config log fed old r))
run_behind says side config (Fed piece ∷ ms) log fed old new r h =
    let takes = h.1.1 in
    subst (λ q. HasRun says side config q new) (append_assoc fed piece (fed_in ms))
    (run_behind says side config ms (log ++ takes.events) (fed ++ piece) h.0 new (runs_fed says side config log fed old piece h.0 r takes) h.2)
run_behind says side config (FedLast piece ∷ ms) log fed old new r h =
    let refuses = h.1.1.1 in
    let last = none_behind says ms h.0 new refuses.failed h.2 in
    subst (λ q. HasRun says side config q new) (sym (ap (λ (l : List Move). fed ++ (piece ++ fed_in l)) last.0 ∙ ap (λ q. fed ++ q) (append-nil piece)))
    (subst (λ t. HasRun says side config (fed ++ piece) t) (sym last.1) (has_refused says side config log fed old piece h.1.1.0 h.0 r refuses))
run_behind says side config (Handed payload ∷ ms) log fed old new r h =
    let sends = h.1.1.1 in
    run_behind says side config ms (log ++ sends.events) fed h.0 new (runs_handed says side config log fed old payload h.0 r sends) h.2

-- ---- what a client knows

-- what the side says of signatures and hosts is what is answered
abbrev pub Answered : Says → Accepting → Trusting → Type 0
Answered says accepts trusts = ((host : ServerHost) (hash signature : List ℕ) → says.accepts host hash signature → accepts host hash signature ≡ true) × ((host : ServerHost) → says.trusts host → trusts host ≡ true)

signed_by : (says : Says) (accepts : Accepting) (trusts : Trusting) (config : Config) (fed : List ℕ) (t : Standing) → Answered says accepts trusts → HasRun says Client config fed t → IsSignedClient accepts trusts says config fed t
signed_by says accepts trusts config fed t answers r = record {
  log = r.log;
  state = r.state;
  steps = r.steps;
  records = records;
  read = r.read;
  signed = λ k x g. run_signed says accepts trusts config (id_text config.id) r.log r.state answers r.steps k x (subst (λ q. slice_get q k ≡ Some x) records g);
} where
  records : t.state.records ≡ recorded r.log
  records = r.records ∙ recorded_is says Client config (id_text config.id) r.log first_state r.state r.steps

has_untouched : (says : Says) (side : Side) (config : Config) (fed sent : List ℕ) (answered : List (List ℕ)) (t : Standing) → HasRun says side config fed (untouched sent answered t) → HasRun says side config fed t
has_untouched says side config fed sent answered t r = record { log = r.log; state = r.state; steps = r.steps; records = r.records; read = r.read }

-- a new side that came to an end
pub talked_as : (says : Says) (denies : Denies) (untrusted : ServerHost → Type 0) (accepts : Accepting) (trusts : Trusting) (side : Side) (config : Config) (start : Standing) (desk : DeskState) (held : Option (List ℕ)) (fed : List ℕ) (held' : Option (List ℕ)) (end : TalkEnd) (finished : List FinishedExchange)
    → Answered says accepts trusts → IsNew side config start → desk.side ≡ side → HasAnswered desk [] → Ends says denies untrusted desk (first_said (first_of desk.side)) start held fed held' end finished → Talked side config says denies untrusted accepts trusts held fed held' end finished
talked_as says denies untrusted accepts trusts side config start desk held fed held' end finished answers new of_side fresh ends = record {
  start = start;
  new = new;
  desk = desk;
  of_side = of_side;
  fresh = fresh;
  ends = ends;
  known = λ client. signed_by says accepts trusts config fed ends.at answers
      (has_untouched says Client config fed ends.goes.sent ends.goes.answered ends.at
      (subst (λ q. HasRun says Client config q (untouched ends.goes.sent ends.goes.answered ends.at)) ends.goes.fed_is
      (run_behind says Client config ends.goes.moves [] [] start (untouched ends.goes.sent ends.goes.answered ends.at)
      (runs_first says Client config start (subst (λ s. IsNew s config start) client new)) ends.goes.follows)));
}

-- ---- a side that wasn't opened

-- a desk that has answered nothing
pub record FreshDesk (side : Side) : Type 0 where
  pub desk : DeskState
  pub of_side : desk.side ≡ side
  pub answered : HasAnswered desk []

pub fresh_desk : (side : Side) → FreshDesk side
fresh_desk side = record {
  desk = record { side = side; services = record { offered = login_service ∷ []; requested = []; informed = false }; granted = false };
  of_side = refl;
  answered = record { offered = refl; stands = λ s. record { requested = λ name offered. refl; informed = refl }; granted = none side };
} where
  none : (s : Side) → false ≡ was_granted s []
  none Client = refl
  none Server = refl

pub unopened : (d : DeskState) (at : Standing) (e : Error) → at.failed ≡ false → (e ≡ errors.Memory) ⊎ ((f : ConfigFault) × (config_fault at.side at.config ≡ Some f) × (e ≡ errors.InvalidConfig f)) → IsRefusedUnfed d [] at e
unopened d at e live (inl m) = (live, inl m)
unopened d at e live (inr f) = (live, inr (inl f))
