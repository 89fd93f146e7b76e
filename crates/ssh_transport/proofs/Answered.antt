-- What a message of an exchange has the parts of a session answer.
use Rattle.std.proofs.Common.{◌≡◌, ℕ, ◌+◌, ◌*◌, Bool, true, false, List, [], ◌∷◌, ◌++◌, length, length-append, refl, sym, ap, ◌∙◌, subst, arith, Option, Some, None, ◌⊎◌, inl, inr}
use Rattle.ssh_wire.specs.Lines.{id_text}
use Rattle.ssh_wire.specs.declared.side.Side.{Side}
use Rattle.ssh_wire.specs.declared.side.Side.TheVariants.{Client, Server}
use Rattle.ssh_negotiate.specs.declared.negotiation.Names.{Names}
use Rattle.ssh_packet.specs.declared.reader.Incoming.{Incoming}
use Rattle.ssh_kex.specs.Members.{AgreementMembers, GroupLookupMembers, HostKeysMembers}
use Rattle.ssh_kex.specs.Setting.{Says, Setting}
use Rattle.ssh_kex.specs.Stages.{AwaitsNewkeys, Created, Finishes, IsStageOf, Machine, Skips, Stage}
use Rattle.ssh_kex.specs.Stepping.{answers_agreement, asks_groups, asks_hosts}
use Rattle.ssh_kex.specs.declared.config.Config.{Config}
use Rattle.ssh_kex.specs.declared.exchange.Exchange.{Exchange}
use Rattle.ssh_kex.specs.declared.exchange.FinishedExchange.{FinishedExchange}
use Rattle.ssh_kex.specs.declared.exchange.NewKeys.{NewKeys}
use Rattle.ssh_kex.specs.declared.exchange.ServerHost.{ServerHost}
use Rattle.ssh_kex.specs.declared.session_state.SessionKexState.{SessionKexState}
use Rattle.ssh_rules.specs.Answering.{AnswersAll, PartTests, agreement_open, hosts_open, lookups_in, lookups_open, tests_by}
use Rattle.ssh_rules.specs.Counting.{calls_of, group_in}
use Rattle.ssh_rules.specs.Machine.{Asked, ExchangeBegun, Inside, Outside, Silent, Where}
use Rattle.ssh_rules.specs.Standing.{Rekeyed, RekeyedFrom, Standing, Submitted, is_outside}
use Rattle.ssh_rules.specs.Valid.{config_fault}
use Rattle.ssh_rules.proofs.Lemmas.{StageAnswers, answers_at, answers_same, answers_still, dropped_answers, groups_more, taken_answers}
use Rattle.ssh_transport.specs.Asking.{MoveAnswers, hosts_answer, stage_in, state_of}
use Rattle.ssh_transport.specs.Handling.{IsFor, IsOpen, Moves}
use Rattle.ssh_transport.specs.States.{after_exchanges, stands_of}
use Rattle.ssh_transport.specs.Handling.{GivesKeys, GivesNothing, GivesPayload, Outcome}
use Rattle.ssh_transport.specs.declared.session.Session.{Session}
use Rattle.ssh_transport.proofs.Handling.{finish_stage, skips_read}
use Rattle.ssh_transport.proofs.Kexinits.{between_config, between_side}
use Rattle.ssh_transport.proofs.Refusing.{set_for}

-- ---- by the finished exchanges and where a side stands

-- what was answered in between, by these counts
record Raised (side : Side) (records : List FinishedExchange) (w : Where) (records' : List FinishedExchange)
    (w' : Where) (agreement hosts lookups : ℕ) : Type 0 where
  of_agreement : calls_of side * length records' + agreement_open side w' ≡ calls_of side * length records +
      agreement_open side w + agreement
  of_hosts : calls_of side * length records' + hosts_open w' ≡ calls_of side * length records + hosts_open w + hosts
  of_lookups : lookups_in side records' + lookups_open side w' ≡ lookups_in side records + lookups_open side w + lookups

raised_none : (side : Side) (records : List FinishedExchange) (w : Where) → Raised side records w records w 0 0 0
raised_none side records w = record { of_agreement = omega arith; of_hosts = omega arith; of_lookups = omega arith }

raised_begun : (side : Side) (records : List FinishedExchange) (own : List ℕ)
    → Raised side records Outside records (Inside (Created own)) 0 0 0
raised_begun Client records own = record {
  of_agreement = omega arith;
  of_hosts = omega arith;
  of_lookups = omega
      arith;
}
raised_begun Server records own = record {
  of_agreement = omega arith;
  of_hosts = omega arith;
  of_lookups = omega
      arith;
}

-- to the machine that a message is for
raised_for : (s s1 : Session) (m : Machine) → IsFor s m s1
    → Raised s.side s.finished.items (stands_of s.finished.items s.kex) s1.finished.items (Inside m.stage) 0 0 0
raised_for s s1 m (inl f) =
    let same : s1.finished.items ≡ s.finished.items = ap (λ (x : Session). x.finished.items) (f.0).becomes in
    subst (λ (r : List FinishedExchange). Raised s.side s.finished.items (stands_of s.finished.items s.kex) r
    (Inside m.stage) 0 0 0) (sym same)
    (subst (λ (x : Stage). Raised s.side s.finished.items (stands_of s.finished.items s.kex) s.finished.items (Inside x)
    0 0 0) (sym (f.0).stage_is)
    (subst (λ (w : Where). Raised s.side s.finished.items w s.finished.items (Inside (Created (f.0).item.payload)) 0 0
    0) (sym f.1) (raised_begun s.side s.finished.items (f.0).item.payload)))
raised_for s s1 m (inr f) =
    let same : s1.finished.items ≡ s.finished.items = ap (λ (x : Session). x.finished.items) f.1 in
    let stands : stands_of s.finished.items s.kex ≡ Inside m.stage = ap
    (λ (k : SessionKexState Machine). stands_of s.finished.items k) f.0 in
    subst (λ (r : List FinishedExchange). Raised s.side s.finished.items (stands_of s.finished.items s.kex) r
    (Inside m.stage) 0 0 0) (sym same)
    (subst (λ (w : Where). Raised s.side s.finished.items w s.finished.items (Inside m.stage) 0 0 0) (sym stands)
    (raised_none s.side s.finished.items (Inside m.stage)))

-- ---- a message

raised_step : (side : Side) (records : List FinishedExchange) (stage next : Stage) → StageAnswers side stage next
    → Raised side records (Inside stage) records (Inside next) (answers_agreement side stage (Some next))
    (asks_hosts stage) (asks_groups stage)
raised_step side records stage next h =
    let a = h.agreement in
    let b = h.hosts in
    let c = h.lookups in
    record { of_agreement = omega (arith, a); of_hosts = omega (arith, b); of_lookups = omega (arith, c) }

-- by where a side comes to stand
abbrev RaisedTo : Side → List FinishedExchange → Stage → List FinishedExchange → Where → Type 0
RaisedTo side records stage records' w = Raised side records (Inside stage) records' w
    (answers_agreement side stage (stage_in w)) (hosts_answer stage w) (asks_groups stage)

either : (P : Where → Type 0) → P Silent → P Outside → (records : List FinishedExchange) → P (after_exchanges records)
either P a b [] = a
either P a b (x ∷ records) = b

-- the end of an exchange
raised_end : (side : Side) (x : Exchange) (made : FinishedExchange) (host : Option ServerHost)
    (records : List FinishedExchange) (kept : FinishedExchange) (q : List FinishedExchange)
    → IsStageOf side (AwaitsNewkeys x made host) → kept.names ≡ made.names
    → RaisedTo side records (AwaitsNewkeys x made host) (records ++ kept ∷ []) (after_exchanges q)
raised_end Client x made (Some host) records kept q f e =
    let l = length-append records (kept ∷ []) in
    either (RaisedTo Client records (AwaitsNewkeys x made (Some host)) (records ++ kept ∷ []))
    (record { of_agreement = omega (arith, l); of_hosts = omega (arith, l); of_lookups = refl })
    (record { of_agreement = omega (arith, l); of_hosts = omega (arith, l); of_lookups = refl }) q
raised_end Client x made None records kept q f e = cc
raised_end Server x made None records kept q f e =
    let l = length-append records (kept ∷ []) in
    let g = groups_more records (kept ∷ []) in
    let n : group_in (Some kept.names) ≡ group_in (Some made.names) = ap (λ (n : Names). group_in (Some n)) e in
    either (RaisedTo Server records (AwaitsNewkeys x made None) (records ++ kept ∷ []))
    (record { of_agreement = omega (arith, l); of_hosts = omega (arith, l); of_lookups = omega (arith, g, n) })
    (record { of_agreement = omega (arith, l); of_hosts = omega (arith, l); of_lookups = omega (arith, g, n) }) q
raised_end Server x made (Some host) records kept q f e = cc

-- a message that was handed to the machine
raised_moved : (says : Says) (s1 s' : Session) (m : Machine) (i : Incoming) (answer : Outcome)
    → config_fault m.setting.side m.setting.config ≡ None → IsStageOf m.setting.side m.stage
    → Moves says s1 m i answer s' → RaisedTo m.setting.side s1.finished.items m.stage s'.finished.items
    (stands_of s'.finished.items s'.kex)
raised_moved says s1 s' m i GivesPayload v f h = absurd h
raised_moved says s1 s' m i GivesNothing v f h =
    let records : s'.finished.items ≡ s1.finished.items = ap (λ (x : Session). x.finished.items) h.becomes in
    let stands : stands_of s'.finished.items s'.kex ≡ Inside (h.next).stage = ap
    (λ (x : Session). stands_of s'.finished.items x.kex) h.becomes in
    let stage : StageAnswers m.setting.side m.stage (h.next).stage = elim h.does [
      | inl d ↦ subst (λ (x : Stage). StageAnswers m.setting.side m.stage x)
          (sym (ap (λ (x : Machine). x.stage) d.kex_is)) (dropped_answers m.setting.side m.stage d.drops)
      | inr t ↦ taken_answers says m.setting m.stage i.seqn i.payload.now t.written (h.next).stage f t.kept t.takes
    ] in
    subst (λ (w : Where). RaisedTo m.setting.side s1.finished.items m.stage s'.finished.items w) (sym stands)
    (subst (λ (r : List FinishedExchange). RaisedTo m.setting.side s1.finished.items m.stage r (Inside (h.next).stage))
    (sym records) (raised_step m.setting.side s1.finished.items m.stage (h.next).stage stage))
raised_moved says s1 s' m i (GivesKeys opening again) v f h = by (h.done).ends
  where
    k : NewKeys
    k = h.newkeys

    kept : FinishedExchange
    kept = record { names = k.names; hash = k.hash; session_id = k.session_id; keys = k.keys }

    idle : stands_of s'.finished.items s'.kex ≡ after_exchanges s'.finished.items
    idle = ap (λ (x : Session). stands_of s'.finished.items x.kex) h.installs.3

    by : (Finishes m.stage i.payload.now (h.done).exchange (h.done).made h.host × ((h.done).written ≡ []))
        ⊎ Skips m.setting m.stage i.seqn i.payload.now (h.done).written (h.done).exchange (h.done).made h.host
        → RaisedTo m.setting.side s1.finished.items m.stage s'.finished.items (stands_of s'.finished.items s'.kex)
    by (inr q) = absurd (skips_read m.setting m.stage i.seqn i.payload.now (h.done).written (h.done).exchange
        (h.done).made h.host v q)
    by (inl q) =
        let e = (finish_stage m.stage i.payload.now (h.done).exchange (h.done).made h.host q.0).1 in
        subst (λ (w : Where). RaisedTo m.setting.side s1.finished.items m.stage s'.finished.items w) (sym idle)
        (subst (λ (r : List FinishedExchange). RaisedTo m.setting.side s1.finished.items m.stage r
        (after_exchanges s'.finished.items)) (sym h.installs.2)
        (subst (λ (x : Stage). RaisedTo m.setting.side s1.finished.items x (s1.finished.items ++ kept ∷ [])
        (after_exchanges s'.finished.items)) (sym e)
        (raised_end m.setting.side (h.done).exchange (h.done).made h.host s1.finished.items kept s'.finished.items
        (subst (λ (x : Stage). IsStageOf m.setting.side x) e f) ((h.done).newkeys).names_is)))

-- What was answered for a message that is taken.
pub message_answers : (says : Says) (s s1 s' : Session) (m : Machine) (i : Incoming) (answer : Outcome)
    (t t' : PartTests) → config_fault s.side s.config.now ≡ None → IsOpen s → IsFor s m s1 → Moves says s1 m i answer s'
    → MoveAnswers m.setting.side m.stage (stands_of s'.finished.items s'.kex) t t'
    → AnswersAll s.side (state_of s) (state_of s') t t'
message_answers says s s1 s' m i answer t t' v o f h a =
    let side : m.setting.side ≡ s.side = ap (λ (x : Setting). x.side) (set_for s s1 m o f)
    ∙ between_side s.side s.config.now _ _ in
    let config : m.setting.config ≡ s.config.now = ap (λ (x : Setting). x.config) (set_for s s1 m o f)
    ∙ between_config s.side s.config.now _ _ in
    let valid : config_fault m.setting.side m.setting.config ≡ None = subst
    (λ (x : Side). config_fault x m.setting.config ≡ None) (sym side)
    (subst (λ (x : Config). config_fault s.side x ≡ None) (sym config) v) in
    let b : MoveAnswers s.side m.stage (stands_of s'.finished.items s'.kex) t t' = subst
    (λ (x : Side). MoveAnswers x m.stage (stands_of s'.finished.items s'.kex) t t') side a in
    let r : RaisedTo s.side s1.finished.items m.stage s'.finished.items (stands_of s'.finished.items s'.kex) = subst
    (λ (x : Side). RaisedTo x s1.finished.items m.stage s'.finished.items (stands_of s'.finished.items s'.kex)) side
    (raised_moved says s1 s' m i answer valid a.fits h) in
    let q = raised_for s s1 m f in
    let qa = q.of_agreement in
    let qh = q.of_hosts in
    let ql = q.of_lookups in
    let ra = r.of_agreement in
    let rh = r.of_hosts in
    let rl = r.of_lookups in
    record {
      agreement = λ known p. answers_at t'.agreement _ _ (omega (arith, qa, ra)) known (b.agreement known _ p);
      hosts = λ known p. answers_at t'.hosts _ _ (omega (arith, qh, rh)) known (b.hosts known _ p);
      lookups = λ known p. answers_at t'.lookups _ _ (omega (arith, ql, rl)) known (b.lookups known _ p);
    }

-- ---- calls that ask no part

-- a payload that was submitted
pub answers_submitted : (says : Says) (old : Standing) (payload : List ℕ) (new : Standing) (t : PartTests)
    → Submitted says old payload new → AnswersAll old.side old.state new.state t t
answers_submitted says old payload new t h = answers_still says old.side old.config (id_text old.config.id) h.events
    old.state new.state t h.none_read (h.acts).steps

-- an exchange that was asked for
pub answers_rekeyed : (says : Says) (old new : Standing) (t : PartTests) → Rekeyed says old new
    → AnswersAll old.side old.state new.state t t
answers_rekeyed says old new t h = by (is_outside old.state.stands) h where
  by : (b : Bool) → RekeyedFrom b says old new → AnswersAll old.side old.state new.state t t
  by true k = answers_still says old.side old.config (id_text old.config.id) (ExchangeBegun Asked k.item ∷ []) old.state
      new.state t refl (k.acts).steps
  by false k = subst (λ (x : Standing). AnswersAll old.side old.state x.state t t) (sym k)
      (answers_same old.side old.state old.state t refl refl)

-- what the parts of a side say of themselves, where no part changed
pub tests_same : {A H G : Type 0} (ma : AgreementMembers A) (mh : HostKeysMembers H) (mg : GroupLookupMembers G)
    (a a' : A) (h h' : H) (g g' : G) → a' ≡ a → h' ≡ h → g' ≡ g → tests_by ma mh mg a' h' g' ≡ tests_by ma mh mg a h g
tests_same ma mh mg a a' h h' g g' e f k = ap (λ x. tests_by ma mh mg x h' g') e ∙ ap (λ x. tests_by ma mh mg a x g') f
    ∙ ap (λ x. tests_by ma mh mg a h x) k
