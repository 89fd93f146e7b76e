-- Before a side has recorded anything its order tests let pass what a stage awaits of an honest peer: as many packets
-- were read as messages, and no guess is marked.
use Rattle.std.proofs.Common.{◌≡◌, ℕ, ◌+◌, ◌≤◌, List, [], ◌∷◌, ◌++◌, length, refl, sym, ◌∙◌, ap, subst, arith, Option, Some, None, Bool, true, false, if◌then◌else◌, inl, inr, length-append}
use Rattle.ssh_packet.specs.Sealing.{Item, next_number}
use Rattle.ssh_wire.specs.declared.side.Side.{Side}
use Rattle.ssh_wire.specs.declared.side.Side.TheVariants.{Client, Server}
use Rattle.ssh_kex.specs.Stages as stages
use Rattle.ssh_negotiate.specs.declared.negotiation.Names.{Names}
use Rattle.ssh_kex.specs.declared.config.Config.{Config}
use Rattle.ssh_kex.specs.declared.exchange.FinishedExchange.{FinishedExchange}
use Rattle.ssh_kex.specs.Messages.{is_gex, newkeys}
use Rattle.ssh_kex.specs.Setting.{Says, Setting, Opened}
use Rattle.ssh_kex.specs.Stages.{Stage, Created, AwaitsGroup, AwaitsReply, AwaitsRequest, AwaitsValue, AwaitsNewkeys}
use Rattle.ssh_rules.specs.Machine.{Inside, SideState, setting, Event, IdHeard, PayloadSubmitted, ExchangeBegun, AnswerSent, PayloadSent, MessageTaken, GuessDropped, PayloadDelivered, PacketDropped, ExchangeFinished, Step, Steps, first_state, names_now, OrderBy, InOrder}
use Rattle.ssh_rules.proofs.side.StageFits.{Trace, no_trace, trace_after, FitsStage}
use Rattle.ssh_rules.proofs.side.Reasons.{NoDrops}
use Rattle.ssh_rules.specs.Snapshots.{NoGuesses}
use Rattle.ssh_rules.proofs.pair.Awaited.{IsReadable}
use Rattle.ssh_rules.proofs.side.Accounts.{trace_of}
use Rattle.ssh_rules.proofs.side.ReasonSteps.{head_drops}
use Rattle.ssh_rules.proofs.side.Discharged.{reads_unmarked}
use Rattle.ssh_rules.proofs.side.StageSteps.{at_stage, setting_side}
use Rattle.ssh_rules.proofs.side.LedgerSteps.{Tidy, tidy_step, tidy_first, closed_trace, may_closed}
use Rattle.ssh_rules.proofs.pair.Next.{Started, started_step, started_first}
use Rattle.ssh_rules.proofs.side.Ordered.{takes_names}
use Rattle.ssh_rules.proofs.pair.Passes.{order_passes}
use Rattle.ssh_rules.proofs.side.Prompt.{full_made}

-- no stage has read more than four messages
four : (kind : Bool) (n : ℕ) → n ≡ (if kind then 4 else 3) → n ≤ 4
four true n e = omega (arith, e)
four false n e = omega (arith, e)

few_theirs : (says : Says) (s : Setting) (stage : Stage) (own theirs : List (List ℕ)) → FitsStage says s stage own theirs → length theirs ≤ 4
few_theirs says s (Created k) own theirs f = (let e : length theirs ≡ 0 = ap length f.theirs_is in omega (arith, e))
few_theirs says s (AwaitsGroup o) own theirs f = (let e : length theirs ≡ 1 = ap length f.theirs_is in omega (arith, e))
few_theirs says s (AwaitsReply o None l p) own theirs f = (let e : length theirs ≡ 1 = ap length f.theirs_is in omega (arith, e))
few_theirs says s (AwaitsReply o (Some g) l p) own theirs f = (let e : length theirs ≡ 2 = ap length f.theirs_is in omega (arith, e))
few_theirs says s (AwaitsRequest o) own theirs f = (let e : length theirs ≡ 1 = ap length f.theirs_is in omega (arith, e))
few_theirs says s (AwaitsValue o None) own theirs f = (let e : length theirs ≡ 1 = ap length f.theirs_is in omega (arith, e))
few_theirs says s (AwaitsValue o (Some g)) own theirs f = (let e : length theirs ≡ 2 = ap length f.theirs_is in omega (arith, e))
few_theirs says s (AwaitsNewkeys exchange x host) own theirs f = (let e = four (is_gex x.names.kex) _ (full_made s.side says s own (theirs ++ newkeys ∷ []) exchange x host (is_gex x.names.kex) refl f).theirs_is in let l = length-append theirs (newkeys ∷ []) in omega (arith, e, l))

-- what is known before the first record
pub record IsEarly (st : SideState) (t : Trace) : Type 0 where
  pub number : st.records ≡ [] → st.reading.number ≡ length t.theirs
  pub unmarked : (n : Names) → names_now st.stands ≡ Some n → n.guessed_ignored ≡ false

at_early : (m st' : SideState) (t : Trace) → st' ≡ m → IsEarly m t → IsEarly st' t
at_early m st' t e h = subst (λ s. IsEarly s t) (sym e) h

none_some : (n : Names) → None ≡ Some n → ⊥
none_some n e = cc

some_is : (a b : Names) → Some a ≡ Some b → a ≡ b
some_is a b e = cc

snoc_not_nil : (xs : List FinishedExchange) (x : FinishedExchange) → xs ++ x ∷ [] ≡ [] → ⊥
snoc_not_nil [] x e = cc
snoc_not_nil (y ∷ xs) x e = cc

one_more : (number n m : ℕ) → number ≡ n → m ≡ n + 1 → n ≤ 4 → next_number number ≡ m
one_more number n m e f l = omega (arith, e, f, l)

-- the names that a stage has behind a row
row_unmarked : (says : Says) (side : Side) (config : Config) (own_id : List ℕ) (st : SideState) (stage next : Stage) (seqn : ℕ) (payload : List ℕ) (written : List (List ℕ)) → ((n : Names) → names_now (Inside stage) ≡ Some n → n.guessed_ignored ≡ false) → stages.Takes says (setting side config own_id st) stage seqn payload written next → (n : Names) → names_now (Inside next) ≡ Some n → n.guessed_ignored ≡ false
row_unmarked says side config own_id st stage next seqn payload written before h n e = elim (takes_names says (setting side config own_id st) stage seqn payload written next h) [
  | inl same ↦ before n (sym same ∙ e)
  | inr c ↦ opened c.0 (subst (λ (q : Stage). stages.Takes says (setting side config own_id st) q seqn payload written next) c.1 h)
] where
  by_side : (sd : Side) (kind : Bool) (o : Opened) → stages.OpensBy sd kind says (setting side config own_id st) o written next → names_now (Inside next) ≡ Some o.names
  by_side Client true o q = ap (λ x. names_now (Inside x)) q.next_is
  by_side Client false o q = ap (λ x. names_now (Inside x)) q.leads.next_is
  by_side Server true o q = ap (λ x. names_now (Inside x)) q.next_is
  by_side Server false o q = ap (λ x. names_now (Inside x)) q.next_is

  opened : (own : List ℕ) → stages.Takes says (setting side config own_id st) (Created own) seqn payload written next → n.guessed_ignored ≡ false
  opened own q =
      let same : q.names ≡ n = some_is q.names n (sym (by_side (setting side config own_id st).side (is_gex q.names.kex) _ q.opens) ∙ e) in
      ap (λ (m : Names). m.guessed_ignored) (sym same) ∙ reads_unmarked (setting side config own_id st).side (setting side config own_id st).config _ payload q.names q.reads.read

pub early_step : (says : Says) (side : Side) (config : Config) (own_id : List ℕ) (st : SideState) (e : Event) (st' : SideState) (t : Trace) → NoGuesses (e ∷ []) → NoDrops (e ∷ []) → Tidy says side config own_id st t → Started st t → IsEarly st t → Step says side config own_id st e st' → IsEarly st' (trace_after t e)
early_step says side config own_id st (IdHeard id) st' t g d y s q h = at_early _ st' t h.becomes (record { number = q.number; unmarked = q.unmarked })
early_step says side config own_id st (PayloadSubmitted p) st' t g d y s q h = at_early _ st' t h.becomes (record { number = q.number; unmarked = q.unmarked })
early_step says side config own_id st (ExchangeBegun cause i) st' t g d y s q h =
    let closed = closed_trace says side config own_id st t y.fits (may_closed config st cause h.may) in
    at_early _ st' (trace_after t (ExchangeBegun cause i)) h.becomes (record { number = λ a. q.number a ∙ ap length closed.1; unmarked = λ n e. absurd (none_some n e) })
early_step says side config own_id st (AnswerSent i r) st' t g d y s q h = at_early _ st' (trace_after t (AnswerSent i r)) h.becomes (record { number = q.number; unmarked = q.unmarked })
early_step says side config own_id st (PayloadSent i) st' t g d y s q h = at_early _ st' t h.becomes (record { number = q.number; unmarked = q.unmarked })
early_step says side config own_id st (MessageTaken i) st' t g d y s q h =
    let few = few_theirs says (setting side config own_id st) h.stage t.own t.theirs (at_stage says side config own_id st t h.stage h.inside h.owes y.fits) in
    at_early _ st' (trace_after t (MessageTaken i)) h.becomes (record {
      number = λ a. one_more st.reading.number (length t.theirs) (length (t.theirs ++ i.payload ∷ [])) (q.number a) (length-append t.theirs (i.payload ∷ [])) few;
      unmarked = λ n e. row_unmarked says side config own_id st h.stage h.next (next_number st.reading.number) i.payload h.answers (λ m f. q.unmarked m (ap names_now h.inside ∙ f)) h.takes n e;
    })
early_step says side config own_id st (GuessDropped i) st' t g d y s q h = absurd g
early_step says side config own_id st (PayloadDelivered i) st' t g d y s q h = at_early _ st' t h.becomes (record { number = λ a. absurd (none a); unmarked = q.unmarked }) where
  none : st.records ≡ [] → ⊥
  none a = (let z : length st.records ≡ 0 = ap length a in elim h.may [ inl o ↦ (let f = s.outside o in omega (arith, z, f)) | inr o ↦ (let f = o.1 in omega (arith, z, f)) ])
early_step says side config own_id st (PacketDropped i) st' t g d y s q h = absurd d
early_step says side config own_id st (ExchangeFinished i x) st' t g d y s q h = at_early _ st' no_trace h.becomes (record { number = λ a. absurd (snoc_not_nil st.records x a); unmarked = λ n e. absurd (none_some n e) })

head_guesses : (e : Event) (es : List Event) → NoGuesses (e ∷ es) → NoGuesses (e ∷ []) × NoGuesses es
head_guesses (ExchangeBegun cause i) es h = (tt, h)
head_guesses (IdHeard id) es h = (tt, h)
head_guesses (PayloadSubmitted p) es h = (tt, h)
head_guesses (AnswerSent i q) es h = (tt, h)
head_guesses (PayloadSent i) es h = (tt, h)
head_guesses (MessageTaken i) es h = (tt, h)
head_guesses (GuessDropped i) es h = absurd h
head_guesses (PayloadDelivered i) es h = (tt, h)
head_guesses (PacketDropped i) es h = (tt, h)
head_guesses (ExchangeFinished i x) es h = (tt, h)

early_steps : (says : Says) (side : Side) (config : Config) (own_id : List ℕ) (log : List Event) (st st' : SideState) (t : Trace) → NoGuesses log → NoDrops log → Tidy says side config own_id st t → Started st t → IsEarly st t → Steps says side config own_id st log st' → IsEarly st' (trace_of t log)
early_steps says side config own_id [] st st' t g d y s q h = subst (λ m. IsEarly m t) (sym h) q
early_steps says side config own_id (e ∷ es) st st' t g d y s q h =
    let gg = head_guesses e es g in let dd = head_drops e es d in
    early_steps says side config own_id es h.0 st' (trace_after t e) gg.1 dd.1 (tidy_step says side config own_id st e h.0 t y h.1) (started_step says side config own_id st e h.0 t s h.1) (early_step says side config own_id st e h.0 t gg.0 dd.0 y s q h.1) h.2

-- of a run that dropped nothing
pub early_run : (says : Says) (side : Side) (config : Config) (own_id : List ℕ) (log : List Event) (st : SideState) → NoGuesses log → NoDrops log → Steps says side config own_id first_state log st → IsEarly st (trace_of no_trace log)
early_run says side config own_id log st g d h = early_steps says side config own_id log first_state st no_trace g d (tidy_first says side config own_id) started_first (record { number = λ e. refl; unmarked = λ n e. absurd (none_some n e) }) h

-- So what a stage awaits of an honest peer passes the order test.
pub awaited_passes : (says : Says) (side : Side) (config : Config) (own_id : List ℕ) (st : SideState) (t : Trace) (stage : Stage) (writer : Side) (peer : Config) (i : Item) → Tidy says side config own_id st t → IsEarly st t → st.stands ≡ Inside stage → st.owed ≡ [] → IsReadable writer peer stage i.payload → InOrder side st i
awaited_passes says side config own_id st t stage writer peer i y q e o r = subst (λ n. OrderBy side st.reading.number i st.records n) (sym (ap names_now e)) (by st.records refl) where
  by : (xs : List FinishedExchange) → st.records ≡ xs → OrderBy side st.reading.number i xs (names_now (Inside stage))
  by [] a = subst (λ d. OrderBy d st.reading.number i [] (names_now (Inside stage))) (setting_side side config own_id st) (order_passes says (setting side config own_id st) stage t.own t.theirs writer peer st.reading.number i [] (at_stage says side config own_id st t stage e o y.fits) (q.number a) (λ n f. q.unmarked n (ap names_now e ∙ f)) r)
  by (x ∷ xs) a = later (names_now (Inside stage)) where
    later : (n : Option Names) → OrderBy side st.reading.number i (x ∷ xs) n
    later None = tt
    later (Some n) = tt
