-- Calls compose: the turns of a link leave a run of each side, in step, with as many exchanges as are charged.
use Rattle.std.proofs.Common.{◌≡◌, ℕ, List, [], ◌∷◌, ◌++◌, slice_get, refl, sym, ◌∙◌, ap, subst, Option, Some, None, ◌⊎◌, inl, inr, append_assoc}
use Rattle.ssh_wire.specs.declared.side.Side.{Side}
use Rattle.ssh_wire.specs.declared.side.Side.TheVariants.{Client, Server}
use Rattle.ssh_kex.specs.declared.config.Config.{Config}
use Rattle.ssh_kex.specs.declared.exchange.FinishedExchange.{FinishedExchange}
use Rattle.ssh_wire.specs.Sides.{other_side}
use Rattle.ssh_kex.specs.Setting.{Says}
use Rattle.ssh_kex.specs.Stages.{Stage, AwaitsNewkeys}
use Rattle.ssh_rules.specs.Wire.{HasFront}
use Rattle.ssh_rules.specs.Machine.{Where, Silent, Outside, Inside, SideState, Cause, Start, Asked, Answering, WriteLimit, ReadLimit, Event, IdHeard, PayloadSubmitted, ExchangeBegun, AnswerSent, PayloadSent, MessageTaken, GuessDropped, PayloadDelivered, PacketDropped, ExchangeFinished, Step, Steps, first_state}
use Rattle.ssh_rules.specs.Log.{wrote, handled, kept_in, recorded, sent_bytes, read_bytes}
use Rattle.ssh_rules.proofs.pair.Facts.{MadeFrom, SideFacts, MakesOne, InStep}
use Rattle.ssh_rules.specs.Snapshots.{HasRun, NoGuesses, RunsInLink, IsReached}
use Rattle.ssh_rules.specs.Turns.{Turn, LinkEnd, World, first_world, Talkers, HearsAs, TakesTurn, PlaysTurn, Plays}
use Rattle.ssh_rules.proofs.pair.Joint.{honest_carrier}
use Rattle.ssh_rules.proofs.side.Ran.{steps_join, sent_join, read_join, made_by, run_has_facts, kept_all, recorded_is}
use Rattle.ssh_rules.proofs.pair.NoGuess.{no_guess, FollowsNone}
use Rattle.ssh_rules.specs.Valid.{HasSizes}
use Rattle.ssh_rules.proofs.side.Accounts.{kept_run}

-- ---- lists of events, joined

pub guesses_join : (a b : List Event) → NoGuesses a → NoGuesses b → NoGuesses (a ++ b)
guesses_join [] b h k = k
guesses_join (IdHeard id ∷ a) b h k = guesses_join a b h k
guesses_join (PayloadSubmitted p ∷ a) b h k = guesses_join a b h k
guesses_join (ExchangeBegun cause i ∷ a) b h k = guesses_join a b h k
guesses_join (AnswerSent i q ∷ a) b h k = guesses_join a b h k
guesses_join (PayloadSent i ∷ a) b h k = guesses_join a b h k
guesses_join (MessageTaken i ∷ a) b h k = guesses_join a b h k
guesses_join (GuessDropped i ∷ a) b h k = absurd h
guesses_join (PayloadDelivered i ∷ a) b h k = guesses_join a b h k
guesses_join (PacketDropped i ∷ a) b h k = guesses_join a b h k
guesses_join (ExchangeFinished i x ∷ a) b h k = guesses_join a b h k

pub hears_join : (text : List ℕ) (a b : List Event) → HearsAs text a → HearsAs text b → HearsAs text (a ++ b)
hears_join text [] b h k = k
hears_join text (IdHeard id ∷ a) b h k = (h.0, hears_join text a b h.1 k)
hears_join text (PayloadSubmitted p ∷ a) b h k = hears_join text a b h k
hears_join text (ExchangeBegun cause i ∷ a) b h k = hears_join text a b h k
hears_join text (AnswerSent i q ∷ a) b h k = hears_join text a b h k
hears_join text (PayloadSent i ∷ a) b h k = hears_join text a b h k
hears_join text (MessageTaken i ∷ a) b h k = hears_join text a b h k
hears_join text (GuessDropped i ∷ a) b h k = hears_join text a b h k
hears_join text (PayloadDelivered i ∷ a) b h k = hears_join text a b h k
hears_join text (PacketDropped i ∷ a) b h k = hears_join text a b h k
hears_join text (ExchangeFinished i x ∷ a) b h k = hears_join text a b h k

-- ---- what a side has heard

HeardAs : List ℕ → SideState → Type 0
HeardAs text st = ((st.stands ≡ Silent) × ((st.heard ≡ None) ⊎ (st.heard ≡ Some text))) ⊎ (st.heard ≡ Some text)

some_none : {A : Type 0} (x : Option A) → Rattle.std.specs.Prelude.IsSome x → x ≡ None → ⊥
some_none None h e = cc
some_none (Some y) h e = cc

out_silent : Outside ≡ Silent → ⊥
out_silent e = cc

in_silent : (stage : Stage) → Inside stage ≡ Silent → ⊥
in_silent stage e = cc

not_silent : (text : List ℕ) (st : SideState) → (st.stands ≡ Silent → ⊥) → HeardAs text st → st.heard ≡ Some text
unfolding HeardAs
not_silent text st n (inl h) = absurd (n h.0)
not_silent text st n (inr h) = h

stage_silent : (w : Where) (stage : Stage) → w ≡ Inside stage → w ≡ Silent → ⊥
stage_silent w stage e f = in_silent stage (sym e ∙ f)

outside_silent : (w : Where) → w ≡ Outside → w ≡ Silent → ⊥
outside_silent w e f = out_silent (sym e ∙ f)

may_heard : (config : Config) (text : List ℕ) (st : SideState) (cause : Cause) → Rattle.ssh_rules.specs.Machine.MayBegin config st cause → HeardAs text st → st.heard ≡ Some text
unfolding HeardAs
may_heard config text st Start m (inl h) = elim h.1 [ inl e ↦ absurd (some_none st.heard m.1 e) | inr e ↦ e ]
may_heard config text st Start m (inr h) = h
may_heard config text st Asked m h = not_silent text st (outside_silent st.stands m) h
may_heard config text st Answering m h = not_silent text st (outside_silent st.stands m) h
may_heard config text st WriteLimit m h = not_silent text st (outside_silent st.stands m.0) h
may_heard config text st ReadLimit m h = not_silent text st (outside_silent st.stands m.0) h

heard_step : (says : Says) (side : Side) (config : Config) (own_id text : List ℕ) (st : SideState) (e : Event) (st' : SideState) → HearsAs text (e ∷ []) → HeardAs text st → Step says side config own_id st e st' → HeardAs text st'
unfolding HeardAs
heard_step says side config own_id text st (IdHeard id) st' a h g = subst (HeardAs text) (sym g.becomes) (inl (g.silent, inr (ap Some a.0)))
heard_step says side config own_id text st (PayloadSubmitted p) st' a h g = subst (HeardAs text) (sym g.becomes) h
heard_step says side config own_id text st (ExchangeBegun cause i) st' a h g = subst (HeardAs text) (sym g.becomes) (inr (may_heard config text st cause g.may h))
heard_step says side config own_id text st (AnswerSent i q) st' a h g = subst (HeardAs text) (sym g.becomes) h
heard_step says side config own_id text st (PayloadSent i) st' a h g = subst (HeardAs text) (sym g.becomes) h
heard_step says side config own_id text st (MessageTaken i) st' a h g = subst (HeardAs text) (sym g.becomes) (inr (not_silent text st (stage_silent st.stands g.stage g.inside) h))
heard_step says side config own_id text st (GuessDropped i) st' a h g = subst (HeardAs text) (sym g.becomes) (inr (not_silent text st (stage_silent st.stands g.stage g.inside) h))
heard_step says side config own_id text st (PayloadDelivered i) st' a h g = subst (HeardAs text) (sym g.becomes) h
heard_step says side config own_id text st (PacketDropped i) st' a h g = subst (HeardAs text) (sym g.becomes) h
heard_step says side config own_id text st (ExchangeFinished i x) st' a h g = subst (HeardAs text) (sym g.becomes) (inr (not_silent text st (stage_silent st.stands (AwaitsNewkeys g.exchange x g.host) g.inside) h))

head_hears : (text : List ℕ) (e : Event) (es : List Event) → HearsAs text (e ∷ es) → HearsAs text (e ∷ []) × HearsAs text es
head_hears text (IdHeard id) es h = ((h.0, tt), h.1)
head_hears text (PayloadSubmitted p) es h = (tt, h)
head_hears text (ExchangeBegun cause i) es h = (tt, h)
head_hears text (AnswerSent i q) es h = (tt, h)
head_hears text (PayloadSent i) es h = (tt, h)
head_hears text (MessageTaken i) es h = (tt, h)
head_hears text (GuessDropped i) es h = (tt, h)
head_hears text (PayloadDelivered i) es h = (tt, h)
head_hears text (PacketDropped i) es h = (tt, h)
head_hears text (ExchangeFinished i x) es h = (tt, h)

heard_steps : (says : Says) (side : Side) (config : Config) (own_id text : List ℕ) (log : List Event) (st st' : SideState) → HearsAs text log → HeardAs text st → Steps says side config own_id st log st' → HeardAs text st'
heard_steps says side config own_id text [] st st' a h g = subst (HeardAs text) (sym g) h
heard_steps says side config own_id text (e ∷ es) st st' a h g = let b = head_hears text e es a in heard_steps says side config own_id text es g.0 st' b.1 (heard_step says side config own_id text st e g.0 b.0 h g.1) g.2

get_some : {A : Type 0} (xs : List A) (n : ℕ) (x : A) → slice_get xs n ≡ Some x → xs ≡ [] → ⊥
get_some [] n x h e = cc
get_some (y ∷ xs) n x h e = cc

-- a side that has recorded something has heard the other
pub heard_is : (says : Says) (side : Side) (config : Config) (own_id text : List ℕ) (log : List Event) (st : SideState) → HearsAs text log → Steps says side config own_id first_state log st → (n : ℕ) (x : FinishedExchange) → slice_get (recorded log) n ≡ Some x → st.heard ≡ Some text
unfolding HeardAs
heard_is says side config own_id text log st a g n x h =
    let k = kept_run says side config own_id log st g in
    not_silent text st (λ e. get_some (recorded log) n x h (sym (recorded_is says side config own_id log first_state st g) ∙ k.accounts.silent e)) (heard_steps says side config own_id text log first_state st a (inl (refl, inl refl)) g)

-- and so has a side that isn't silent
pub heard_loud : (says : Says) (side : Side) (config : Config) (own_id text : List ℕ) (log : List Event) (st : SideState) → HearsAs text log → Steps says side config own_id first_state log st → (st.stands ≡ Silent → ⊥) → st.heard ≡ Some text
unfolding HeardAs
heard_loud says side config own_id text log st a g n = not_silent text st n (heard_steps says side config own_id text log first_state st a (inl (refl, inl refl)) g)

-- ---- one side, with the other's run

abbrev pub heard_of : Talkers → Side → Option (List ℕ)
heard_of t side = Some (t.own_id (other_side side))

abbrev pub made_in : Talkers → MadeFrom
made_in t = made_by t.says t.config t.own_id (heard_of t)

pub facts : (t : Talkers) (side : Side) (log : List Event) (st : SideState) (sent fed unfinished : List ℕ) → HearsAs (t.own_id (other_side side)) log → NoGuesses log → HasRun (t.says side) side (t.config side) (t.own_id side) log st sent fed unfinished → SideFacts (made_in t) side (wrote log) (handled log) (recorded log) sent fed unfinished
facts t side log st sent fed unfinished a g r = run_has_facts t.says t.config t.own_id (heard_of t) side log st sent fed unfinished g (heard_is (t.says side) side (t.config side) (t.own_id side) (t.own_id (other_side side)) log st a r.steps) r

-- by either side: what was handled is a front of what the other wrote
pub carried_to : (t : Talkers) (side : Side) (log plog : List Event) (sent fed rest psent pfed prest : List ℕ) → MakesOne (made_in t) → SideFacts (made_in t) side (wrote log) (handled log) (recorded log) sent fed rest → SideFacts (made_in t) (other_side side) (wrote plog) (handled plog) (recorded plog) psent pfed prest → HasFront psent fed → HasFront sent pfed → HasFront (wrote plog) (handled log)
carried_to t Client log plog sent fed rest psent pfed prest one f p a b = (honest_carrier (made_in t) one (wrote log) (handled log) (wrote plog) (handled plog) (recorded log) (recorded plog) sent fed rest psent pfed prest f p b a).to_client
carried_to t Server log plog sent fed rest psent pfed prest one f p a b = (honest_carrier (made_in t) one (wrote plog) (handled plog) (wrote log) (handled log) (recorded plog) (recorded log) psent pfed prest sent fed rest p f a b).to_server

-- what holds of the two configurations
pub record AreFit (t : Talkers) : Type 0 where
  pub one : MakesOne (made_in t)
  pub sizes : (side : Side) → HasSizes (t.config side)
  pub follows : (side : Side) → FollowsNone side (t.config side) (t.config (other_side side))

pub more_sent : (sent fed more : List ℕ) → HasFront sent fed → HasFront (sent ++ more) fed
more_sent sent fed more s = (s.0 ++ more, sym (append_assoc fed s.0 more) ∙ ap (λ t. t ++ more) s.1)

fed_on : (t : Talkers) (side : Side) (log : List Event) (e : Event) (es : List Event) (st mid : SideState) (fed unfinished : List ℕ) → Steps (t.says side) side (t.config side) (t.own_id side) first_state log st → Step (t.says side) side (t.config side) (t.own_id side) st e mid → fed ≡ read_bytes side first_state.reading log ++ (read_bytes side st.reading (e ∷ es) ++ unfinished) → fed ≡ read_bytes side first_state.reading (log ++ e ∷ []) ++ (read_bytes side mid.reading es ++ unfinished)
fed_on t side log e es st mid fed unfinished g k f =
    let one = read_join (t.says side) side (t.config side) (t.own_id side) log (e ∷ []) first_state st g in
    let two = read_join (t.says side) side (t.config side) (t.own_id side) (e ∷ []) es st mid (mid, k, refl) in
    f ∙ (ap (λ z. read_bytes side first_state.reading log ++ (z ++ unfinished)) two
    ∙ (ap (λ z. read_bytes side first_state.reading log ++ z) (append_assoc (read_bytes side st.reading (e ∷ [])) (read_bytes side mid.reading es) unfinished)
    ∙ (sym (append_assoc (read_bytes side first_state.reading log) (read_bytes side st.reading (e ∷ [])) (read_bytes side mid.reading es ++ unfinished))
    ∙ ap (λ z. z ++ (read_bytes side mid.reading es ++ unfinished)) (sym one))))

sent_on : (t : Talkers) (side : Side) (log : List Event) (e : Event) (st : SideState) (pfed : List ℕ) → Steps (t.says side) side (t.config side) (t.own_id side) first_state log st → HasFront (sent_bytes side first_state.writing log) pfed → HasFront (sent_bytes side first_state.writing (log ++ e ∷ [])) pfed
sent_on t side log e st pfed g y = subst (λ z. HasFront z pfed) (sym (sent_join (t.says side) side (t.config side) (t.own_id side) log (e ∷ []) first_state st g)) (more_sent (sent_bytes side first_state.writing log) pfed (sent_bytes side st.writing (e ∷ [])) y)

-- the packets that come next are no guesses, in whatever call they come
no_guesses : (t : Talkers) (side : Side) (log es plog : List Event) (st st' pst : SideState) (fed unfinished psent pfed prest : List ℕ) → AreFit t
    → Steps (t.says side) side (t.config side) (t.own_id side) first_state log st → HearsAs (t.own_id (other_side side)) log → NoGuesses log
    → Steps (t.says side) side (t.config side) (t.own_id side) st es st' → HearsAs (t.own_id (other_side side)) es
    → fed ≡ read_bytes side first_state.reading log ++ (read_bytes side st.reading es ++ unfinished)
    → HasRun (t.says (other_side side)) (other_side side) (t.config (other_side side)) (t.own_id (other_side side)) plog pst psent pfed prest → HearsAs (t.own_id (other_side (other_side side))) plog → NoGuesses plog
    → HasFront psent fed → HasFront (sent_bytes side first_state.writing log) pfed → NoGuesses es
no_guesses t side log [] plog st st' pst fed unfinished psent pfed prest fit g a n k b f r pa pn u v = tt
no_guesses t side log (GuessDropped i ∷ es) plog st st' pst fed unfinished psent pfed prest fit g a n k b f r pa pn u v =
    let mine = facts t side log st (sent_bytes side first_state.writing log) fed (read_bytes side st.reading (GuessDropped i ∷ es) ++ unfinished) a n (record { steps = g; sent_is = refl; fed_is = f }) in
    let theirs = facts t (other_side side) plog pst psent pfed prest pa pn r in
    let front = carried_to t side log plog _ fed _ psent pfed prest fit.one mine theirs u v in
    no_guess (t.says side) side (t.config side) (t.own_id side) (t.says (other_side side)) (t.config (other_side side)) (t.own_id (other_side side)) (wrote log) (kept_in log) (wrote plog) (kept_in plog) st pst _ _ i k.0 (fit.follows side) (fit.sizes (other_side side))
    (kept_run (t.says side) side (t.config side) (t.own_id side) log st g) (kept_run (t.says (other_side side)) (other_side side) (t.config (other_side side)) (t.own_id (other_side side)) plog pst r.steps) (subst (HasFront (wrote plog)) (sym (kept_all log n)) front) k.1
no_guesses t side log (IdHeard id ∷ es) plog st st' pst fed unfinished psent pfed prest fit g a n k b f r pa pn u v = no_guesses t side (log ++ IdHeard id ∷ []) es plog k.0 st' pst fed unfinished psent pfed prest fit (steps_join (t.says side) side (t.config side) (t.own_id side) log (IdHeard id ∷ []) first_state st k.0 g (k.0, k.1, refl)) (hears_join (t.own_id (other_side side)) log (IdHeard id ∷ []) a (head_hears (t.own_id (other_side side)) (IdHeard id) es b).0) (guesses_join log (IdHeard id ∷ []) n tt) k.2 (head_hears (t.own_id (other_side side)) (IdHeard id) es b).1 (fed_on t side log (IdHeard id) es st k.0 fed unfinished g k.1 f) r pa pn u (sent_on t side log (IdHeard id) st pfed g v)
no_guesses t side log (PayloadSubmitted p ∷ es) plog st st' pst fed unfinished psent pfed prest fit g a n k b f r pa pn u v = no_guesses t side (log ++ PayloadSubmitted p ∷ []) es plog k.0 st' pst fed unfinished psent pfed prest fit (steps_join (t.says side) side (t.config side) (t.own_id side) log (PayloadSubmitted p ∷ []) first_state st k.0 g (k.0, k.1, refl)) (hears_join (t.own_id (other_side side)) log (PayloadSubmitted p ∷ []) a (head_hears (t.own_id (other_side side)) (PayloadSubmitted p) es b).0) (guesses_join log (PayloadSubmitted p ∷ []) n tt) k.2 (head_hears (t.own_id (other_side side)) (PayloadSubmitted p) es b).1 (fed_on t side log (PayloadSubmitted p) es st k.0 fed unfinished g k.1 f) r pa pn u (sent_on t side log (PayloadSubmitted p) st pfed g v)
no_guesses t side log (ExchangeBegun cause i ∷ es) plog st st' pst fed unfinished psent pfed prest fit g a n k b f r pa pn u v = no_guesses t side (log ++ ExchangeBegun cause i ∷ []) es plog k.0 st' pst fed unfinished psent pfed prest fit (steps_join (t.says side) side (t.config side) (t.own_id side) log (ExchangeBegun cause i ∷ []) first_state st k.0 g (k.0, k.1, refl)) (hears_join (t.own_id (other_side side)) log (ExchangeBegun cause i ∷ []) a (head_hears (t.own_id (other_side side)) (ExchangeBegun cause i) es b).0) (guesses_join log (ExchangeBegun cause i ∷ []) n tt) k.2 (head_hears (t.own_id (other_side side)) (ExchangeBegun cause i) es b).1 (fed_on t side log (ExchangeBegun cause i) es st k.0 fed unfinished g k.1 f) r pa pn u (sent_on t side log (ExchangeBegun cause i) st pfed g v)
no_guesses t side log (AnswerSent i w ∷ es) plog st st' pst fed unfinished psent pfed prest fit g a n k b f r pa pn u v = no_guesses t side (log ++ AnswerSent i w ∷ []) es plog k.0 st' pst fed unfinished psent pfed prest fit (steps_join (t.says side) side (t.config side) (t.own_id side) log (AnswerSent i w ∷ []) first_state st k.0 g (k.0, k.1, refl)) (hears_join (t.own_id (other_side side)) log (AnswerSent i w ∷ []) a (head_hears (t.own_id (other_side side)) (AnswerSent i w) es b).0) (guesses_join log (AnswerSent i w ∷ []) n tt) k.2 (head_hears (t.own_id (other_side side)) (AnswerSent i w) es b).1 (fed_on t side log (AnswerSent i w) es st k.0 fed unfinished g k.1 f) r pa pn u (sent_on t side log (AnswerSent i w) st pfed g v)
no_guesses t side log (PayloadSent i ∷ es) plog st st' pst fed unfinished psent pfed prest fit g a n k b f r pa pn u v = no_guesses t side (log ++ PayloadSent i ∷ []) es plog k.0 st' pst fed unfinished psent pfed prest fit (steps_join (t.says side) side (t.config side) (t.own_id side) log (PayloadSent i ∷ []) first_state st k.0 g (k.0, k.1, refl)) (hears_join (t.own_id (other_side side)) log (PayloadSent i ∷ []) a (head_hears (t.own_id (other_side side)) (PayloadSent i) es b).0) (guesses_join log (PayloadSent i ∷ []) n tt) k.2 (head_hears (t.own_id (other_side side)) (PayloadSent i) es b).1 (fed_on t side log (PayloadSent i) es st k.0 fed unfinished g k.1 f) r pa pn u (sent_on t side log (PayloadSent i) st pfed g v)
no_guesses t side log (MessageTaken i ∷ es) plog st st' pst fed unfinished psent pfed prest fit g a n k b f r pa pn u v = no_guesses t side (log ++ MessageTaken i ∷ []) es plog k.0 st' pst fed unfinished psent pfed prest fit (steps_join (t.says side) side (t.config side) (t.own_id side) log (MessageTaken i ∷ []) first_state st k.0 g (k.0, k.1, refl)) (hears_join (t.own_id (other_side side)) log (MessageTaken i ∷ []) a (head_hears (t.own_id (other_side side)) (MessageTaken i) es b).0) (guesses_join log (MessageTaken i ∷ []) n tt) k.2 (head_hears (t.own_id (other_side side)) (MessageTaken i) es b).1 (fed_on t side log (MessageTaken i) es st k.0 fed unfinished g k.1 f) r pa pn u (sent_on t side log (MessageTaken i) st pfed g v)
no_guesses t side log (PayloadDelivered i ∷ es) plog st st' pst fed unfinished psent pfed prest fit g a n k b f r pa pn u v = no_guesses t side (log ++ PayloadDelivered i ∷ []) es plog k.0 st' pst fed unfinished psent pfed prest fit (steps_join (t.says side) side (t.config side) (t.own_id side) log (PayloadDelivered i ∷ []) first_state st k.0 g (k.0, k.1, refl)) (hears_join (t.own_id (other_side side)) log (PayloadDelivered i ∷ []) a (head_hears (t.own_id (other_side side)) (PayloadDelivered i) es b).0) (guesses_join log (PayloadDelivered i ∷ []) n tt) k.2 (head_hears (t.own_id (other_side side)) (PayloadDelivered i) es b).1 (fed_on t side log (PayloadDelivered i) es st k.0 fed unfinished g k.1 f) r pa pn u (sent_on t side log (PayloadDelivered i) st pfed g v)
no_guesses t side log (PacketDropped i ∷ es) plog st st' pst fed unfinished psent pfed prest fit g a n k b f r pa pn u v = no_guesses t side (log ++ PacketDropped i ∷ []) es plog k.0 st' pst fed unfinished psent pfed prest fit (steps_join (t.says side) side (t.config side) (t.own_id side) log (PacketDropped i ∷ []) first_state st k.0 g (k.0, k.1, refl)) (hears_join (t.own_id (other_side side)) log (PacketDropped i ∷ []) a (head_hears (t.own_id (other_side side)) (PacketDropped i) es b).0) (guesses_join log (PacketDropped i ∷ []) n tt) k.2 (head_hears (t.own_id (other_side side)) (PacketDropped i) es b).1 (fed_on t side log (PacketDropped i) es st k.0 fed unfinished g k.1 f) r pa pn u (sent_on t side log (PacketDropped i) st pfed g v)
no_guesses t side log (ExchangeFinished i z ∷ es) plog st st' pst fed unfinished psent pfed prest fit g a n k b f r pa pn u v = no_guesses t side (log ++ ExchangeFinished i z ∷ []) es plog k.0 st' pst fed unfinished psent pfed prest fit (steps_join (t.says side) side (t.config side) (t.own_id side) log (ExchangeFinished i z ∷ []) first_state st k.0 g (k.0, k.1, refl)) (hears_join (t.own_id (other_side side)) log (ExchangeFinished i z ∷ []) a (head_hears (t.own_id (other_side side)) (ExchangeFinished i z) es b).0) (guesses_join log (ExchangeFinished i z ∷ []) n tt) k.2 (head_hears (t.own_id (other_side side)) (ExchangeFinished i z) es b).1 (fed_on t side log (ExchangeFinished i z) es st k.0 fed unfinished g k.1 f) r pa pn u (sent_on t side log (ExchangeFinished i z) st pfed g v)

-- a run goes on by a call, whatever the parts are
pub ran_more : (t : Talkers) (side : Side) (log : List Event) (h : LinkEnd) (piece : List ℕ) (events : List Event) (peer h' : LinkEnd) → HasRun (t.says side) side (t.config side) (t.own_id side) log h.state h.sent h.fed h.unfinished → TakesTurn t side h piece events peer h' → HasRun (t.says side) side (t.config side) (t.own_id side) (log ++ events) h'.state h'.sent h'.fed h'.unfinished
ran_more t side log h piece events peer h' r g =
    let fed : h'.fed ≡ read_bytes side first_state.reading log ++ (read_bytes side h.state.reading events ++ h'.unfinished) =
    g.takes ∙ (ap (λ z. z ++ piece) r.fed_is ∙ (append_assoc (read_bytes side first_state.reading log) h.unfinished piece ∙ ap (λ z. read_bytes side first_state.reading log ++ z) g.reads)) in
    record {
      steps = steps_join (t.says side) side (t.config side) (t.own_id side) log events first_state h.state h'.state r.steps g.steps;
      sent_is = g.sends ∙ (ap (λ z. z ++ sent_bytes side h.state.writing events) r.sent_is ∙ sym (sent_join (t.says side) side (t.config side) (t.own_id side) log events first_state h.state r.steps));
      fed_is = fed ∙ (sym (append_assoc (read_bytes side first_state.reading log) (read_bytes side h.state.reading events) h'.unfinished) ∙ ap (λ z. z ++ h'.unfinished) (sym (read_join (t.says side) side (t.config side) (t.own_id side) log events first_state h.state r.steps)));
    }

-- so it does in a link
pub runs_more : (t : Talkers) (side : Side) (log plog : List Event) (h : LinkEnd) (piece : List ℕ) (events : List Event) (peer h' : LinkEnd) → AreFit t → RunsInLink t side log h → RunsInLink t (other_side side) plog peer → HearsAs (t.own_id (other_side (other_side side))) plog → HasFront h.sent peer.fed → TakesTurn t side h piece events peer h' → RunsInLink t side (log ++ events) h'
runs_more t side log plog h piece events peer h' fit r p pa honest g =
    let fed : h'.fed ≡ read_bytes side first_state.reading log ++ (read_bytes side h.state.reading events ++ h'.unfinished) =
    g.takes ∙ (ap (λ z. z ++ piece) r.ran.fed_is ∙ (append_assoc (read_bytes side first_state.reading log) h.unfinished piece ∙ ap (λ z. read_bytes side first_state.reading log ++ z) g.reads)) in
    record {
      ran = ran_more t side log h piece events peer h' r.ran g;
      heard = hears_join (t.own_id (other_side side)) log events r.heard g.heard;
      guesses = guesses_join log events r.guesses (no_guesses t side log events plog h.state h'.state peer.state h'.fed h'.unfinished peer.sent peer.fed peer.unfinished fit r.ran.steps r.heard r.guesses g.steps g.heard fed p.ran pa p.guesses g.honest (subst (λ z. HasFront z peer.fed) r.ran.sent_is honest));
      answered = g.answered;
    }

pub held_first : (t : Talkers) → IsReached t first_world [] []
held_first t = record {
  client = record { ran = record { steps = refl; sent_is = refl; fed_is = refl }; heard = tt; guesses = tt; answered = refl };
  server = record { ran = record { steps = refl; sent_is = refl; fed_is = refl }; heard = tt; guesses = tt; answered = refl };
  to_server = ([], refl);
  to_client = ([], refl);
}

pub client_held : (t : Talkers) (w : World) (cl sl : List Event) (piece : List ℕ) (events : List Event) (w' : World) → AreFit t → IsReached t w cl sl → PlaysTurn t w Client piece events w' → IsReached t w' (cl ++ events) sl
client_held t w cl sl piece events w' fit h g = record {
  client = runs_more t Client cl sl w.client piece events w.server w'.client fit h.client h.server h.server.heard h.to_server g.0;
  server = subst (λ (k : LinkEnd). RunsInLink t Server sl k) (sym g.1) h.server;
  to_server = subst (λ (k : LinkEnd). HasFront w'.client.sent k.fed) (sym g.1) (subst (λ z. HasFront z w.server.fed) (sym g.0.sends) (more_sent w.client.sent w.server.fed _ h.to_server));
  to_client = subst (λ (k : LinkEnd). HasFront k.sent w'.client.fed) (sym g.1) g.0.honest;
}

pub server_held : (t : Talkers) (w : World) (cl sl : List Event) (piece : List ℕ) (events : List Event) (w' : World) → AreFit t → IsReached t w cl sl → PlaysTurn t w Server piece events w' → IsReached t w' cl (sl ++ events)
server_held t w cl sl piece events w' fit h g = record {
  client = subst (λ (k : LinkEnd). RunsInLink t Client cl k) (sym g.1) h.client;
  server = runs_more t Server sl cl w.server piece events w.client w'.server fit h.server h.client h.client.heard h.to_client g.0;
  to_server = subst (λ (k : LinkEnd). HasFront k.sent w'.server.fed) (sym g.1) g.0.honest;
  to_client = subst (λ (k : LinkEnd). HasFront w'.server.sent k.fed) (sym g.1) (subst (λ z. HasFront z w.client.fed) (sym g.0.sends) (more_sent w.server.sent w.client.fed _ h.to_client));
}

pub held_turn : (t : Talkers) (w : World) (cl sl : List Event) (side : Side) (piece : List ℕ) (events : List Event) (w' : World) → AreFit t → IsReached t w cl sl → PlaysTurn t w side piece events w' → (dl : List Event) × (tl : List Event) × IsReached t w' dl tl
held_turn t w cl sl Client piece events w' fit h g = (cl ++ events, sl, client_held t w cl sl piece events w' fit h g)
held_turn t w cl sl Server piece events w' fit h g = (cl, sl ++ events, server_held t w cl sl piece events w' fit h g)

pub held_turns : (t : Talkers) (turns : List Turn) (w : World) (cl sl : List Event) (w' : World) → AreFit t → IsReached t w cl sl → Plays t w turns w' → (dl : List Event) × (tl : List Event) × IsReached t w' dl tl
held_turns t [] w cl sl w' fit h p = (cl, sl, subst (λ v. IsReached t v cl sl) (sym p) h)
held_turns t (u ∷ turns) w cl sl w' fit h p =
    let one = held_turn t w cl sl u.side u.piece u.events p.0 fit h p.1 in
    held_turns t turns p.0 one.0 one.1 w' fit one.2 p.2

-- Both are in step.
pub held_in_step : (t : Talkers) (w : World) (cl sl : List Event) → AreFit t → IsReached t w cl sl → InStep (wrote cl) (handled cl) (wrote sl) (handled sl) (recorded cl) (recorded sl)
held_in_step t w cl sl fit h =
    honest_carrier (made_in t) fit.one _ _ _ _ _ _ _ _ _ _ _ _
    (facts t Client cl w.client.state w.client.sent w.client.fed w.client.unfinished h.client.heard h.client.guesses h.client.ran)
    (facts t Server sl w.server.state w.server.sent w.server.fed w.server.unfinished h.server.heard h.server.guesses h.server.ran) h.to_server h.to_client

-- However the turns go, each side stands where some run of it led, neither has dropped a guess, and both are in step.
pub turns_in_step : (t : Talkers) (turns : List Turn) (w : World) → AreFit t → Plays t first_world turns w → (cl : List Event) × (sl : List Event) × IsReached t w cl sl × InStep (wrote cl) (handled cl) (wrote sl) (handled sl) (recorded cl) (recorded sl)
turns_in_step t turns w fit p =
    let h = held_turns t turns first_world [] [] w fit (held_first t) p in
    (h.0, h.1, h.2, held_in_step t w h.0 h.1 fit h.2)
