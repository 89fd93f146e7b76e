-- A side writes nothing behind its id line until it has read all of the other's.
use Rattle.std.proofs.Common.{◌≡◌, ℕ, ◌<◌, ◌≤◌, List, [], ◌∷◌, length, IsSome, None, Option, Some, refl, sym, ◌∙◌, ap, arith, inl, inr, length-append}
use Rattle.std.proofs.lemmas.List.{length-take-le}
use Rattle.ssh_wire.specs.Lines.{id_line, id_text}
use Rattle.ssh_wire.specs.Sides.{other_side}
use Rattle.ssh_wire.specs.declared.side.Side.{Side}
use Rattle.ssh_kex.specs.Setting.{Says}
use Rattle.ssh_kex.specs.Stages.{Stage}
use Rattle.ssh_kex.specs.declared.config.Config.{Config}
use Rattle.ssh_rules.specs.Log.{sent_bytes}
use Rattle.ssh_rules.specs.Machine.{Answering, AnswerSent, Asked, Cause, Event, ExchangeBegun, ExchangeFinished, GuessDropped, IdHeard, Inside, MayBegin, MessageTaken, Outside, PacketDropped, PayloadDelivered, PayloadSent, PayloadSubmitted, ReadLimit, SideState, Silent, Spot, Start, Steps, WriteLimit, first_state}
use Rattle.ssh_rules.specs.Turns.{LinkEnd}
use Rattle.ssh_run.specs.Carrying.{CarriedEnd}
use Rattle.ssh_run.proofs.SideTurns.{IsSide, wire_by}

abbrev HeardOf : SideState → Option (List ℕ)
HeardOf st = st.heard

-- what was heard stays
unheard_before : (says : Says) (side : Side) (config : Config) (own_id : List ℕ) (log : List Event) (st st' : SideState) → Steps says side config own_id st log st' → st'.heard ≡ None → st.heard ≡ None
unheard_before says side config own_id [] st st' h e = ap HeardOf (sym h) ∙ e
unheard_before says side config own_id (IdHeard id ∷ es) st st' h e = h.1.unheard
unheard_before says side config own_id (PayloadSubmitted p ∷ es) st st' h e = sym (ap HeardOf h.1.becomes) ∙ unheard_before says side config own_id es h.0 st' h.2 e
unheard_before says side config own_id (ExchangeBegun cause i ∷ es) st st' h e = sym (ap HeardOf h.1.becomes) ∙ unheard_before says side config own_id es h.0 st' h.2 e
unheard_before says side config own_id (AnswerSent i again ∷ es) st st' h e = sym (ap HeardOf h.1.becomes) ∙ unheard_before says side config own_id es h.0 st' h.2 e
unheard_before says side config own_id (PayloadSent i ∷ es) st st' h e = sym (ap HeardOf h.1.becomes) ∙ unheard_before says side config own_id es h.0 st' h.2 e
unheard_before says side config own_id (MessageTaken i ∷ es) st st' h e = sym (ap HeardOf h.1.becomes) ∙ unheard_before says side config own_id es h.0 st' h.2 e
unheard_before says side config own_id (GuessDropped i ∷ es) st st' h e = sym (ap HeardOf h.1.becomes) ∙ unheard_before says side config own_id es h.0 st' h.2 e
unheard_before says side config own_id (ExchangeFinished i x ∷ es) st st' h e = sym (ap HeardOf h.1.becomes) ∙ unheard_before says side config own_id es h.0 st' h.2 e
unheard_before says side config own_id (PayloadDelivered i ∷ es) st st' h e = sym (ap HeardOf h.1.becomes) ∙ unheard_before says side config own_id es h.0 st' h.2 e
unheard_before says side config own_id (PacketDropped i ∷ es) st st' h e = sym (ap HeardOf h.1.becomes) ∙ unheard_before says side config own_id es h.0 st' h.2 e

silent_out : Silent ≡ Outside → ⊥
silent_out e = cc

silent_in : (stage : Stage) → Silent ≡ Inside stage → ⊥
silent_in stage e = cc

none_is : (o : Option (List ℕ)) → o ≡ None → IsSome o → ⊥
none_is None e s = cc
none_is (Some x) e s = cc

cannot_begin : (config : Config) (st : SideState) (cause : Cause) → st.stands ≡ Silent → st.heard ≡ None → MayBegin config st cause → ⊥
cannot_begin config st Start s n m = none_is st.heard n m.1
cannot_begin config st Asked s n m = silent_out (sym s ∙ m)
cannot_begin config st Answering s n m = silent_out (sym s ∙ m)
cannot_begin config st WriteLimit s n m = silent_out (sym s ∙ m.0)
cannot_begin config st ReadLimit s n m = silent_out (sym s ∙ m.0)

owes_none : (owed more : List (List ℕ)) (m : List ℕ) → owed ≡ [] → owed ≡ m ∷ more → ⊥
owes_none owed more m e f = cc

some_none : (st : SideState) (id : List ℕ) → st.heard ≡ Some id → st.heard ≡ None → ⊥
some_none st id e f = cc

-- a side that has heard nothing writes nothing
silent_sends : (says : Says) (side : Side) (config : Config) (own_id : List ℕ) (log : List Event) (st st' : SideState) (at : Spot) → st.stands ≡ Silent → st.owed ≡ [] → Steps says side config own_id st log st' → st'.heard ≡ None → sent_bytes side at log ≡ []
silent_sends says side config own_id [] st st' at s o h e = refl
silent_sends says side config own_id (IdHeard id ∷ es) st st' at s o h e = absurd (some_none h.0 id (ap HeardOf h.1.becomes) (unheard_before says side config own_id es h.0 st' h.2 e))
silent_sends says side config own_id (PayloadSubmitted p ∷ es) st st' at s o h e = silent_sends says side config own_id es h.0 st' at (ap (λ (q : SideState). q.stands) h.1.becomes ∙ s) (ap (λ (q : SideState). q.owed) h.1.becomes ∙ o) h.2 e
silent_sends says side config own_id (ExchangeBegun cause i ∷ es) st st' at s o h e = absurd (cannot_begin config st cause s (unheard_before says side config own_id (ExchangeBegun cause i ∷ es) st st' h e) h.1.may)
silent_sends says side config own_id (AnswerSent i again ∷ es) st st' at s o h e = absurd (owes_none st.owed h.1.more i.payload o h.1.owes)
silent_sends says side config own_id (PayloadSent i ∷ es) st st' at s o h e = absurd (silent_out (sym s ∙ h.1.outside))
silent_sends says side config own_id (MessageTaken i ∷ es) st st' at s o h e = absurd (silent_in h.1.stage (sym s ∙ h.1.inside))
silent_sends says side config own_id (GuessDropped i ∷ es) st st' at s o h e = absurd (silent_in h.1.stage (sym s ∙ h.1.inside))
silent_sends says side config own_id (ExchangeFinished i x ∷ es) st st' at s o h e = absurd (silent_in _ (sym s ∙ h.1.inside))
silent_sends says side config own_id (PayloadDelivered i ∷ es) st st' at s o h e = elim h.1.may [
  | inl q ↦ absurd (silent_out (sym s ∙ q))
  | inr q ↦ absurd (silent_in _ (sym s ∙ q.0.1))
]
silent_sends says side config own_id (PacketDropped i ∷ es) st st' at s o h e = absurd (h.1.heard s)

-- a side of a link that wrote behind its line took all of the other's
pub some_sent : (says : Side → Says) (config : Side → Config) (side : Side) (log : List Event) (h peer : LinkEnd) (e : CarriedEnd) → IsSide says config side log h peer e → 0 < length h.sent → length (id_line (config (other_side side)).id) ≤ e.taken
some_sent says config side log h peer e s some = elim s.stands.come [
  | inl p ↦ absurd (let n = ap length (s.ran.sent_is ∙ silent_sends (says side) side (config side) (id_text (config side).id) log first_state h.state first_state.writing refl refl s.ran.steps p.unheard) in omega (arith, some, n))
  | inr p ↦ (let t = length-take-le e.taken (wire_by (config (other_side side)) peer.sent) s.within in let a = ap length p.took_is in let b = length-append (id_line (config (other_side side)).id) h.fed in omega (arith, t, a, b))
]
