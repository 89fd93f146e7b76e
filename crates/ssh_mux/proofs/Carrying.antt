-- What is carried, and steps one after the other.
use Rattle.std.proofs.Common.{◌≡◌, ℕ, zero, suc, ◌+◌, ◌<◌, max, Bool, true, false, ◌⊎◌, inl, inr, List, [], ◌∷◌, ◌++◌, length, get_or, take, drop, Option, Some, None, Result, Ok, Err, OnOk, refl, sym, ap, ◌∙◌, subst, arith, append_assoc, append-nil, length-append}
use Rattle.std.proofs.lemmas.List.{drop_more, take-append-drop, take_more}
use Rattle.ssh_wire.specs.Sides.{other_side}
use Rattle.ssh_wire.specs.declared.side.Side.{Side}
use Rattle.ssh_wire.specs.declared.side.Side.TheVariants.{Client, Server}
use Rattle.ssh_channels.specs.Asking.{IsRefused, ReceivesAll}
use Rattle.ssh_channels.specs.declared.fault.MuxFault.{MuxFault}
use Rattle.ssh_kex.specs.Setting.{Says}
use Rattle.ssh_rules.specs.declared.link.Step.{Step}
use Rattle.ssh_rules.specs.declared.link.Step.TheVariants as steps
use Rattle.ssh_rules.specs.Wire.{HasFront}
use Rattle.ssh_run.specs.Carrying.{CarriedEnd, CarriedLink, CarriesTo, RepeatsTurns, StepsLink}
use Rattle.ssh_run.specs.Stepping.{LinkState, TakesStep}
use Rattle.ssh_wire.specs.declared.error.Error.{Error}
use Rattle.ssh_wire.specs.declared.error.Error.TheVariants.{Disconnect}
use Rattle.ssh_mux.specs.Running.{Both, Called, Carried, Received, ReceivesNew, Stepped, Submitted, state_at, side_at, with_state, Carries, CarriesBy, CarriesFor, DeliversNone, IsBrokenOff, IsLinkFault, PairOnLink, is_submit, RefusesStep, RunsSteps, LinkGoes, step_fault}
use Rattle.ssh_mux.specs.declared.fault.RunFault.{RunFault}
use Rattle.ssh_mux.specs.declared.fault.RunFault.TheVariants.{Mux}
use Rattle.ssh_mux.specs.declared.step.ChannelStep.{ChannelStep}

pub carries_none : (old new : PairOnLink) → new ≡ old → Carries old new
carries_none old new e = ([], e)

pub carries_one : (old new : PairOnLink) → Carried old new → Carries old new
carries_one old new h = (new ∷ [], (h, refl))

carries_by : (mids : List PairOnLink) (old mid new : PairOnLink) → CarriesBy mids old mid → Carries mid new → Carries old new
carries_by [] old mid new e h = subst (λ b. Carries b new) e h
carries_by (m ∷ mids) old mid new h k = let r = carries_by mids m mid new h.1 k in (m ∷ r.0, (h.0, r.1))

pub carries_then : (old mid new : PairOnLink) → Carries old mid → Carries mid new → Carries old new
carries_then old mid new h k = carries_by h.0 old mid new h.1 k

pub carries_three : (a b c d : PairOnLink) → Carries a b → Carries b c → Carries c d → Carries a d
carries_three a b c d h k l = carries_then a b d h (carries_then b c d k l)

-- one step, and some behind others
pub one_step : (step : ChannelStep) (old : PairOnLink) (called : Both) (new : PairOnLink) → Called step old.both called → CarriesFor step (record { both = called; link = old.link }) new → RunsSteps (step ∷ []) old new
one_step step old called new h k = (called, new, h, k, refl)

pub runs_then : (steps more : List ChannelStep) (old mid new : PairOnLink) → RunsSteps steps old mid → RunsSteps more mid new → RunsSteps (steps ++ more) old new
runs_then [] more old mid new e k = subst (λ b. RunsSteps more b new) e k
runs_then (s ∷ steps) more old mid new h k = (h.0, h.1, h.2, h.3, runs_then steps more h.1 mid new h.4 k)

pub next_runs : (all : List ChannelStep) (i : ℕ) (step item : ChannelStep) (old mid new : PairOnLink) → i < length all → item ≡ get_or all i item → step ≡ item
    → RunsSteps (take i all) old mid → RunsSteps (step ∷ []) mid new → RunsSteps (take (i + 1) all) old new
next_runs all i step item old mid new h is p t k =
    subst (λ l. RunsSteps l old new) (ap (λ x. take i all ++ x ∷ []) (p ∙ is) ∙ sym (take_more all i item h)) (runs_then (take i all) (step ∷ []) old mid new t k)

-- the call of the next step is refused, or the link refuses it
pub breaks : (all : List ChannelStep) (i : ℕ) (step item : ChannelStep) (fault : RunFault) (old mid new : PairOnLink) → i < length all → item ≡ get_or all i item → step ≡ item
    → RunsSteps (take i all) old mid → RefusesStep step fault mid new → IsBrokenOff all fault old new ⊎ IsLinkFault fault
breaks all i step item fault old mid new h is p t (inl (due, f, d, same)) = inl (record {
  done = take i all;
  step = step;
  rest = drop (i + 1) all;
  steps_are = sym (take-append-drop i all) ∙ ap (λ l. take i all ++ l) (drop_more all i item h ∙ ap (λ x. x ∷ drop (i + 1) all) (sym (p ∙ is)));
  run = subst (λ b. RunsSteps (take i all) old b) (sym same) t;
  due = due;
  fault_is = f;
  due_is = ap (λ x. step_fault step x.both) same ∙ d;
})
breaks all i step item fault old mid new h is p t (inr l) = inr l

-- what a refused call answers
pub refuses : (step : ChannelStep) (f : MuxFault) (old new : Both) (l : LinkState) → IsRefused (step_fault step old) f (new ≡ old)
    → RefusesStep step (Mux f) (record { both = old; link = l }) (record { both = new; link = l })
refuses step f old new l h = by (step_fault step old) refl h where
  by : (due : Option MuxFault) → step_fault step old ≡ due → IsRefused due f (new ≡ old) → RefusesStep step (Mux f) (record { both = old; link = l }) (record { both = new; link = l })
  by None e k = inr (subst (λ x. IsLinkFault (Mux x)) (sym k) (refl, λ n. cc))
  by (Some due) e (k, same) = inl (due, ap Mux k, e, ap (λ b. let x : PairOnLink = record { both = b; link = l } in x) same)

-- ---- what a side receives

pub received_ok : {A E : Type 0} (r : Result A E) (side : Side) (delivered : List (List ℕ)) (old new : Both) → side_at (other_side side) new ≡ side_at (other_side side) old
    → OnOk r (ReceivesAll (drop (side_at side old).received delivered) (state_at side old) (state_at side new) × ((side_at side new).received ≡ max (side_at side old).received (length delivered)))
    → OnOk r (ReceivesNew side delivered old new)
received_ok (Ok x) side delivered old new o h = record { takes = h.0; received = h.1; other = o }
received_ok (Err e) side delivered old new o h = tt

-- ---- what is submitted

-- what is delivered stays
abbrev Grew : CarriedEnd → CarriedEnd → Type 0
Grew old new = HasFront new.delivered old.delivered

grew_none : (old new : CarriedEnd) → new.delivered ≡ old.delivered → Grew old new
grew_none old new e = ([], append-nil old.delivered ∙ sym e)

grew_same : (old new : CarriedEnd) → new ≡ old → Grew old new
grew_same old new e = grew_none old new (ap (λ (x : CarriedEnd). x.delivered) e)

grew_then : (a b c : CarriedEnd) → Grew a b → Grew b c → Grew a c
grew_then a b c g h = (g.0 ++ h.0, sym (append_assoc a.delivered g.0 h.0) ∙ (ap (λ l. l ++ h.0) g.1 ∙ h.1))

carries_grew : (says : Says) (old : CarriedEnd) (wire : List ℕ) (n : ℕ) (new : CarriedEnd) → CarriesTo says old wire n new → Grew old new
carries_grew says old wire n new h = (h.fed.delivered, sym h.delivered)

turns_grew : (c s : Says) (n : ℕ) (old new : CarriedLink) → RepeatsTurns c s n old new → Grew old.client new.client × Grew old.server new.server
turns_grew c s zero old new h = (grew_same old.client new.client (ap (λ (l : CarriedLink). l.client) h), grew_same old.server new.server (ap (λ (l : CarriedLink). l.server) h))
turns_grew c s (suc n) old new h =
    let r = turns_grew c s n old h.0 h.1 in (
      grew_then old.client h.0.client new.client r.0 (carries_grew c h.0.client new.server.transport.output _ new.client h.2.to_client),
      grew_then old.server h.0.server new.server r.1 (carries_grew s h.0.server h.0.client.transport.output _ new.server h.2.to_server),
    )

step_grew : (c s : Says) (step : Step) (old new : CarriedLink) → StepsLink c s step old new → Grew old.client new.client × Grew old.server new.server
step_grew c s (steps.Submit Client p) old new h = (grew_none old.client new.client h.0.delivered, grew_same old.server new.server h.1)
step_grew c s (steps.Submit Server p) old new h = (grew_same old.client new.client h.1, grew_none old.server new.server h.0.delivered)
step_grew c s (steps.Deliver Client n) old new h = (carries_grew c old.client old.server.transport.output n new.client h.0, grew_same old.server new.server h.1)
step_grew c s (steps.Deliver Server n) old new h = (grew_same old.client new.client h.1, carries_grew s old.server old.client.transport.output n new.server h.0)
step_grew c s (steps.Rekey Client) old new h = (grew_none old.client new.client h.0.delivered, grew_same old.server new.server h.1)
step_grew c s (steps.Rekey Server) old new h = (grew_same old.client new.client h.1, grew_none old.server new.server h.0.delivered)
step_grew c s steps.Settle old new h = turns_grew c s h.times old new h.turns

-- a submit delivers nothing
step_delivers_none : (step : Step) (c s : Says) (old new : LinkState) → StepsLink c s step old.carried new.carried → is_submit step ≡ true → DeliversNone old new
step_delivers_none (steps.Submit Client p) c s old new h e = (h.0.delivered, ap (λ (x : CarriedEnd). x.delivered) h.1)
step_delivers_none (steps.Submit Server p) c s old new h e = (ap (λ (x : CarriedEnd). x.delivered) h.1, h.0.delivered)
step_delivers_none (steps.Deliver side n) c s old new h e = absurd (let z : false ≡ true = e in cc)
step_delivers_none (steps.Rekey side) c s old new h e = absurd (let z : false ≡ true = e in cc)
step_delivers_none steps.Settle c s old new h e = absurd (let z : false ≡ true = e in cc)

link_goes : (step : Step) (c s : Says) (old new : LinkState) → TakesStep c s step old new → LinkGoes step old new
link_goes step c s old new t =
    let g = step_grew c s step old.carried new.carried t.link in
    record { steps = t.steps; marks = t.marks; to_client = g.0; to_server = g.1; none = step_delivers_none step c s old new t.link }

-- the link carried out a step that it didn't refuse
pub one_link_step : (step : Step) (client server : Says) (old new : LinkState) (x : Unit) → (old.refused ≡ true → (let r : Result Unit Error = Ok x in r) ≡ Err Disconnect)
    → (old.refused ≡ false → TakesStep client server step old new) → LinkGoes step old new
one_link_step step client server old new x dead takes = on old.refused refl
  where
    on : (b : Bool) → old.refused ≡ b → LinkGoes step old new
    on true e = absurd (let z : (let r : Result Unit Error = Ok x in r) ≡ Err Disconnect = dead e in cc)
    on false e = link_goes step client server old new (takes e)

-- a side, with what is still to be submitted
abbrev pub still_made : Side → List (List ℕ) → Both → Both
still_made side rest b = with_state side (record { side = (state_at side b).side; made = rest }) b

made_of : (side : Side) (rest : List (List ℕ)) (b : Both) → (state_at side (still_made side rest b)).made ≡ rest
made_of Client rest b = refl
made_of Server rest b = refl

made_twice : (side : Side) (rest more : List (List ℕ)) (b : Both) → with_state side (record { side = (state_at side (still_made side rest b)).side; made = more }) (still_made side rest b) ≡ still_made side more b
made_twice Client rest more b = refl
made_twice Server rest more b = refl

-- one payload more was submitted
pub next_submitted : (side : Side) (payload : List ℕ) (rest made : List (List ℕ)) (b : Both) (start : PairOnLink) (mid new : LinkState) → made ≡ payload ∷ rest
    → Carries start (record { both = still_made side made b; link = mid }) → LinkGoes (steps.Submit side payload) mid new
    → Carries start (record { both = still_made side rest b; link = new })
next_submitted side payload rest made b start mid new is t k =
    carries_then start (record { both = still_made side made b; link = mid }) (record { both = still_made side rest b; link = new }) t
    (carries_one (record { both = still_made side made b; link = mid }) (record { both = still_made side rest b; link = new })
    (Submitted side payload rest (made_of side made b ∙ is) (sym (made_twice side made rest b)) k))

-- all were handed out before the first is submitted
same_made : (side : Side) (old new : Both) → (state_at side new).side ≡ (state_at side old).side → (state_at side new).made ≡ [] → (side_at side new).received ≡ (side_at side old).received
    → side_at (other_side side) new ≡ side_at (other_side side) old → still_made side (state_at side old).made new ≡ old
same_made Client old new s m r o =
    ap (λ k. let x : Both = record { client = record { mux = record { side = k; made = old.client.mux.made }; received = new.client.received }; server = new.server } in x) s
    ∙ (ap (λ k. let x : Both = record { client = record { mux = old.client.mux; received = k }; server = new.server } in x) r
    ∙ ap (λ k. let x : Both = record { client = old.client; server = k } in x) o)
same_made Server old new s m r o =
    ap (λ k. let x : Both = record { client = new.client; server = record { mux = record { side = k; made = old.server.mux.made }; received = new.server.received } } in x) s
    ∙ (ap (λ k. let x : Both = record { client = new.client; server = record { mux = old.server.mux; received = k } } in x) r
    ∙ ap (λ k. let x : Both = record { client = k; server = old.server } in x) o)

pub first_submitted : (side : Side) (old new : Both) (made : List (List ℕ)) (l : LinkState) → made ≡ (state_at side old).made → (state_at side new).side ≡ (state_at side old).side → (state_at side new).made ≡ [] → (side_at side new).received ≡ (side_at side old).received
    → side_at (other_side side) new ≡ side_at (other_side side) old → Carries (record { both = old; link = l }) (record { both = still_made side made new; link = l })
first_submitted side old new made l e s m r o =
    carries_none (record { both = old; link = l }) (record { both = still_made side made new; link = l }) (ap (λ x. let y : PairOnLink = record { both = x; link = l } in y) (ap (λ x. still_made side x new) e ∙ same_made side old new s m r o))

-- none is left at the end
none_made : (side : Side) (b : Both) → (state_at side b).made ≡ [] → still_made side [] b ≡ b
none_made Client b e = ap (λ k. let x : Both = record { client = record { mux = record { side = b.client.mux.side; made = k }; received = b.client.received }; server = b.server } in x) (sym e)
none_made Server b e = ap (λ k. let x : Both = record { client = b.client; server = record { mux = record { side = b.server.mux.side; made = k }; received = b.server.received } } in x) (sym e)

pub last_submitted : (side : Side) (made : List (List ℕ)) (b : Both) (start : PairOnLink) (l : LinkState) → made ≡ [] → (state_at side b).made ≡ [] → Carries start (record { both = still_made side made b; link = l })
    → Carries start (record { both = b; link = l })
last_submitted side made b start l h e t =
    subst (λ x. Carries start (record { both = x; link = l })) (ap (λ x. still_made side x b) h ∙ none_made side b e) t

-- what was delivered is received
pub receives : (side : Side) (delivered : List (List ℕ)) (l : LinkState) (old new : Both) → (side ≡ Client → delivered ≡ l.carried.client.delivered) → (side ≡ Server → delivered ≡ l.carried.server.delivered)
    → ReceivesNew side delivered old new → Carries (record { both = old; link = l }) (record { both = new; link = l })
receives Client delivered l old new c s h = carries_one _ _ (Received Client (subst (λ d. ReceivesNew Client d old new) (c refl) h) refl)
receives Server delivered l old new c s h = carries_one _ _ (Received Server (subst (λ d. ReceivesNew Server d old new) (s refl) h) refl)

-- the link goes on
pub steps_on : (b : Both) (step : Step) (old new : LinkState) → is_submit step ≡ false → LinkGoes step old new → Carries (record { both = b; link = old }) (record { both = b; link = new })
steps_on b step old new none h = carries_one (record { both = b; link = old }) (record { both = b; link = new }) (Stepped step none refl h)

-- ---- what a settle leaves

-- a list with an element isn't empty
pub some_left : {A : Type 0} (l : List A) (x : A) (rest : List A) → l ≡ [] → l ≡ x ∷ rest → ⊥
some_left l x rest e h = let z : x ∷ rest ≡ [] = sym h ∙ e in cc

-- the last of some steps
last_same : {A : Type 0} (l k : List A) (x y : A) → l ++ x ∷ [] ≡ k ++ y ∷ [] → x ≡ y
last_same [] [] x y e = (let z : x ∷ [] ≡ y ∷ [] = e in cc)
last_same [] (b ∷ k) x y e = absurd (let n = ap length e in let m = length-append k (y ∷ []) in omega (arith, n, m))
last_same (a ∷ l) [] x y e = absurd (let n = ap length e in let m = length-append l (x ∷ []) in omega (arith, n, m))
last_same (a ∷ l) (b ∷ k) x y e = last_same l k x y (let z : a ∷ (l ++ x ∷ []) ≡ b ∷ (k ++ y ∷ []) = e in cc)

-- the next step is the last of those up to it
pub next_settled : (all before : List ChannelStep) (i : ℕ) (step item last : ChannelStep) → i < length all → item ≡ get_or all i item → step ≡ item → take (i + 1) all ≡ before ++ last ∷ [] → step ≡ last
next_settled all before i step item last h is p e = last_same (take i all) before step last (ap (λ x. take i all ++ x ∷ []) (p ∙ is) ∙ (sym (take_more all i item h) ∙ e))
