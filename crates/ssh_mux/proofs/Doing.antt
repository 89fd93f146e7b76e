-- What is carried out for a step, beside submits.
use Rattle.std.proofs.Common.{◌≡◌, ℕ, ◌+◌, ◌≤◌, List, [], ◌∷◌, ◌++◌, length, replicate, Result, Ok, Err, OnOk, refl, sym, ap, ◌∙◌, subst, append_assoc, append-nil}
use Rattle.std.proofs.lemmas.List.{replicate_more}
use Rattle.ssh_wire.specs.Sides.{other_side}
use Rattle.ssh_wire.specs.declared.side.Side.{Side}
use Rattle.ssh_wire.specs.declared.side.Side.TheVariants.{Client, Server}
use Rattle.ssh_rules.specs.declared.link.Step.{Step}
use Rattle.ssh_rules.specs.declared.link.Step.TheVariants as steps
use Rattle.ssh_run.specs.Stepping.{LinkState}
use Rattle.ssh_mux.specs.Doing.{AreLinkSteps, DoesCall, NoneMade, OnlySubmits, RunsInOrder, SettlesSome, link_call}
use Rattle.ssh_mux.specs.Running.{Both, Called, Carries, CarriesOut, DeliversOnce, DoesStep, HasReceived, IsEmptied, LeavesNone, LinkGoes, PairOnLink, RekeysOnce, RunsSteps, SettlesBoth, SubmitsMade, but_submits, first_on_link, side_at}
use Rattle.ssh_mux.specs.declared.fault.RunFault.{RunFault}
use Rattle.ssh_mux.specs.declared.pair.PairSide.{PairSide}
use Rattle.ssh_mux.specs.declared.run.LinkCall.{LinkCall}
use Rattle.ssh_mux.specs.declared.run.LinkCall.TheVariants as calls
use Rattle.ssh_mux.specs.declared.step.ChannelStep.{ChannelStep}
use Rattle.ssh_mux.specs.declared.step.ChannelStep.TheVariants.{Start, Write, Read, Eof, Close, Deliver, Rekey, Settle}
use Rattle.ssh_mux.proofs.Carrying.{one_step}

-- ---- steps one after the other

but_submits_then : (a b : List Step) → but_submits (a ++ b) ≡ but_submits a ++ but_submits b
but_submits_then [] b = refl
but_submits_then (steps.Submit side payload ∷ a) b = but_submits_then a b
but_submits_then (steps.Deliver side count ∷ a) b = ap (λ l. steps.Deliver side count ∷ l) (but_submits_then a b)
but_submits_then (steps.Rekey side ∷ a) b = ap (λ l. steps.Rekey side ∷ l) (but_submits_then a b)
but_submits_then (steps.Settle ∷ a) b = ap (λ l. steps.Settle ∷ l) (but_submits_then a b)

out_none : (old new : LinkState) → new ≡ old → CarriesOut [] old new
out_none old new e = ap (λ (l : LinkState). but_submits l.steps) e ∙ sym (append-nil (but_submits old.steps))

out_one : (step : Step) (old new : LinkState) → LinkGoes step old new → CarriesOut (but_submits (step ∷ [])) old new
out_one step old new t = ap but_submits t.steps ∙ but_submits_then old.steps (step ∷ [])

out_then : (a b : List Step) (old mid new : LinkState) → CarriesOut a old mid → CarriesOut b mid new → CarriesOut (a ++ b) old new
out_then a b old mid new h k = k ∙ (ap (λ l. l ++ b) h ∙ append_assoc (but_submits old.steps) a b)

-- ---- submits alone

pub only_none : (old new : LinkState) → new ≡ old → OnlySubmits old new
only_none old new e = record {
  none = (ap (λ (l : LinkState). l.carried.client.delivered) e, ap (λ (l : LinkState). l.carried.server.delivered) e);
  link = out_none old new e;
}

only_one : (side : Side) (payload : List ℕ) (old new : LinkState) → LinkGoes (steps.Submit side payload) old new → OnlySubmits old new
only_one side payload old new t = record { none = t.none refl; link = out_one (steps.Submit side payload) old new t }

only_then : (old mid new : LinkState) → OnlySubmits old mid → OnlySubmits mid new → OnlySubmits old new
only_then old mid new h k = record {
  none = (k.none.0 ∙ h.none.0, k.none.1 ∙ h.none.1);
  link = out_then [] [] old mid new h.link k.link;
}

-- one payload more was submitted
pub next_only : (side : Side) (payload : List ℕ) (old mid new : LinkState) → OnlySubmits old mid → LinkGoes (steps.Submit side payload) mid new → OnlySubmits old new
next_only side payload old mid new h t = only_then old mid new h (only_one side payload mid new t)

-- ---- what the link does for a step

pub submits_made : (side : Side) (old new : PairOnLink) → IsEmptied side old.both new.both → OnlySubmits old.link new.link → SubmitsMade side old new
submits_made side old new e s = record { emptied = e; link = s.link }

received_still : (side : Side) (mid new : LinkState) (old b : Both) → OnlySubmits mid new → HasReceived side mid old b → HasReceived side new old b
received_still Client mid new old b s h = record { made = h.made; received = subst (λ d. length d ≤ b.client.received) (sym s.none.0) h.received; other = h.other }
received_still Server mid new old b s h = record { made = h.made; received = subst (λ d. length d ≤ b.server.received) (sym s.none.1) h.received; other = h.other }

pub delivers_once : (side : Side) (count : ℕ) (old : PairOnLink) (mid : LinkState) (new : PairOnLink) → LinkGoes (steps.Deliver side count) old.link mid → OnlySubmits mid new.link → HasReceived side mid old.both new.both → DeliversOnce side count old new
delivers_once side count old mid new t s h = record {
  received = received_still side mid new.link old.both new.both s h;
  link = out_then (steps.Deliver side count ∷ []) [] old.link mid new.link (out_one (steps.Deliver side count) old.link mid t) s.link;
}

pub rekeys_once : (side : Side) (b : Both) (old new : LinkState) → LinkGoes (steps.Rekey side) old new → RekeysOnce side (record { both = b; link = old }) (record { both = b; link = new })
rekeys_once side b old new t = record { same = refl; link = out_one (steps.Rekey side) old new t }

-- one settle, and what both sides made then
pub settles_once : (old a b new : LinkState) → LinkGoes steps.Settle old a → OnlySubmits a b → OnlySubmits b new → CarriesOut (steps.Settle ∷ []) old new
settles_once old a b new t h k = out_then (steps.Settle ∷ []) [] old a new (out_one steps.Settle old a t) (only_then a b new h k).link

-- as many settles as there were turns
abbrev pub SettlesAny : (old new : LinkState) → Type 0
SettlesAny old new = (turns : ℕ) × CarriesOut (replicate turns steps.Settle) old new

pub any_none : (old new : LinkState) → new ≡ old → SettlesAny old new
any_none old new e = (0, out_none old new e)

pub some_more : (old mid new : LinkState) → SettlesAny old mid → CarriesOut (steps.Settle ∷ []) mid new → SettlesSome old new
some_more old mid new h k = (h.0, subst (λ l. CarriesOut l old new) (replicate_more h.0 steps.Settle) (out_then (replicate h.0 steps.Settle) (steps.Settle ∷ []) old mid new h.1 k))

pub any_more : (old mid new : LinkState) → SettlesAny old mid → CarriesOut (steps.Settle ∷ []) mid new → SettlesAny old new
any_more old mid new h k = let s = some_more old mid new h k in (s.0 + 1, s.1)

settles_both : (old new : PairOnLink) → LeavesNone new → SettlesSome old.link new.link → SettlesBoth old new
settles_both old new n s = record { none = n; turns = s.0; link = s.1 }

-- what was asked for was done
pub call_done : (behind asked : LinkCall) (old new : PairOnLink) → behind ≡ asked → DoesCall asked old new → DoesCall behind old new
call_done behind asked old new e d = subst (λ b. DoesCall b old new) (sym e) d

pub settle_done : {A : Type 0} (r : Result A RunFault) (behind : LinkCall) (old new : PairOnLink) → behind ≡ calls.Settle → OnOk r (LeavesNone new) → OnOk r (SettlesSome old.link new.link) → OnOk r (DoesCall behind old new)
settle_done (Ok x) behind old new e n s = call_done behind calls.Settle old new e (settles_both old new n s)
settle_done (Err f) behind old new e n s = tt

-- ---- a step

does_step : (step : ChannelStep) (old new : PairOnLink) → DoesCall (link_call step) old new → DoesStep step old new
does_step (Start side) old new h = h
does_step (Write side channel bytes) old new h = h
does_step (Read side channel n) old new h = h
does_step (Eof side channel) old new h = h
does_step (Close side channel) old new h = h
does_step (Deliver side count) old new h = h
does_step (Rekey side) old new h = h
does_step Settle old new h = h

-- what was asked for behind its call was carried
pub step_runs : {A : Type 0} (r : Result A RunFault) (step : ChannelStep) (behind : LinkCall) (old : PairOnLink) (called : Both) (new : PairOnLink) → Called step old.both called → behind ≡ link_call step
    → OnOk r (Carries (record { both = called; link = old.link }) new) → OnOk r (DoesCall behind (record { both = called; link = old.link }) new) → OnOk r (RunsSteps (step ∷ []) old new)
step_runs (Ok x) step behind old called new h e c d =
    let start : PairOnLink = record { both = called; link = old.link } in
    one_step step old called new h (record { carries = c; does = does_step step start new (subst (λ b. DoesCall b start new) e d) })
step_runs (Err f) step behind old called new h e c d = tt

-- ---- a run from its first step

-- what the link carries out for some steps
record HasOut (given : List ChannelStep) (old new : LinkState) : Type 0 where
  pub done : List Step
  pub out : CarriesOut done old new
  pub are : AreLinkSteps given done

out_behind : (given l : List ChannelStep) (done : List Step) (old mid new : LinkState) → CarriesOut done old mid → (r : HasOut l mid new) → AreLinkSteps given (done ++ r.done) → HasOut given old new
out_behind given l done old mid new h r a = record { done = done ++ r.done; out = out_then done r.done old mid new h r.out; are = a }

out_steps : (given : List ChannelStep) (old new : PairOnLink) → RunsSteps given old new → HasOut given old.link new.link
out_steps [] old new e = record { done = []; out = out_none old.link new.link (ap (λ (x : PairOnLink). x.link) e); are = refl }
out_steps (Start side ∷ l) old new h = let r = out_steps l h.1 new h.4 in out_behind (Start side ∷ l) l [] old.link h.1.link new.link h.3.does.link r r.are
out_steps (Write side channel bytes ∷ l) old new h = let r = out_steps l h.1 new h.4 in out_behind (Write side channel bytes ∷ l) l [] old.link h.1.link new.link h.3.does.link r r.are
out_steps (Read side channel n ∷ l) old new h = let r = out_steps l h.1 new h.4 in out_behind (Read side channel n ∷ l) l [] old.link h.1.link new.link h.3.does.link r r.are
out_steps (Eof side channel ∷ l) old new h = let r = out_steps l h.1 new h.4 in out_behind (Eof side channel ∷ l) l [] old.link h.1.link new.link h.3.does.link r r.are
out_steps (Close side channel ∷ l) old new h = let r = out_steps l h.1 new h.4 in out_behind (Close side channel ∷ l) l [] old.link h.1.link new.link h.3.does.link r r.are
out_steps (Deliver side count ∷ l) old new h =
    let r = out_steps l h.1 new h.4 in out_behind (Deliver side count ∷ l) l (steps.Deliver side count ∷ []) old.link h.1.link new.link h.3.does.link r (r.done, refl, r.are)
out_steps (Rekey side ∷ l) old new h = let r = out_steps l h.1 new h.4 in out_behind (Rekey side ∷ l) l (steps.Rekey side ∷ []) old.link h.1.link new.link h.3.does.link r (r.done, refl, r.are)
out_steps (Settle ∷ l) old new h =
    let r = out_steps l h.1 new h.4 in let t = h.3.does.turns in out_behind (Settle ∷ l) l (replicate (t + 1) steps.Settle) old.link h.1.link new.link h.3.does.link r (t, r.done, refl, r.are)

-- a side has nothing left, and the other made nothing
none_of_both : (side : Side) (old new : Both) → NoneMade old → (side_at side new).mux.made ≡ [] → side_at (other_side side) new ≡ side_at (other_side side) old → NoneMade new
none_of_both Client old new n m o = (m, ap (λ (s : PairSide). s.mux.made) o ∙ n.1)
none_of_both Server old new n m o = (ap (λ (s : PairSide). s.mux.made) o ∙ n.0, m)

none_behind : (step : ChannelStep) (old called : Both) (l : LinkState) (new : PairOnLink) → NoneMade old → Called step old called → DoesStep step (record { both = called; link = l }) new → NoneMade new.both
none_behind (Start side) old called l new n c d = none_of_both side old new.both n d.emptied.made (d.emptied.other ∙ c.2)
none_behind (Write side channel bytes) old called l new n c d = none_of_both side old new.both n d.emptied.made (d.emptied.other ∙ c.2)
none_behind (Read side channel k) old called l new n c d = none_of_both side old new.both n d.emptied.made (d.emptied.other ∙ c.2)
none_behind (Eof side channel) old called l new n c d = none_of_both side old new.both n d.emptied.made (d.emptied.other ∙ c.2)
none_behind (Close side channel) old called l new n c d = none_of_both side old new.both n d.emptied.made (d.emptied.other ∙ c.2)
none_behind (Deliver side count) old called l new n c d = none_of_both side old new.both n d.received.made (d.received.other ∙ ap (side_at (other_side side)) c)
none_behind (Rekey side) old called l new n c d = subst NoneMade (sym (d.same ∙ c)) n
none_behind Settle old called l new n c d = (d.none.client_made, d.none.server_made)

none_made : (given : List ChannelStep) (old new : PairOnLink) → NoneMade old.both → RunsSteps given old new → NoneMade new.both
none_made [] old new n e = subst (λ (x : PairOnLink). NoneMade x.both) (sym e) n
none_made (step ∷ l) old new n h = none_made l h.1 new (none_behind step old.both h.0 old.link h.1 n h.2 h.3.does) h.4

pub runs_in_order : RunsInOrder
runs_in_order config first given last run =
    let o = out_steps given (first_on_link config first) last run in
    (subst (AreLinkSteps given) (sym o.out) o.are, none_made given (first_on_link config first) last (refl, refl) run)
