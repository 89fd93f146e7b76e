-- Where a run is refused for a message that came.
use Rattle.std.proofs.Common.{◌≡◌, ℕ, Bool, true, false, if◌then◌else◌, List, [], ◌++◌, drop, slice_get, Option, Some, None, Result, Ok, Err, IfErr, refl, sym, ap, ◌∙◌, subst}
use Rattle.ssh_wire.specs.declared.side.Side.{Side}
use Rattle.ssh_wire.specs.declared.side.Side.TheVariants.{Client, Server}
use Rattle.ssh_channels.specs.Asking.{IsRefused, call_fault_at, request_fault, RefusesOneOf}
use Rattle.ssh_channels.specs.Ends.{Call, CallClose, CallEof, Read, Write}
use Rattle.ssh_channels.specs.Muxes.{Channel, On, Request, Start}
use Rattle.ssh_channels.specs.Muxes as muxes
use Rattle.ssh_channels.specs.declared.fault.MuxFault.{MuxFault}
use Rattle.ssh_run.specs.Stepping.{LinkState, first_link_state}
use Rattle.ssh_mux.specs.Breaking.{BreaksAt, BreaksRun, IsNoMessageFault, is_message_fault, is_message_refused}
use Rattle.ssh_mux.specs.Running.{Both, Called, Carries, PairOnLink, RunsSteps, delivered_at, fault_as, first_on_link, on_link, request_of, side_at, state_at, step_fault}
use Rattle.ssh_mux.specs.Pairs.{new_pair}
use Rattle.ssh_mux.specs.declared.fault.RunFault.{RunFault}
use Rattle.ssh_mux.specs.declared.fault.RunFault.TheVariants.{Mux}
use Rattle.ssh_mux.specs.declared.pair.Pair.{Pair}
use Rattle.ssh_mux.specs.declared.pair.PairConfig.{PairConfig}
use Rattle.ssh_mux.specs.declared.report.MuxEnd.{MuxEnd}
use Rattle.ssh_mux.specs.declared.step.ChannelStep.{ChannelStep}
use Rattle.ssh_mux.proofs.Carrying.{carries_none, carries_then, runs_then}

-- what was carried before
pub breaks_behind : (fault : RunFault) (old mid : PairOnLink) (l : LinkState) → Carries old mid → BreaksAt fault mid l → BreaksAt fault old l
breaks_behind fault old mid l h b = record { both = b.both; carries = carries_then old mid (record { both = b.both; link = l }) h b.carries; breaks = b.breaks }

-- what a refusal for a message that came says
pub broken_so : {A : Type 0} (r : Result A RunFault) (fault : RunFault) (old : PairOnLink) (l : LinkState) (T : Type 0) → r ≡ Err fault → (is_message_refused fault ≡ true → BreaksAt fault old l × T)
    → IfErr r (λ f. is_message_refused f ≡ true → BreaksAt f old l × T)
broken_so r fault old l T e h = subst (λ x. IfErr x (λ f. is_message_refused f ≡ true → BreaksAt f old l × T)) (sym e) h

-- a side refuses one of the payloads that were delivered to it
pub receive_breaks : (side : Side) (delivered : List (List ℕ)) (l : LinkState) (old : Both) (fault : MuxFault) → (side ≡ Client → delivered ≡ l.carried.client.delivered) → (side ≡ Server → delivered ≡ l.carried.server.delivered)
    → RefusesOneOf (drop (side_at side old).received delivered) (state_at side old) fault → BreaksAt (Mux fault) (record { both = old; link = l }) l
receive_breaks side delivered l old fault c s h = record {
  both = old;
  carries = carries_none _ _ refl;
  breaks = record { side = side; due = fault; fault_is = refl; breaks = subst (λ d. RefusesOneOf (drop (side_at side old).received d) (state_at side old) fault) (all side c s) h };
}
  where
    all : (side : Side) → (side ≡ Client → delivered ≡ l.carried.client.delivered) → (side ≡ Server → delivered ≡ l.carried.server.delivered) → delivered ≡ delivered_at side l
    all Client c s = c refl
    all Server c s = s refl

-- ---- steps

-- what a call refuses is no message
abbrev pub IsCallers : Option MuxFault → Type 0
IsCallers None = Unit {0}
IsCallers (Some due) = is_message_fault due ≡ false

none_callers : IsCallers None
none_callers = tt

either_callers : (b : Bool) (due : MuxFault) → is_message_fault due ≡ false → IsCallers (if b then Some due else None)
either_callers true due e = e
either_callers false due e = tt

room_callers : (b : Bool) (due : MuxFault) → is_message_fault due ≡ false → IsCallers (if b then None else Some due)
room_callers true due e = tt
room_callers false due e = e

channel_callers : (call : Call) (own : ℕ) (c : Option Channel) → IsCallers (call_fault_at call own c)
channel_callers call own None = refl
channel_callers (Write bytes) own (Some c) = either_callers _ _ refl
channel_callers (Read n) own (Some c) = none_callers
channel_callers CallEof own (Some c) = either_callers _ _ refl
channel_callers CallClose own (Some c) = either_callers _ _ refl

request_callers : (request : Request) (side : muxes.Mux) → IsCallers (request_fault request side)
request_callers Start side = room_callers _ _ refl
request_callers (On channel call) side = channel_callers call channel (slice_get side.channels channel)

as_callers : (call : Option (Side × Request)) (b : Both) → IsCallers (fault_as call b)
as_callers None b = none_callers
as_callers (Some call) b = request_callers call.1 (state_at call.0 b).side

refused_callers : (due : Option MuxFault) (f : MuxFault) (U : Type 0) → IsCallers due → IsRefused due f U → is_message_fault f ≡ false
refused_callers None f U k e = ap is_message_fault e
refused_callers (Some due) f U k (e, u) = ap is_message_fault e ∙ k

pub call_unbroken : (step : ChannelStep) (b : Both) (f : MuxFault) (U : Type 0) → IsRefused (step_fault step b) f U → is_message_fault f ≡ false
call_unbroken step b f U h = refused_callers (step_fault step b) f U (as_callers (request_of step) b) h

-- a step whose call was answered
pub step_breaks : {A : Type 0} (r : Result A RunFault) (step : ChannelStep) (old : PairOnLink) (called : Both) (l : LinkState) (T : Type 0) → Called step old.both called
    → IfErr r (λ f. is_message_refused f ≡ true → BreaksAt f (record { both = called; link = old.link }) l × T) → IfErr r (λ f. is_message_refused f ≡ true → BreaksRun f old l × T)
step_breaks (Ok x) step old called l T h b = tt
step_breaks (Err f) step old called l T h b = λ m. let k = b m in (record { done = []; step = step; mid = old; run = refl; called = called; call = h; at = k.0 }, k.1)

-- a call that was refused
pub call_breaks : {A : Type 0} (r : Result A RunFault) (step : ChannelStep) (b : Both) (f : MuxFault) (U : Type 0) (T : RunFault → Type 0) → r ≡ Err (Mux f) → IsRefused (step_fault step b) f U → IfErr r (λ f. is_message_refused f ≡ true → T f)
call_breaks r step b f U T e h = subst (λ x. IfErr x (λ f. is_message_refused f ≡ true → T f)) (sym e) (λ m. absurd (let n : true ≡ false = sym m ∙ call_unbroken step b f U h in cc))

-- the steps before
pub run_breaks : (steps : List ChannelStep) (fault : RunFault) (old mid : PairOnLink) (l : LinkState) → RunsSteps steps old mid → BreaksRun fault mid l → BreaksRun fault old l
run_breaks steps fault old mid l h b = record { done = steps ++ b.done; step = b.step; mid = b.mid; run = runs_then steps b.done old mid b.mid h b.run; called = b.called; call = b.call; at = b.at }

-- a run from its first step
pub first_breaks : (config : PairConfig) (p : Pair) (l : LinkState) (fault : RunFault) (last : LinkState) → p ≡ new_pair config → l ≡ first_link_state l.carried → BreaksRun fault (on_link p l) last → BreaksRun fault (first_on_link config l.carried) last
first_breaks config p l fault last new first b = subst (λ q. BreaksRun fault (on_link q (first_link_state l.carried)) last) new (subst (λ m. BreaksRun fault (on_link p m) last) first b)

-- ---- ends

pub end_unbroken : (end : MuxEnd) (fault : RunFault) → end ≡ record { fault = fault; before = None } → IsNoMessageFault fault → IsNoMessageFault end.fault
end_unbroken end fault e h = ap (λ (x : MuxEnd). is_message_refused x.fault) e ∙ h

-- a fault that is no message's where it is one
pub never_message : (fault : RunFault) → (is_message_refused fault ≡ true → IsNoMessageFault fault) → IsNoMessageFault fault
never_message fault h = on (is_message_refused fault) refl
  where
    on : (b : Bool) → is_message_refused fault ≡ b → IsNoMessageFault fault
    on true e = h e
    on false e = e
