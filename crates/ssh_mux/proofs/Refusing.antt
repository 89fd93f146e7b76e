-- How a run ends.
use Rattle.std.proofs.Common.{◌≡◌, ◌⊎◌, inl, inr, Bool, true, false, List, [], ◌∷◌, ◌++◌, Option, Some, None, Result, Ok, Err, IfErr, IfOk, IfSome, refl, sym, ap, ◌∙◌, subst}
use Rattle.ssh_mux.specs.Pairs.{are_within, new_pair}
use Rattle.ssh_mux.specs.Program.{HasBefore, IsRefusedRun, IsWholeRun}
use Rattle.ssh_run.specs.Carrying.{CarriedLink}
use Rattle.ssh_run.specs.Stepping.{LinkState, first_link_state}
use Rattle.ssh_mux.specs.Running.{IsBrokenOff, PairOnLink, first_on_link, IsEndBehind, IsLinkFault, LeavesNone, RunsSteps, TellsRun, Told, Untold, is_call_refused, on_link}
use Rattle.ssh_mux.specs.declared.fault.RunFault.{RunFault}
use Rattle.ssh_mux.specs.declared.fault.RunFault.TheVariants.{Config}
use Rattle.ssh_mux.specs.declared.pair.Pair.{Pair}
use Rattle.ssh_mux.specs.declared.pair.PairConfig.{PairConfig}
use Rattle.ssh_mux.specs.declared.report.MuxEnd.{MuxEnd}
use Rattle.ssh_mux.specs.declared.report.MuxReport.{MuxReport}
use Rattle.ssh_mux.specs.declared.step.ChannelStep.{ChannelStep}
use Rattle.ssh_mux.specs.declared.step.ChannelStep.TheVariants.{Settle}

pub refused_config : (config : PairConfig) (steps : List ChannelStep) (end : MuxEnd) → are_within config ≡ false → end ≡ record { fault = Config; before = None } → IsRefusedRun config steps end
refused_config config steps end out e = subst (IsRefusedRun config steps) (sym e) (record { out = λ o. refl; config_is = λ c. out; before = tt })

within_not : (config : PairConfig) → are_within config ≡ true → are_within config ≡ false → ⊥
within_not config t f = let n : true ≡ false = sym t ∙ f in cc

unreported : (b : Bool) (Tells : MuxReport → Type 0) (before : Option MuxReport) → b ≡ false → before ≡ None → HasBefore b Tells before
unreported b Tells before e n = subst (λ x. HasBefore x Tells before) (sym e) (subst (HasBefore false Tells) (sym n) tt)

reported : (b : Bool) (Tells : MuxReport → Type 0) (before : Option MuxReport) (report : MuxReport) → b ≡ true → before ≡ Some report → Tells report → HasBefore b Tells before
reported b Tells before report e n h = subst (λ x. HasBefore x Tells before) (sym e) (subst (HasBefore true Tells) (sym n) h)

pub refused_link : (config : PairConfig) (steps : List ChannelStep) (end : MuxEnd) → are_within config ≡ true → IsLinkFault end.fault → end.before ≡ None → IsRefusedRun config steps end
refused_link config steps end within link none = record {
  out = λ o. absurd (within_not config within o);
  config_is = λ c. absurd (link.1 c);
  before = unreported (is_call_refused end.fault) _ end.before link.0 none;
}

pub refused_behind : (config : PairConfig) (steps : List ChannelStep) (fault : RunFault) (first : CarriedLink) (b : PairOnLink) (end : MuxEnd) → are_within config ≡ true
    → IsBrokenOff steps fault (first_on_link config first) b ⊎ IsLinkFault fault → IsEndBehind fault b end → IsRefusedRun config steps end
refused_behind config steps fault first b end within how (Untold link none) = refused_link config steps end within link none
refused_behind config steps fault first b end within (inr link) (Told report refused same before tells) = let n : true ≡ false = sym refused ∙ link.0 in cc
refused_behind config steps fault first b end within (inl broken) (Told report refused same before tells) = record {
  out = λ o. absurd (within_not config within o);
  config_is = λ c. let n : is_call_refused fault ≡ false = ap is_call_refused (sym same ∙ c) in let m : true ≡ false = sym refused ∙ n in cc;
  before = reported (is_call_refused end.fault) _ end.before report (ap is_call_refused same ∙ refused) before
      (record { first = first; last = b; broken = subst (λ f. IsBrokenOff steps f (first_on_link config first) b) (sym same) broken; tells = tells });
}

pub whole : (config : PairConfig) (steps : List ChannelStep) (first : CarriedLink) (b : PairOnLink) (report : MuxReport) → are_within config ≡ true → RunsSteps steps (first_on_link config first) b → TellsRun b report → ((before : List ChannelStep) → steps ≡ before ++ Settle ∷ [] → LeavesNone b) → IsWholeRun config steps report
whole config steps first b report within run tells settled = record { within = within; run = record { first = first; last = b; run = run; tells = tells; settled = settled } }

pub ended_untold : (fault : RunFault) (b : PairOnLink) (end : MuxEnd) → end ≡ record { fault = fault; before = None } → is_call_refused fault ≡ false → (fault ≡ Config → ⊥) → IsEndBehind fault b end
ended_untold fault b end e uncalled config = subst (IsEndBehind fault b) (sym e) (Untold (uncalled, config) refl)

pub ended_wanting : (fault other : RunFault) (b : PairOnLink) (end : MuxEnd) → end ≡ record { fault = other; before = None } → IsLinkFault other → IsEndBehind fault b end
ended_wanting fault other b end e link = subst (IsEndBehind fault b) (sym e) (Untold link refl)

pub ended_told : (fault : RunFault) (b : PairOnLink) (end : MuxEnd) (report : MuxReport) → is_call_refused fault ≡ true → end ≡ record { fault = fault; before = Some report } → TellsRun b report → IsEndBehind fault b end
ended_told fault b end report call e tells = subst (IsEndBehind fault b) (sym e) (Told report call refl refl tells)

-- an end without a report has none of which anything is so
pub none_before : (end : MuxEnd) (fault : RunFault) (T : MuxReport → Type 0) → end ≡ record { fault = fault; before = None } → IfSome end.before T
none_before end fault T e = subst (λ (x : MuxEnd). IfSome x.before T) (sym e) tt

-- where a call was refused, its report is one of what was carried before
pub before_told : (T : MuxReport → Type 0) (fault : RunFault) (b : PairOnLink) (end : MuxEnd) → IsEndBehind fault b end → (is_call_refused fault ≡ true → (report : MuxReport) → TellsRun b report → T report) → IfSome end.before T
before_told T fault b end (Told report refused same before tells) f = subst (λ o. IfSome o T) (sym before) (f refused report tells)
before_told T fault b end (Untold link none) f = subst (λ o. IfSome o T) (sym none) tt

-- what is so of the link where a call is refused, and where the link refuses
pub called_so : {A : Type 0} (r : Result A RunFault) (T : Type 0) → T → IfErr r (λ f. is_call_refused f ≡ true → T)
called_so (Ok x) T t = tt
called_so (Err f) T t = λ _. t

pub uncalled_so : {A : Type 0} (r : Result A RunFault) (T : Type 0) → IfErr r IsLinkFault → IfErr r (λ f. is_call_refused f ≡ true → T)
uncalled_so (Ok x) T h = tt
uncalled_so (Err f) T h = λ m. absurd (let n : true ≡ false = sym m ∙ h.0 in cc)

-- the answer of a run that went to its end, with memory for its report
pub whole_told : (config : PairConfig) (steps : List ChannelStep) (p : Pair) (l : LinkState) (b : PairOnLink) (r : Result MuxReport MuxEnd) (report : Result MuxReport RunFault) → are_within config ≡ true → p ≡ new_pair config → l ≡ first_link_state l.carried
    → RunsSteps steps (on_link p l) b → ((before : List ChannelStep) → steps ≡ before ++ Settle ∷ [] → LeavesNone b) → IfOk r (λ x. report ≡ Ok x) → IfOk report (TellsRun b) → IfOk r (IsWholeRun config steps)
whole_told config steps p l b (Ok x) report within new first run settled e t =
    let from_new = subst (λ q. RunsSteps steps (on_link q (first_link_state l.carried)) b) new (subst (λ m. RunsSteps steps (on_link p m) b) first run) in
    whole config steps l.carried b x within from_new (subst (λ y. IfOk y (TellsRun b)) e t) settled
whole_told config steps p l b (Err x) report within new first run settled e t = tt
