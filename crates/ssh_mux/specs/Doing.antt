-- What is done behind the call of a step.
use Rattle.std.specs.Prelude.{◌≡◌, ℕ, ◌+◌, List, [], ◌∷◌, ◌++◌, replicate}
use Rattle.ssh_wire.specs.declared.side.Side.TheVariants.{Client, Server}
use Rattle.ssh_rules.specs.declared.link.Step.{Step}
use Rattle.ssh_rules.specs.declared.link.Step.TheVariants as steps
use Rattle.ssh_run.specs.Carrying.{CarriedLink}
use Rattle.ssh_run.specs.Stepping.{LinkState}
use Rattle.ssh_mux.specs.Running.{Both, CarriesOut, DeliversNone, DeliversOnce, PairOnLink, RekeysOnce, RunsSteps, SettlesBoth, SubmitsMade, but_submits, first_on_link, state_at}
use Rattle.ssh_mux.specs.declared.pair.PairConfig.{PairConfig}
use Rattle.ssh_mux.specs.declared.run.LinkCall.{LinkCall}
use Rattle.ssh_mux.specs.declared.run.LinkCall.TheVariants as calls
use Rattle.ssh_mux.specs.declared.step.ChannelStep.{ChannelStep}
use Rattle.ssh_mux.specs.declared.step.ChannelStep.TheVariants.{Start, Write, Read, Eof, Close, Deliver, Rekey, Settle}

-- what is to be done behind the call of a step
abbrev pub link_call : ChannelStep → LinkCall
link_call (Start side) = calls.Submit side
link_call (Write side channel bytes) = calls.Submit side
link_call (Read side channel n) = calls.Submit side
link_call (Eof side channel) = calls.Submit side
link_call (Close side channel) = calls.Submit side
link_call (Deliver side count) = calls.Deliver side count
link_call (Rekey side) = calls.Rekey side
link_call Settle = calls.Settle

-- it was done
abbrev pub DoesCall : LinkCall → (old new : PairOnLink) → Type 0
DoesCall (calls.Submit side) old new = SubmitsMade side old new
DoesCall (calls.Deliver side count) old new = DeliversOnce side count old new
DoesCall (calls.Rekey side) old new = RekeysOnce side old new
DoesCall calls.Settle old new = SettlesBoth old new

-- The link only submits, and delivers nothing.
pub record OnlySubmits (old new : LinkState) : Type 0 where
  pub none : DeliversNone old new
  pub link : CarriesOut [] old new

-- the link settled, once or more
abbrev pub SettlesSome : (old new : LinkState) → Type 0
SettlesSome old new = (turns : ℕ) × CarriesOut (replicate (turns + 1) steps.Settle) old new

-- the steps that a link carries out for steps of a run, beside submits: for each `Settle` one or more
abbrev pub AreLinkSteps : List ChannelStep → List Step → Type 0
AreLinkSteps [] done = done ≡ []
AreLinkSteps (Start side ∷ l) done = AreLinkSteps l done
AreLinkSteps (Write side channel bytes ∷ l) done = AreLinkSteps l done
AreLinkSteps (Read side channel n ∷ l) done = AreLinkSteps l done
AreLinkSteps (Eof side channel ∷ l) done = AreLinkSteps l done
AreLinkSteps (Close side channel ∷ l) done = AreLinkSteps l done
AreLinkSteps (Deliver side count ∷ l) done = (rest : List Step) × (done ≡ steps.Deliver side count ∷ rest) × AreLinkSteps l rest
AreLinkSteps (Rekey side ∷ l) done = (rest : List Step) × (done ≡ steps.Rekey side ∷ rest) × AreLinkSteps l rest
AreLinkSteps (Settle ∷ l) done = (turns : ℕ) × (rest : List Step) × (done ≡ replicate (turns + 1) steps.Settle ++ rest) × AreLinkSteps l rest

-- nothing that a side made is left
abbrev pub NoneMade : Both → Type 0
NoneMade b = ((state_at Client b).made ≡ []) × ((state_at Server b).made ≡ [])

-- Of a run from its first step the link carries out what is asked for, in order, and beside that only submits. Nothing
-- that a side made is left.
abbrev pub RunsInOrder : Type 0
RunsInOrder = (config : PairConfig) (first : CarriedLink) (given : List ChannelStep) (last : PairOnLink) → RunsSteps given (first_on_link config first) last
    → AreLinkSteps given (but_submits last.link.steps) × NoneMade last.both
