-- Where a run is refused for an error of the link: the turns of a settle are all taken, or the link refuses a step.
use Rattle.std.specs.Prelude.{◌≡◌, ◌≢◌, ◌⊎◌, ℕ, zero, suc, ◌+◌, ◌-◌, ◌^◌, ◌<◌, min, true, List, [], ◌∷◌, ◌++◌, length}
use Rattle.ssh_wire.specs.declared.error.Error.{Error}
use Rattle.ssh_wire.specs.declared.error.Error.TheVariants.{Disconnect, Memory}
use Rattle.ssh_wire.specs.declared.side.Side.{Side}
use Rattle.ssh_wire.specs.declared.side.Side.TheVariants.{Client, Server}
use Rattle.ssh_kex.specs.declared.config.Config.{Config}
use Rattle.ssh_rules.specs.Headline.{submitted_by}
use Rattle.ssh_rules.specs.Valid.{is_good_payload}
use Rattle.ssh_rules.specs.declared.link.Step.{Step}
use Rattle.ssh_run.specs.RefusedCarrying.{RefusesLinkStep, Telling}
use Rattle.ssh_run.specs.RunCauses.{submits_good}
use Rattle.ssh_run.specs.Stepping.{LinkState, WhereLive}
use Rattle.ssh_channels.specs.declared.fault.MuxFault.TheVariants as mux
use Rattle.ssh_mux.specs.Linking.{TakesSteps}
use Rattle.ssh_mux.specs.Running.{Both, Called, Carries, PairOnLink, RunsSteps, state_at}
use Rattle.ssh_mux.specs.declared.fault.RunFault.{RunFault}
use Rattle.ssh_mux.specs.declared.fault.RunFault.TheVariants.{Link, Mux}
use Rattle.ssh_mux.specs.declared.step.ChannelStep.{ChannelStep}
use Rattle.ssh_mux.specs.declared.step.ChannelStep.TheVariants.{Start, Write, Read, Eof, Close, Deliver, Rekey, Settle}

abbrev pub IsNoDisconnect : RunFault → Type 0
IsNoDisconnect fault = fault ≡ Link Disconnect → ⊥

-- what is so of the error of the link, where a run is refused for one
abbrev pub WhereStopped : RunFault → (Error → Type 0) → Type 0
WhereStopped fault why = (e : Error) → fault ≡ Link e → why e

-- the link wants memory, if the run is refused for an error of the link
abbrev pub IsWanting : RunFault → Type 0
IsWanting fault = WhereStopped fault (λ e. e ≡ Memory)

-- memory isn't wanting
abbrev pub IsKept : RunFault → Type 0
IsKept fault = (fault ≢ Mux mux.Memory) × (fault ≢ Link Memory)

-- ---- payloads

-- each payload may be submitted
abbrev pub AllGood : List (List ℕ) → Type 0
AllGood [] = Unit {0}
AllGood (payload ∷ payloads) = (is_good_payload payload ≡ true) × AllGood payloads

-- so each that a side made
abbrev pub MakesGood : Both → Type 0
MakesGood b = (side : Side) → AllGood (state_at side b).made

-- ---- the turns of a settle

-- how many turns a settle may take behind a step, where it may take so many before
abbrev pub turns_behind : ChannelStep → ℕ → ℕ
turns_behind (Start side) turns = min (turns + 8) (2 ^ 64 - 1)
turns_behind (Write side channel bytes) turns = min (turns + length bytes) (2 ^ 64 - 1)
turns_behind (Read side channel n) turns = turns
turns_behind (Eof side channel) turns = turns
turns_behind (Close side channel) turns = turns
turns_behind (Deliver side count) turns = turns
turns_behind (Rekey side) turns = turns
turns_behind Settle turns = turns

-- and behind some steps
abbrev pub turns_after : ℕ → List ChannelStep → ℕ
turns_after turns [] = turns
turns_after turns (step ∷ steps) = turns_after (turns_behind step turns) steps

-- how many messages were submitted
abbrev pub submitted_in : LinkState → ℕ
submitted_in l = length (submitted_by Client l.steps) + length (submitted_by Server l.steps)

-- A turn that isn't the last: a message was submitted, and none that a side made is left.
pub record TurnsOnce (old new : PairOnLink) : Type 0 where
  pub carries : Carries old new
  pub client_made : (state_at Client new.both).made ≡ []
  pub server_made : (state_at Server new.both).made ≡ []
  pub some : submitted_in old.link < submitted_in new.link

-- so many of them
abbrev pub TurnsOn : ℕ → (old new : PairOnLink) → Type 0
TurnsOn zero old new = new ≡ old
TurnsOn (suc n) old new = (mid : PairOnLink) × TurnsOn n old mid × TurnsOnce mid new

-- The call of a step was answered, and so many turns were taken behind it.
pub record TurnsOut (turns : ℕ) (step : ChannelStep) (old new : PairOnLink) : Type 0 where
  pub called : Both
  pub call : Called step old.both called
  pub turned : TurnsOn turns (record { both = called; link = old.link }) new

-- Some steps were carried out, and behind the call of the next one all turns were taken that its settle may take.
pub record RunsOut (turns : ℕ) (old new : PairOnLink) : Type 0 where
  pub done : List ChannelStep
  pub step : ChannelStep
  pub mid : PairOnLink
  pub run : RunsSteps done old mid
  pub out : TurnsOut (turns_after turns (done ++ step ∷ [])) step mid new

-- ---- a step of the link

-- The link carried out some steps, and refused the next one for this error, or had refused one before. What the step
-- submits may be submitted. The parts of the sides are said as they were, and as they are behind the refused step.
pub record RefusesOn {P : Type 0} (keeps : P → P → Type 0) (tells : Config → P → P → Telling) (old : LinkState)
    (client client' server server' : P) (error : Error) : Type 0 where
  pub client_now : P
  pub server_now : P
  pub client_keeps : keeps client client_now
  pub server_keeps : keeps server server_now
  pub mid : LinkState
  pub goes : TakesSteps (tells old.carried.client.transport.config client client').says
      (tells old.carried.server.transport.config server server').says old mid
  pub few : length mid.steps < 2 ^ 63
  pub step : Step
  pub good : submits_good step ≡ true
  pub refused : (mid.refused ≡ true) ⊎ WhereLive mid (RefusesLinkStep
      (tells mid.carried.client.transport.config client_now client')
      (tells mid.carried.server.transport.config server_now server') mid.bound step mid.carried error)
