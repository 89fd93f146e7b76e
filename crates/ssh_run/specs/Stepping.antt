-- A link that is carried out step by step.
use Rattle.std.specs.Prelude.{◌≡◌, ℕ, Bool, false, List, [], ◌∷◌, ◌++◌}
use Rattle.ssh_kex.specs.Setting.{Says}
use Rattle.ssh_rules.specs.declared.link.LinkReport.{LinkReport}
use Rattle.ssh_rules.specs.declared.link.Mark.{Mark}
use Rattle.ssh_rules.specs.declared.link.Step.{Step}
use Rattle.ssh_run.specs.Carrying.{CarriedLink, FewBehind, StepsLink, both_marks, bound_behind, reported_end}

-- Both sides, how many exchanges may be begun, the steps that were carried out, a mark before the first and behind
-- each, and whether a step was refused.
pub record LinkState : Type 0 where
  pub carried : CarriedLink
  pub bound : ℕ
  pub steps : List Step
  pub marks : List Mark
  pub refused : Bool

-- a link on which nothing was carried out
abbrev pub first_link_state : CarriedLink → LinkState
first_link_state l = record { carried = l; bound = 1; steps = []; marks = both_marks l ∷ []; refused = false }

-- a step was carried out
pub record TakesStep (client server : Says) (step : Step) (old new : LinkState) : Type 0 where
  pub link : StepsLink client server step old.carried new.carried
  pub few : FewBehind old.bound step new.carried
  pub bound : new.bound ≡ bound_behind step old.bound
  pub steps : new.steps ≡ old.steps ++ step ∷ []
  pub marks : new.marks ≡ old.marks ++ both_marks new.carried ∷ []
  pub lives : new.refused ≡ false

-- something holds where neither side has failed
abbrev pub WhereLive : LinkState → Type 0 → Type 0
WhereLive l holds = l.carried.client.transport.failed ≡ false → l.carried.server.transport.failed ≡ false → holds

-- the report of what was carried out
abbrev pub report_so_far : LinkState → LinkReport
report_so_far l = record { client = reported_end l.carried.client; server = reported_end l.carried.server; marks = l.marks }
