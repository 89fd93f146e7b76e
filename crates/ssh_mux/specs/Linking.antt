-- What the steps of a link do, by what the parts of both sides say.
use Rattle.std.specs.Prelude.{◌≡◌, List, [], ◌∷◌}
use Rattle.ssh_kex.specs.Setting.{Says}
use Rattle.ssh_rules.specs.declared.link.Step.{Step}
use Rattle.ssh_run.specs.Stepping.{LinkState, TakesStep}

-- these steps were carried out, each with the link behind it
abbrev pub TakesEach : (client server : Says) → List (Step × LinkState) → (old new : LinkState) → Type 0
TakesEach client server [] old new = new ≡ old
TakesEach client server (taken ∷ more) old new = TakesStep client server taken.0 old taken.1 × TakesEach client server more taken.1 new

-- nothing else was done on the link
abbrev pub TakesSteps : (client server : Says) → (old new : LinkState) → Type 0
TakesSteps client server old new = (taken : List (Step × LinkState)) × TakesEach client server taken old new
