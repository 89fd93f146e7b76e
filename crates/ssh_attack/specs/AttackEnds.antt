-- One side of an attacked link, as its calls leave it.
use Rattle.std.specs.Prelude.{◌≡◌, false, List, [], ◌∷◌, Result, Ok, Err}
use Rattle.ssh_wire.specs.Sides.{same_side}
use Rattle.ssh_wire.specs.declared.error.Error.{Error}
use Rattle.ssh_wire.specs.declared.side.Side.{Side}
use Rattle.ssh_wire.specs.declared.side.Side.TheVariants.{Client, Server}
use Rattle.ssh_kex.specs.declared.config.Config.{Config}
use Rattle.ssh_rules.specs.Answering.{HasAnswered, PartTests}
use Rattle.ssh_rules.specs.Asking.{PartCalls}
use Rattle.ssh_rules.specs.Attacking.{AttackedEnd}
use Rattle.ssh_rules.specs.Standing.{IsNew, Standing}
use Rattle.ssh_rules.specs.declared.link.AttackReport.{AttackReport}
use Rattle.ssh_rules.specs.declared.link.AttackStep.{AttackStep}
use Rattle.ssh_rules.specs.declared.link.AttackStep.TheVariants.{Feed, Rekey, Submit}
use Rattle.ssh_transport.specs.Coming.{ComesAnswered}
use Rattle.ssh_transport.specs.Drawing.{PartsStand, StaysDrawn}
use Rattle.ssh_attack.specs.declared.attack_end.AttackEnd.{AttackEnd}

-- with how often its parts were asked
abbrev pub attacked_end : AttackEnd → PartCalls → AttackedEnd
attacked_end end calls = record { transport = end.transport; taken = end.taken; delivered = end.delivered.items; calls = calls }

-- where it isn't said
abbrev pub none_asked : PartCalls
none_asked = record { agreement = 0; hosts = 0; lookups = 0 }

-- a side that has sent its id line alone
pub record IsFirstEnd (side : Side) (config : Config) (end : AttackEnd) : Type 0 where
  pub new : IsNew side config end.transport
  pub taken : end.taken ≡ 0
  pub delivered : end.delivered.items ≡ []

-- A call leaves a side such that its first KEXINIT is drawn from the generator that was handed in at the start, if it was
-- so before. And where the side isn't refused, each part answered all that it was asked on the way.
pub record LeavesEnd (old new : Standing) (parts parts' : PartsStand) : Type 0 where
  pub drawn : StaysDrawn old new parts.stream parts'.stream
  pub came : new.failed ≡ false → (old.failed ≡ false) × ComesAnswered old new parts.tests parts'.tests

-- all bytes that a side was fed were taken
abbrev pub AllTaken : Side → List AttackStep → List (Result (Unit {0}) Error) → Type 0
AllTaken side [] answers = Unit {0}
AllTaken side (step ∷ steps) [] = Unit {0}
AllTaken side (Feed s bytes ∷ steps) (Ok u ∷ answers) = AllTaken side steps answers
AllTaken side (Feed s bytes ∷ steps) (Err e ∷ answers) = (same_side s side ≡ false) × AllTaken side steps answers
AllTaken side (Submit s payload ∷ steps) (answer ∷ answers) = AllTaken side steps answers
AllTaken side (Rekey s ∷ steps) (answer ∷ answers) = AllTaken side steps answers

-- of a side that took all that it was fed, the parts answered all that they were asked
pub record EndsAnswered (client server : Config) (steps : List AttackStep)
    (of_client of_client' of_server of_server' : PartTests) (report : AttackReport) : Type 0 where
  pub by_client : AllTaken Client steps report.answers
      → HasAnswered Client client report.client.wire report.client.exchanges of_client of_client'
  pub by_server : AllTaken Server steps report.answers
      → HasAnswered Server server report.server.wire report.server.exchanges of_server of_server'
