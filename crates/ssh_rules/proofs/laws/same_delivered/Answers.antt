use Rattle.ssh_rules.proofs.any_bytes.AttackedLinks.{same_delivered}
use Rattle.ssh_rules.proofs.laws.same_delivered.Goals as goal

pub returns : goal.returns
returns g c = λ side config a b s t h i x y r q one other fed recorded na nb. same_delivered _ _ _ _ _ _ _ _ side config x y r q one other fed recorded (λ j e. na (j, e)) (λ j e. nb (j, e))
