use Rattle.ssh_rules.proofs.any_bytes.Attacked.{run_signed}
use Rattle.ssh_rules.proofs.laws.signed_run.Goals as goal

pub returns : goal.returns
returns g c = λ config a h gr own_id log st steps. run_signed _ _ _ config own_id log st (λ host hash signature e. e, λ host e. e) steps
