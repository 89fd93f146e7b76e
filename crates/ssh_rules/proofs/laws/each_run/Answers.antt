use Rattle.ssh_rules.proofs.side.RunSays.{run_says}
use Rattle.ssh_rules.proofs.laws.each_run.Goals as goal

pub returns : goal.returns
returns g c = λ side config a h gr own_id log st valid sizes steps. run_says _ side config own_id log st valid sizes steps
