use Rattle.ssh_rules.proofs.side.RunSays.{rest_says}
use Rattle.ssh_rules.proofs.laws.rested_run.Goals as goal

pub returns : goal.returns
returns g c = λ side config a h gr own_id log st bytes rest asked valid steps quiet e part rekey. rest_says _ side config own_id log st bytes rest asked valid steps quiet e part rekey
