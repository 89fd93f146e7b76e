use Rattle.ssh_rules.proofs.any_bytes.Attacked.{run_keyed}
use Rattle.ssh_rules.proofs.laws.keyed_run.Goals as goal

pub returns : goal.returns
returns g c = λ side config a h gr setup heard log st lawful text steps.
    run_keyed _ _ side config log st heard (λ name group client server secret e. e setup lawful) text steps
