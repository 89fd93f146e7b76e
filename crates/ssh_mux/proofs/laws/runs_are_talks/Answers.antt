use Rattle.ssh_mux.proofs.Honesty.{runs_are_talks}
use Rattle.ssh_mux.proofs.laws.runs_are_talks.Goals as goal

pub returns : goal.returns
returns g c = runs_are_talks g.A.Agreement.client_makes g.A.Agreement.server_makes g.A.Agreement.agrees
