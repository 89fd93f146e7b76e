use Rattle.ssh_mux.proofs.Finishing.{runs_finish}
use Rattle.ssh_mux.proofs.laws.runs_finish.Goals as goal

pub returns : goal.returns
returns g c = runs_finish g.A.Agreement.client_makes g.A.Agreement.server_makes g.A.Agreement.agrees
