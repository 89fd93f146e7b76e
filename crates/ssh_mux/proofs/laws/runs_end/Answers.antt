use Rattle.ssh_mux.proofs.Finishing.{runs_end}
use Rattle.ssh_mux.proofs.laws.runs_end.Goals as goal

pub returns : goal.returns
returns g c = runs_end g.A.Agreement.client_makes g.A.Agreement.server_makes g.A.Agreement.agrees
