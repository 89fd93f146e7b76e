use Rattle.ssh_mux.proofs.Settling.{runs_settle}
use Rattle.ssh_mux.proofs.laws.runs_settle.Goals as goal

pub returns : goal.returns
returns g c = runs_settle g.A.Agreement.client_makes g.A.Agreement.server_makes g.A.Agreement.agrees
