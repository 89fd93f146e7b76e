use Rattle.ssh_mux.proofs.Honesty.{runs_flow}
use Rattle.ssh_mux.proofs.laws.runs_flow.Goals as goal

pub returns : goal.returns
returns g c = runs_flow g.A.Agreement.client_makes g.A.Agreement.server_makes g.A.Agreement.agrees
