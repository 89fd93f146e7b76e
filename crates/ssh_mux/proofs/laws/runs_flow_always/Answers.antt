use Rattle.ssh_mux.proofs.Finishing.{runs_flow_always}
use Rattle.ssh_mux.proofs.laws.runs_flow_always.Goals as goal

pub returns : goal.returns
returns g c = runs_flow_always g.A.Agreement.client_makes g.A.Agreement.server_makes g.A.Agreement.agrees
