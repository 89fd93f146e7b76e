use Rattle.ssh_mux.proofs.Doing.{runs_in_order}
use Rattle.ssh_mux.proofs.laws.runs_in_order.Goals as goal

pub returns : goal.returns
returns c = runs_in_order
