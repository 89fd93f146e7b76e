use Rattle.std.proofs.Common.{◌∙◌}
use Rattle.ssh_mux.proofs.Stopping.{stopped_payload}
use Rattle.ssh_mux.proofs.carried.submit_one.Goals as goal

pub returns-clause-stops : goal.returns-clause-stops
returns-clause-stops g c = stopped_payload c.step_link.result c.new.result c.args.payload _ (c.new.ensures ∙ c.into_vec.ensures) c.step_link.ensures.stops
