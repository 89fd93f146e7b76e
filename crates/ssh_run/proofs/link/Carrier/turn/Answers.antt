use Rattle.ssh_run.proofs.Leaving.{turn_leaves}
use Rattle.ssh_run.specs.Carrying.{all_bytes}
use Rattle.ssh_run.specs.LinkEnds.{carried_end, link_of}
use Rattle.ssh_run.proofs.Asking.{always_err, half_part_of, server_part_of, where_err}
use Rattle.ssh_run.proofs.link.Carrier.turn.Goals as goal

pub returns-in_err-deliver-clause-asked : goal.returns-in_err-deliver-clause-asked
returns-in_err-deliver-clause-asked g c = λ lc ls. always_err c.from_residual.result _ (server_part_of _ _ (link_of c.args.self.now) c.output.result.now all_bytes _ _ _ c.output.ensures (c.in_err-deliver.ensures.asked ls))

pub returns-clause-asked : goal.returns-clause-asked
returns-clause-asked g c = λ lc ls. where_err c.deliver-2.result _ _ (half_part_of _ _ (link_of c.args.self.now) (carried_end c.deliver.new.self) c.output.result.now c.output-2.result.now _ _ _ _ c.output.ensures c.output-2.ensures c.in_ok-deliver.ensures.carries c.in_ok-deliver.ensures.asks) (c.deliver-2.ensures.asked lc)

pub returns-clause-leaves : goal.returns-clause-leaves
returns-clause-leaves g c = turn_leaves c.deliver-2.result (link_of c.args.self.now) _ _ _ _ _ c.in_ok-deliver.ensures.leaves c.deliver-2.ensures.leaves
