use Rattle.ssh_run.specs.LinkEnds.{link_of}
use Rattle.ssh_run.proofs.Asking.{always_err, turns_still}
use Rattle.ssh_run.proofs.LinkSoFar.{few_delivered, few_rekeyed, few_settled, few_submitted}
use Rattle.ssh_run.proofs.link.Carrier.step.Goals as goal

pub returns-in-Submit-clause-asked : goal.returns-in-Submit-clause-asked
returns-in-Submit-clause-asked g c = λ lc ls. always_err c.submit.result _ (turns_still _ _ (link_of c.args.self.now) _ _ _ _ c.submit.ensures.calls_client c.submit.ensures.calls_server)

pub returns-in-Rekey-clause-asked : goal.returns-in-Rekey-clause-asked
returns-in-Rekey-clause-asked g c = λ lc ls. always_err c.rekey.result _ (turns_still _ _ (link_of c.args.self.now) _ _ _ _ c.rekey.ensures.calls_client c.rekey.ensures.calls_server)

pub returns-in-Settle-clause-few : goal.returns-in-Settle-clause-few
returns-in-Settle-clause-few g c = few_settled c.settle.result _ _ _ c.in-Settle.is c.settle.ensures.few_by_client c.settle.ensures.few_by_server

pub returns-in-Submit-clause-few : goal.returns-in-Submit-clause-few
returns-in-Submit-clause-few g c = few_submitted c.submit.result _ _ _ _ _ c.in-Submit.is

pub returns-in-Deliver-clause-few : goal.returns-in-Deliver-clause-few
returns-in-Deliver-clause-few g c = few_delivered c.deliver.result _ _ _ _ _ c.in-Deliver.is

pub returns-in-Rekey-clause-few : goal.returns-in-Rekey-clause-few
returns-in-Rekey-clause-few g c = few_rekeyed c.rekey.result _ _ _ _ c.in-Rekey.is
