use Rattle.ssh_link.proofs.RefusedPlans.{plan_refused}
use Rattle.ssh_link.proofs.text_answer.script_answer.Goals as goal

pub returns : goal.returns
returns c = record { answer = plan_refused c.args.script c.in-Err.error c.refused.result (c.in-Err.ensures.causes c.requires) c.in-Err.ensures.configs c.in-Err.ensures.complete c.refused.ensures.answer }
