use Rattle.std.proofs.Common.{◌∙◌, sym}
use Rattle.ssh_service.proofs.StandsLaws.{answers_so, offered_so, stands_so}
use Rattle.ssh_service.proofs.services.Services.receive.Goals as goal

pub returns-in-Ok-clause-answer : goal.returns-in-Ok-clause-answer
returns-in-Ok-clause-answer c = λ earlier st. answers_so c.args.self.now earlier c.args.payload.now c.in-Ok.message c.answer.result st (sym c.is_for_above.ensures ∙ c.if-is_for_above.false) c.in-Ok.ensures.exact c.answer.ensures.answer

pub returns-in-Ok-clause-stands : goal.returns-in-Ok-clause-stands
returns-in-Ok-clause-stands c = stands_so c.args.self.now c.answer.new.self c.args.payload.now c.in-Ok.message c.answer.result c.in-Ok.ensures.exact c.answer.ensures.moves

pub returns-in-Ok-clause-offered : goal.returns-in-Ok-clause-offered
returns-in-Ok-clause-offered c = offered_so c.args.self.now c.answer.new.self c.in-Ok.message c.answer.result c.answer.ensures.moves c.answer.ensures.unchanged
