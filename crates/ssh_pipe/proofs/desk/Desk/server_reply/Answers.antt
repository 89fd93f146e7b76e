use Rattle.std.proofs.Common.{rules}
use Rattle.ssh_service.specs.declared.answer.ServiceAnswer.TheVariants.{Accepted, Bad, Other, Refused}
use Rattle.ssh_pipe.proofs.Replies.{answered_next, on_ok_all}
use Rattle.ssh_pipe.proofs.desk.Desk.server_reply.Goals as goal

pub returns-in-Accepted-clause-answered : goal.returns-in-Accepted-clause-answered
returns-in-Accepted-clause-answered c = λ earlier h. answered_next c.args.self.now _ c.self.inside.services earlier _ (Accepted c.in-Accepted.reply) c.receive.result (search rules) c.requires.server (search rules) (search rules) c.receive.ensures.offered c.receive.ensures.answer c.receive.ensures.stands (search rules) h

pub returns-in-Refused-clause-answered : goal.returns-in-Refused-clause-answered
returns-in-Refused-clause-answered c = λ earlier h. answered_next c.args.self.now _ c.self.inside.services earlier _ (Refused c.in-Refused.field-0) c.receive.result (search rules) c.requires.server (search rules) (search rules) c.receive.ensures.offered c.receive.ensures.answer c.receive.ensures.stands (search rules) h

pub returns-in-Other-clause-answered : goal.returns-in-Other-clause-answered
returns-in-Other-clause-answered c = on_ok_all c.login_reply.result _ (λ earlier h. answered_next c.args.self.now _ c.self.inside.services earlier _ Other c.receive.result (search rules) c.requires.server (search rules) (search rules) c.receive.ensures.offered c.receive.ensures.answer c.receive.ensures.stands (search rules) h)

pub returns-in-Bad-clause-answered : goal.returns-in-Bad-clause-answered
returns-in-Bad-clause-answered c = λ earlier h. answered_next c.args.self.now _ c.self.inside.services earlier _ (Bad c.in-Bad.error) c.receive.result (search rules) c.requires.server (search rules) (search rules) c.receive.ensures.offered c.receive.ensures.answer c.receive.ensures.stands (search rules) h
