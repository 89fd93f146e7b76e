use Rattle.std.proofs.Common.{rules, inr}
use Rattle.ssh_pipe.proofs.Ways.{answers_message, answers_silent, one_reply, said_of}
use Rattle.ssh_pipe.proofs.talking.answer_one.Goals as goal

pub returns-in-Ok-Silent-clause-answers : goal.returns-in-Ok-Silent-clause-answers
returns-in-Ok-Silent-clause-answers g c = λ none. answers_silent _ c.args.desk.now _ c.args.transport.now c.args.payload.now c.in-Ok-Silent.field-0 (search rules) c.in-Ok-Silent.ensures.side c.in-Ok-Silent.ensures.answered c.in-Ok-Silent.ensures.reply

pub returns-in-Ok-Message-clause-answers : goal.returns-in-Ok-Message-clause-answers
returns-in-Ok-Message-clause-answers g c = λ none. answers_message _ c.args.desk.now _ c.args.transport.now c.submit.new.transport c.args.payload.now c.in-Ok-Message.reply _ c.in-Ok-Message.field-0 c.requires.live (said_of c.in-Ok-Message.field-0 c.in-Ok-Message.reply (search rules) c.in-Ok-Message.ensures.nobody) c.as_slice.ensures (c.submit.ensures.sent none) (search rules) c.in-Ok-Message.ensures.side c.in-Ok-Message.ensures.answered c.in-Ok-Message.ensures.reply

pub returns-in-Ok-NotServed-clause-cut : goal.returns-in-Ok-NotServed-clause-cut
returns-in-Ok-NotServed-clause-cut g c = one_reply c.args.desk.now c.args.payload.now c.in-Ok-NotServed.field-0 _ (search rules) c.in-Ok-NotServed.ensures.reply

pub returns-in-Ok-Bad-clause-cut : goal.returns-in-Ok-Bad-clause-cut
returns-in-Ok-Bad-clause-cut g c = inr (one_reply c.args.desk.now c.args.payload.now c.in-Ok-Bad.field-0 _ (search rules) c.in-Ok-Bad.ensures.reply)
