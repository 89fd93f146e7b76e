use Rattle.std.proofs.Common.{[], rules}
use Rattle.ssh_pipe.proofs.Ways.{ends_nowhere, granted_here, some_weaker, takes_next, takes_none, takes_nothing, takes_same}
use Rattle.ssh_pipe.proofs.talking.read_on.Goals as goal

pub returns-then-not-inside-clause-ends : goal.returns-then-not-inside-clause-ends
returns-then-not-inside-clause-ends g c = ([], takes_none _, ends_nowhere _ _ _ c.args.desk.now c.args.transport.now _ _ (c.requires.sent, c.requires.live, granted_here c.args.desk.now c.args.transport.now (search rules) (search rules) (search rules)))

pub returns-in-Ok-eq0-clause-ends : goal.returns-in-Ok-eq0-clause-ends
returns-in-Ok-eq0-clause-ends g c = ([], takes_nothing _ _ _ _ (search rules) c.in-Ok-eq0.ensures.next, ends_nowhere _ _ _ c.args.desk.now c.args.transport.now _ _ (c.requires.sent, c.requires.live))

pub returns-in-Ok-clause-more : goal.returns-in-Ok-clause-more
returns-in-Ok-clause-more g c = λ none. (_, takes_next _ _ _ _ c.in-Ok.ensures.next, c.take_piece.ensures.more none, search rules)

pub returns-in-Ok-clause-ends : goal.returns-in-Ok-clause-ends
returns-in-Ok-clause-ends g c = some_weaker c.take_piece.result _ _ (λ end e. (_, takes_next _ _ _ _ c.in-Ok.ensures.next, e)) c.take_piece.ensures.ends

pub returns-in-Err-clause-ends : goal.returns-in-Err-clause-ends
returns-in-Err-clause-ends g c = ([], takes_same _ _ c.in-Err.ensures.nothing, ends_nowhere _ _ _ c.args.desk.now c.args.transport.now _ _ (c.requires.sent, c.requires.live))
