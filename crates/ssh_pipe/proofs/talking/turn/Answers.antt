use Rattle.std.proofs.Common.{[]}
use Rattle.ssh_kex.specs.declared.config.Config.{Config}
use Rattle.ssh_pipe.proofs.Ways.{ends_front, ends_sent_before, some_weaker, takes_none, talks_sent_before}
use Rattle.ssh_pipe.proofs.talking.turn.Goals as goal
use Rattle.ssh_kex.specs.Stepping.{says_of}

pub returns-then-send-clause-more : goal.returns-then-send-clause-more
returns-then-send-clause-more g c = λ none.
    let p = c.read_on.ensures.more none in
    (p.0, p.1, talks_sent_before (λ (k : Config). says_of g.A.Agreement g.H.HostKeys g.G.GroupLookup k c.args.parts.now.agreement c.args.parts.now.hosts c.args.parts.now.groups) c.args.desk.now c.read_on.new.desk c.args.transport.now c.send.new.transport _ _ _ p.0 _ (c.send.ensures.sent c.if-send.true) p.2, p.3)

pub returns-then-send-clause-ends : goal.returns-then-send-clause-ends
returns-then-send-clause-ends g c = some_weaker c.read_on.result _ _ (λ end p. (p.0, p.1, ends_sent_before (λ (k : Config). says_of g.A.Agreement g.H.HostKeys g.G.GroupLookup k c.args.parts.now.agreement c.args.parts.now.hosts c.args.parts.now.groups) _ _ c.args.desk.now c.args.transport.now c.send.new.transport _ _ _ p.0 end _ (c.send.ensures.sent c.if-send.true) p.2)) c.read_on.ensures.ends

pub returns-else-send-clause-ends : goal.returns-else-send-clause-ends
returns-else-send-clause-ends g c = ([], takes_none _, ends_front _ _ _ c.args.desk.now c.args.transport.now c.send.new.transport _ _ (c.send.ensures.failed c.if-send.false).0 (c.send.ensures.failed c.if-send.false).1)
