use Rattle.std.proofs.Common.{refl}
use Rattle.ssh_kex.specs.declared.config.Config.{Config}
use Rattle.ssh_transport.proofs.Lemmas.{kept_weaker}
use Rattle.ssh_pipe.specs.Talks.{IsCutAt}
use Rattle.ssh_pipe.proofs.Ways.{ends_cut, ends_refused, ends_unsent, some_weaker, talks_sends}
use Rattle.ssh_pipe.proofs.talking.take_piece.Goals as goal
use Rattle.ssh_kex.specs.Stepping.{says_of}

pub returns-in-Ok-clause-more : goal.returns-in-Ok-clause-more
returns-in-Ok-clause-more g c = λ none. talks_sends (λ (k : Config). says_of g.A.Agreement g.H.HostKeys g.G.GroupLookup k c.args.parts.now.agreement c.args.parts.now.hosts c.args.parts.now.groups) (λ (k : Config). says_of g.A.Agreement g.H.HostKeys g.G.GroupLookup k c.feed.new.parts.agreement c.feed.new.parts.hosts c.feed.new.parts.groups) (λ (k : Config). kept_weaker g.A.Agreement g.H.HostKeys g.G.GroupLookup _ _ _ _ _ _ _ c.feed.ensures.keeps.agreement c.feed.ensures.keeps.hosts c.feed.ensures.keeps.groups) c.args.desk.now c.answer_all.new.desk c.args.transport.now _ _ c.args.piece.now c.feed.new.self c.answer_all.new.transport c.requires.live c.feed.ensures.stays.1 refl c.in-Ok.ensures.fed (c.answer_all.ensures.answers none)

pub returns-in-Ok-clause-ends : goal.returns-in-Ok-clause-ends
returns-in-Ok-clause-ends g c = some_weaker c.answer_all.result (IsCutAt c.args.desk.now c.feed.new.self.delivered) _ (λ end cut. ends_cut _ _ _ c.args.desk.now c.args.transport.now _ _ c.args.piece.now c.feed.new.self end _ c.requires.live refl c.in-Ok.ensures.fed cut c.answer_all.ensures.records) c.answer_all.ensures.cut

pub returns-then-send-clause-ends : goal.returns-then-send-clause-ends
returns-then-send-clause-ends g c = ends_refused _ _ _ c.args.desk.now c.args.transport.now _ _ c.args.piece.now c.feed.new.self c.send.new.transport c.in-Err.error c.refused.result c.requires.live (c.in-Err.ensures.refused c.requires.live).refused (c.send.ensures.sent c.if-send.true) c.refused.ensures

pub returns-else-send-clause-ends : goal.returns-else-send-clause-ends
returns-else-send-clause-ends g c =
    let r = (c.in-Err.ensures.refused c.requires.live).refused in
    ends_unsent _ _ _ c.args.desk.now c.args.transport.now _ _ c.args.piece.now c.feed.new.self c.send.new.transport r.cause c.requires.live r.refuses (c.send.ensures.failed c.if-send.false).0 (c.send.ensures.failed c.if-send.false).1
