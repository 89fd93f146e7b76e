use Rattle.std.proofs.Common.{◌∙◌, ◌+◌, ℕ, List, [], drop, rules, subst, sym, take}
use Rattle.ssh_pipe.specs.Talks.{HandsReplies}
use Rattle.ssh_pipe.proofs.Replies.{split_at, taken_next}
use Rattle.ssh_pipe.proofs.Ways.{answers_more, cut_behind}
use Rattle.ssh_pipe.proofs.talking.answer_all.Goals as goal
use Rattle.ssh_kex.specs.Stepping.{says_of}

pub loop-payload-preserved : goal.loop-payload-preserved
loop-payload-preserved g c =
    let inv = c.loop-payload.invariant in
    record {
      answers = subst (λ (l : List (List ℕ)). HandsReplies (says_of g.A.Agreement g.H.HostKeys g.G.GroupLookup c.args.transport.now.config c.args.parts.now.agreement c.args.parts.now.hosts c.args.parts.now.groups) c.args.desk.now (record c.args.transport.now { delivered = [] }) l c.answer_one.new.desk c.answer_one.new.transport) (sym (taken_next c.args.transport.now.delivered c.loop-payload.payload-index c.as_slice.result.now (search rules) (search rules)))
          (answers_more (says_of g.A.Agreement g.H.HostKeys g.G.GroupLookup) _ _ _ _ _ _ _ _ c.args.desk.now c.loop-payload.desk c.answer_one.new.desk _ _ _ _ _ inv.config inv.agreement inv.hosts inv.groups inv.answers (c.answer_one.ensures.answers c.in-None.is));
      live = c.answer_one.ensures.live c.in-None.is;
      config = c.answer_one.ensures.config c.in-None.is ∙ inv.config;
      records = c.answer_one.ensures.records ∙ inv.records;
      agreement = c.answer_one.ensures.parts.0 ∙ inv.agreement;
      hosts = c.answer_one.ensures.parts.1 ∙ inv.hosts;
      groups = c.answer_one.ensures.parts.2 ∙ inv.groups;
    }

pub returns-in-Some-clause-cut : goal.returns-in-Some-clause-cut
returns-in-Some-clause-cut g c = cut_behind c.args.desk.now c.loop-payload.desk (take c.loop-payload.payload-index c.args.transport.now.delivered) _ c.as_slice.result.now (drop (c.loop-payload.payload-index + 1) c.args.transport.now.delivered) _ c.in-Some.end c.loop-payload.invariant.answers.2 (split_at c.args.transport.now.delivered c.loop-payload.payload-index c.as_slice.result.now (search rules) (search rules)) c.in-Some.ensures.cut
