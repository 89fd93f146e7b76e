use Rattle.std.proofs.Common.{◌∷◌, ◌++◌, [], subst, sym}
use Rattle.ssh_transcript.specs.Reading.{AreJudged}
use Rattle.ssh_transcript.proofs.Standings.{bad_stays}
use Rattle.ssh_transcript.proofs.wire.WireReader.judge_packet.Goals as goal

pub returns-in-Some-clause-judged : goal.returns-in-Some-clause-judged
returns-in-Some-clause-judged c = λ side j xs o g.
    subst (AreJudged side j xs (o.items ++ o.item ∷ []) c.args.self.now.judge) (sym c.in-Some.is)
    (bad_stays side j xs o.items o.item c.in-Some.field-0 (subst (AreJudged side j xs o.items c.args.self.now.judge) c.in-Some.is g))

pub returns-in-None-clause-judged : goal.returns-in-None-clause-judged
returns-in-None-clause-judged c = λ side j xs o g.
    c.judge_next.ensures.judged c.in-None.is side j xs o (subst (AreJudged side j xs o.items c.args.self.now.judge) c.in-None.is g)
