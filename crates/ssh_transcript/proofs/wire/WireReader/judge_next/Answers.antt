use Rattle.std.proofs.Common.{◌∙◌, ◌∷◌, ◌++◌, [], ap, length, subst, sym}
use Rattle.ssh_transcript.specs.Reading.{AreJudged}
use Rattle.ssh_transcript.specs.declared.wire.WireReader.{WireReader}
use Rattle.ssh_transcript.proofs.Standings.{first_bad_is}
use Rattle.ssh_transcript.proofs.wire.WireReader.judge_next.Goals as goal

pub returns-then-takes_packet-clause-judged : goal.returns-then-takes_packet-clause-judged
returns-then-takes_packet-clause-judged c = λ none side j xs o g.
    subst (AreJudged side j xs (o.items ++ o.item ∷ []) c.takes_packet.new.self.judge) (sym (ap (λ (r : WireReader). r.bad) c.takes_packet.ensures.same ∙ none))
    (c.takes_packet.ensures.taken c.if-takes_packet.true side j xs o g)

pub returns-clause-judged : goal.returns-clause-judged
returns-clause-judged c = λ none side j xs o g.
    first_bad_is side j xs c.args.start (length c.packets.result.now) c.args.self.now o g (ap length c.packets.ensures ∙ ap (λ (r : WireReader). length r.packets.items) c.takes_packet.ensures.same)
    (c.takes_packet.ensures.refused c.if-takes_packet.false side j xs o g)
