use Rattle.ssh_transcript.specs.Reading.{judged_under}
use Rattle.ssh_transcript.proofs.reading.unread.Goals as goal

pub returns-in-Ok-clause-open : goal.returns-in-Ok-clause-open
returns-in-Ok-clause-open c =
    c.in-Ok.ensures c.args.side (judged_under c.args.setting.now c.args.transcript.now)
    (record { id_is = c.parts_of.ensures.id; wire_is = c.parts_of.ensures.wire; steps_are = c.parts_of.ensures.steps; rules_are = c.rules-rules.ensures c.args.transcript.now })
