use Rattle.ssh_transcript.proofs.Turning.{line_told}
use Rattle.ssh_transcript.proofs.wire.begins_with.Goals as goal

pub returns-clause-yes : goal.returns-clause-yes
returns-clause-yes c = (line_told c.args.wire.now c.args.text.now c.starts_with.result c.starts_with.ensures.value).0

pub returns-clause-other : goal.returns-clause-other
returns-clause-other c = (line_told c.args.wire.now c.args.text.now c.starts_with.result c.starts_with.ensures.value).1
