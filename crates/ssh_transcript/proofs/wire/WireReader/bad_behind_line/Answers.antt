use Rattle.ssh_transcript.proofs.WholeWires.{bad_packet}
use Rattle.ssh_transcript.proofs.wire.WireReader.bad_behind_line.Goals as goal

pub returns-in-Some-clause-some : goal.returns-in-Some-clause-some
returns-in-Some-clause-some c = λ there side j xs r. bad_packet side j xs c.args.self.now c.in-Some.place there c.in-Some.is r

pub returns-in-None-clause-none : goal.returns-in-None-clause-none
returns-in-None-clause-none c = λ e there. c.bad_rest.ensures.none e there c.in-None.is

pub returns-in-None-clause-some : goal.returns-in-None-clause-some
returns-in-None-clause-some c = λ there. c.bad_rest.ensures.some there c.in-None.is
