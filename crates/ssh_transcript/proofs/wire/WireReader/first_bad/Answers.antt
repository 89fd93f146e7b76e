use Rattle.std.proofs.Common.{◌∙◌, sym}
use Rattle.ssh_transcript.proofs.WholeWires.{bad_line}
use Rattle.ssh_transcript.proofs.wire.WireReader.first_bad.Goals as goal

pub returns-in-None-clause-some : goal.returns-in-None-clause-some
returns-in-None-clause-some c = λ side j xs r. bad_line side j xs c.args.self.now c.in-None.is r

pub returns-in-Some-clause-none : goal.returns-in-Some-clause-none
returns-in-Some-clause-none c = λ e. c.bad_behind_line.ensures.none e (λ z. let q = sym z ∙ c.in-Some.is in cc)

pub returns-in-Some-clause-some : goal.returns-in-Some-clause-some
returns-in-Some-clause-some c = c.bad_behind_line.ensures.some (λ z. let q = sym z ∙ c.in-Some.is in cc)
