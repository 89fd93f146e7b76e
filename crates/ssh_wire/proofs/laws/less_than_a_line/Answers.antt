use Rattle.ssh_wire.proofs.Lemmas.{less_than_a_line}
use Rattle.ssh_wire.proofs.laws.less_than_a_line.Goals as goal

pub returns : goal.returns
returns c = less_than_a_line
