use Rattle.ssh_wire.proofs.Lemmas.{id_stays}
use Rattle.ssh_wire.proofs.laws.id_stays.Goals as goal

pub returns : goal.returns
returns c = id_stays
