use Rattle.ssh_kex.proofs.Lemmas.{keys_are_well}
use Rattle.ssh_kex.proofs.laws.keys_are_well.Goals as goal

pub returns : goal.returns
returns c = keys_are_well
