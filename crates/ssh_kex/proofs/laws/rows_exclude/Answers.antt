use Rattle.ssh_kex.proofs.Lemmas.{rows_exclude}
use Rattle.ssh_kex.proofs.laws.rows_exclude.Goals as goal

pub returns : goal.returns
returns g c = λ config a a' h h' gr gr' m i old new p error t r. rows_exclude _ _ m i old new p error t r
