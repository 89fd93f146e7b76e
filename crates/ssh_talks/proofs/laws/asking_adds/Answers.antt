use Rattle.ssh_talks.proofs.Making.{asking_adds}
use Rattle.ssh_talks.proofs.laws.asking_adds.Goals as goal

pub returns : goal.returns
returns c = asking_adds
