use Rattle.ssh_talks.proofs.Making.{hearing_lowers}
use Rattle.ssh_talks.proofs.laws.hearing_lowers.Goals as goal

pub returns : goal.returns
returns c = hearing_lowers
