use Rattle.ssh_service.proofs.StandsLaws as law
use Rattle.ssh_service.proofs.laws.first_accepted.Goals as goal

pub returns : goal.returns
returns c = law.first_accepted
