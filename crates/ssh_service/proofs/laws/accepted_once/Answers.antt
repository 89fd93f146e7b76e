use Rattle.ssh_service.proofs.StandsLaws as law
use Rattle.ssh_service.proofs.laws.accepted_once.Goals as goal

pub returns : goal.returns
returns c = law.accepted_once
