use Rattle.ssh_service.proofs.MessageLaws as law
use Rattle.ssh_service.proofs.laws.spelled_read.Goals as goal

pub returns : goal.returns
returns c = law.message_again
