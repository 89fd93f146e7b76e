use Rattle.ssh_pipe.proofs.Telling.{submitted_none}
use Rattle.ssh_pipe.proofs.talking.submit.Goals as goal

pub returns-in-Ok-clause-records : goal.returns-in-Ok-clause-records
returns-in-Ok-clause-records g c = submitted_none _ _ _ _ c.in-Ok.ensures.sent

pub returns-in-Err-clause-records : goal.returns-in-Err-clause-records
returns-in-Err-clause-records g c = (c.in-Err.ensures.leaves c.requires.live c.requires.good).0
