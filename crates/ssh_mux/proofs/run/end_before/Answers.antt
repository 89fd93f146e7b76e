use Rattle.std.proofs.Common.{refl}
use Rattle.ssh_mux.specs.Running.{on_link}
use Rattle.ssh_mux.proofs.Refusing.{ended_told}
use Rattle.ssh_mux.proofs.run.end_before.Goals as goal

pub returns-in-Ok-clause-ended : goal.returns-in-Ok-clause-ended
returns-in-Ok-clause-ended c = ended_told c.args.fault (on_link c.args.pair.now c.args.link) _ c.in-Ok.report c.requires refl c.in-Ok.ensures.tells
