use Rattle.std.proofs.Common.{subst}
use Rattle.ssh_rules.specs.Standing.{Standing, Submitted, nothing_said}
use Rattle.ssh_transport.specs.States.{standing_of}
use Rattle.ssh_transport.proofs.Saying.{on_ok}
use Rattle.ssh_transport.proofs.Submitting.{submitted_says}
use Rattle.ssh_transport.proofs.transport.Transport.submit.Goals as goal

pub returns-clause-sent : goal.returns-clause-sent
returns-clause-sent g c = on_ok c.submit.result _ _ (λ h. submitted_says _ c.args.self.now
    (standing_of c.submit.new.self) c.args.payload.now (subst
    (λ (t : Standing). Submitted nothing_said t c.args.payload.now (standing_of c.submit.new.self)) c.self.view_is h))
    c.submit.ensures.submits.sent
