use Rattle.std.proofs.Common.{rules, inr, subst}
use Rattle.ssh_judge.specs.Standing.{StopsAt}
use Rattle.ssh_judge.proofs.Steps.{lent_is}
use Rattle.ssh_judge.proofs.run.RunState.mark_behind.Goals as goal

pub returns-in-None-clause-stops : goal.returns-in-None-clause-stops
returns-in-None-clause-stops c = inr (c.broken-in-None.ensures.told, λ p e. subst (λ q. StopsAt c.args.step.now q c.args.self.now) (lent_is c.args.sent c.in-Some.sent p (search rules) e) (c.in_ok-mark.ensures.stops (search rules)))
