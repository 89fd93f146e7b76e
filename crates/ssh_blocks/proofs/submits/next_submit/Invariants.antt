use Rattle.std.proofs.Common.{◌≡◌, length}
use Rattle.ssh_rules.specs.Headline.{submitted_by}
use Rattle.ssh_blocks.proofs.submits.next_submit.Given as goal

abbrev pub invariant-loop-step : goal.invariant-loop-step
invariant-loop-step l = submitted_by l.side l.rest ≡ submitted_by l.side l.steps

abbrev pub decreases-loop-step : goal.decreases-loop-step
decreases-loop-step l = length l.rest
