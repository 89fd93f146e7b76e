use Rattle.std.proofs.Common.{◌≡◌, take}
use Rattle.ssh_mux.specs.Summing.{refusals_in}
use Rattle.ssh_mux.proofs.summing.refusals.Given as goal

abbrev pub invariant-loop-step : goal.invariant-loop-step
invariant-loop-step l = l.numbers.items ≡ refusals_in l.of (take l.step-index l.steps)
