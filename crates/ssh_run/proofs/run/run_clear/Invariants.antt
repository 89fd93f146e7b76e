use Rattle.std.proofs.Common.{drop}
use Rattle.ssh_run.proofs.Runs.{IsUnderWay}
use Rattle.ssh_run.proofs.run.run_clear.Given as goal

abbrev pub invariant-loop-step : goal.invariant-loop-step
invariant-loop-step l = IsUnderWay l.client_id l.server_id l.steps (drop l.step-index l.steps) l.link
