use Rattle.std.proofs.Common.{◌≤◌}
use Rattle.ssh_judge.proofs.Causes.{AreCausedTo}
use Rattle.ssh_judge.proofs.cause.have_causes.Given as goal

abbrev pub invariant-loop-k : goal.invariant-loop-k
invariant-loop-k l = record {
  from : l.from ≤ l.k;
  caused : AreCausedTo l.half l.other l.from l.k;
}
