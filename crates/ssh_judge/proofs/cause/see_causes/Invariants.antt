use Rattle.std.proofs.Common.{◌≤◌, length}
use Rattle.ssh_judge.proofs.Causes.{SeenTo}
use Rattle.ssh_judge.proofs.cause.see_causes.Given as goal

abbrev pub invariant-loop-k : goal.invariant-loop-k
invariant-loop-k l = record {
  seen : SeenTo l.step l.fn.half l.half l.k;
  idle : l.fn.half.own.kexinits ≤ length l.fn.half.causes.items → l.k ≤ length l.fn.half.causes.items;
}
