use Rattle.std.proofs.Common.{suc, ◌<◌, ◌^◌, length}
use Rattle.ssh_judge.proofs.Marking.{AreSoFar}
use Rattle.ssh_judge.proofs.Sending.{AreSent}
use Rattle.ssh_judge.proofs.run.run_marks.Given as goal

abbrev pub invariant-loop-i : goal.invariant-loop-i
invariant-loop-i l = record {
  sent : AreSent l.marks.items l.transcript.sent (suc l.i);
  few : length l.transcript.steps < 2 ^ 64;
  so_far : AreSoFar l.setting l.wires l.transcript l.i l.marks.items l.run;
}
