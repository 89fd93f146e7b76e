use Rattle.std.proofs.Common.{◌≡◌, ◌≤◌, ◌+◌, ◌++◌, length}
use Rattle.ssh_audit.specs.AuditText.{marks_lines}
use Rattle.ssh_audit.proofs.print.push_marks.Given as goal

abbrev pub invariant-loop-mark : goal.invariant-loop-mark
invariant-loop-mark l = record {
  written : l.out.items ++ marks_lines l.k l.rest ≡ l.initial.out.items ++ marks_lines 0 l.marks;
  small : l.k + length l.rest ≤ length l.marks;
}

abbrev pub decreases-loop-mark : goal.decreases-loop-mark
decreases-loop-mark l = length l.rest
