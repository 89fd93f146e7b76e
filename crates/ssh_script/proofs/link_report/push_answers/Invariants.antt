use Rattle.std.proofs.Common.{◌≡◌, ◌≤◌, ◌+◌, ◌++◌, length}
use Rattle.ssh_script.specs.RunReport.{answer_lines}
use Rattle.ssh_script.proofs.link_report.push_answers.Given as goal

abbrev pub invariant-loop-answer : goal.invariant-loop-answer
invariant-loop-answer l = record {
  written : l.out.items ++ answer_lines l.k l.rest ≡ l.initial.out.items ++ answer_lines 1 l.answers;
  small : l.k + length l.rest ≤ length l.answers + 1;
}

abbrev pub decreases-loop-answer : goal.decreases-loop-answer
decreases-loop-answer l = length l.rest
