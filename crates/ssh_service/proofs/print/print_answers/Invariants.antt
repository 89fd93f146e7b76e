use Rattle.std.proofs.Common.{◌≡◌, take}
use Rattle.ssh_service.specs.Report.{answers_text}
use Rattle.ssh_service.proofs.print.print_answers.Given as goal

abbrev pub invariant-loop-answer : goal.invariant-loop-answer
invariant-loop-answer l = l.text.items ≡ answers_text (take l.answer-index l.answers)
