use Rattle.ssh_lines.proofs.Cutting.{IsFreeBelow}
use Rattle.ssh_lines.proofs.words.cut.Given as goal

abbrev pub invariant-loop-i : goal.invariant-loop-i
invariant-loop-i l = IsFreeBelow l.separator l.text l.i
