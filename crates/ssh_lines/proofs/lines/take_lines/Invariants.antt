use Rattle.std.proofs.Common.{◌≡◌, ◌≤◌, ◌+◌, length}
use Rattle.ssh_lines.specs.Lines.{pieces, said_from}
use Rattle.ssh_lines.proofs.LinesLeft.{lines_left, size_left}
use Rattle.ssh_lines.proofs.lines.take_lines.Given as goal

abbrev pub invariant-loop-rest : goal.invariant-loop-rest
invariant-loop-rest g l = record {
  read : said_from g.F.LineForms.form 1 (g.F.LineForms.said l.initial.forms) (pieces 10 l.text) ≡ said_from g.F.LineForms.form l.line_number (g.F.LineForms.said l.forms) (lines_left l.rest);
  small : l.line_number + size_left l.rest ≤ length l.text + 2;
  holds : g.F.LineForms.holds l.forms;
}

abbrev pub decreases-loop-rest : goal.decreases-loop-rest
decreases-loop-rest g l = size_left l.rest
