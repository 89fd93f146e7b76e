use Rattle.std.proofs.Common.{◌≡◌, ◌+◌, drop}
use Rattle.ssh_wire.specs.Lines.{lf_end}
use Rattle.ssh_wire.proofs.line.first_lf_end.Given as goal

abbrev pub invariant-loop-i : goal.invariant-loop-i
invariant-loop-i l = lf_end (l.at + l.i) (drop l.i l.bytes) ≡ lf_end l.at l.bytes
