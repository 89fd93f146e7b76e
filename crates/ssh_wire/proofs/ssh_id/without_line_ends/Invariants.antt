use Rattle.std.proofs.Common.{◌≡◌, length}
use Rattle.ssh_wire.specs.Lines.{without_line_ends}
use Rattle.ssh_wire.proofs.ssh_id.without_line_ends.Given as goal

abbrev pub invariant-loop-last : goal.invariant-loop-last
invariant-loop-last l = without_line_ends l.rest ≡ without_line_ends l.text

abbrev pub decreases-loop-last : goal.decreases-loop-last
decreases-loop-last l = length l.rest
