use Rattle.std.proofs.Common.{◌≤◌, length}
use Rattle.ssh_wire.specs.Stepping.{GoesOn, others_left}
use Rattle.ssh_wire.proofs.read_id.ReadSshIdBuffer.feed.Given as goal

abbrev pub invariant-lines : goal.invariant-lines
invariant-lines l = GoesOn l.allow_pre_banner_lines l.initial.self l.piece l.used l.self × (l.used ≤ length l.piece)

abbrev pub decreases-lines : goal.decreases-lines
decreases-lines l = others_left l.self
