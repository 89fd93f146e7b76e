use Rattle.std.proofs.Common.{◌≡◌, length, take}
use Rattle.ssh_wire.specs.Forms.{joined_names}
use Rattle.ssh_wire.proofs.name_list.joined_len.Given as goal

abbrev pub invariant-loop-i : goal.invariant-loop-i
invariant-loop-i l = l.size ≡ length (joined_names (take l.i l.names))
