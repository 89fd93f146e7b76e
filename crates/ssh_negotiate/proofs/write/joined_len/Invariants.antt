use Rattle.std.proofs.Common.{◌≡◌, length, map, take}
use Rattle.ssh_wire.specs.Forms.{joined_names}
use Rattle.ssh_negotiate.proofs.write.joined_len.Given as goal

abbrev pub invariant-loop-i : goal.invariant-loop-i
invariant-loop-i g l = l.size ≡ length (joined_names (take l.i (map g.A.AsName.text l.names)))
