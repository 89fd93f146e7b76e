use Rattle.std.proofs.Common.{◌≡◌, ◌++◌, map, take}
use Rattle.ssh_wire.specs.Forms.{joined_names}
use Rattle.ssh_negotiate.proofs.write.put_names.Given as goal

abbrev pub invariant-loop-i : goal.invariant-loop-i
invariant-loop-i g l = l.out.items ≡ l.fn.out.items ++ joined_names (take l.i (map g.A.AsName.text l.names))
