use Rattle.std.proofs.Common.{◌≡◌, ◌≤◌, ◌++◌, take, vec_capacity}
use Rattle.ssh_wire.specs.Forms.{joined_names}
use Rattle.ssh_wire.proofs.name_list.put_names.Given as goal

abbrev pub invariant-loop-i : goal.invariant-loop-i
invariant-loop-i l = record {
  text : l.out.items ≡ l.fn.out.items ++ joined_names (take l.i l.names);
  capacity : vec_capacity l.fn.out ≤ vec_capacity l.out;
}
