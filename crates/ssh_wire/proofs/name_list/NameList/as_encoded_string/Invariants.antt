use Rattle.std.proofs.Common.{◌≡◌, take}
use Rattle.std.specs.String.{string_bytes}
use Rattle.ssh_wire.specs.Forms.{joined_names}
use Rattle.ssh_wire.proofs.name_list.NameList.as_encoded_string.Given as goal

abbrev pub invariant-loop-i : goal.invariant-loop-i
invariant-loop-i l = string_bytes l.text ≡ joined_names (take l.i l.self.0.items)
