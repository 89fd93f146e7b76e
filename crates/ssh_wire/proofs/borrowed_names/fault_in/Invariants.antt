use Rattle.std.proofs.Common.{◌≡◌}
use Rattle.ssh_wire.specs.Names.{first_fault}
use Rattle.ssh_wire.specs.Naming.{bytes_behind, parts_behind}
use Rattle.ssh_wire.proofs.borrowed_names.fault_in.Given as goal

abbrev pub invariant-loop-rest : goal.invariant-loop-rest
invariant-loop-rest l = first_fault l.before (parts_behind l.rest) ≡ first_fault 0 (parts_behind l.text)

abbrev pub decreases-loop-rest : goal.decreases-loop-rest
decreases-loop-rest l = bytes_behind l.rest
