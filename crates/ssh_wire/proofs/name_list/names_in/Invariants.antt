use Rattle.std.proofs.Common.{◌≡◌, ◌++◌, length}
use Rattle.std.specs.List.{slice_split}
use Rattle.ssh_wire.specs.Names.{is_comma, first_fault}
use Rattle.ssh_wire.specs.Naming.{parts_behind, bytes_behind}
use Rattle.ssh_wire.proofs.name_list.names_in.Given as goal

abbrev pub invariant-loop-rest : goal.invariant-loop-rest
invariant-loop-rest l = (l.names.items ++ parts_behind l.rest ≡ slice_split is_comma l.whole)
    × (first_fault (length l.names.items) (parts_behind l.rest) ≡ first_fault 0 (slice_split is_comma l.whole))

abbrev pub decreases-loop-rest : goal.decreases-loop-rest
decreases-loop-rest l = bytes_behind l.rest
