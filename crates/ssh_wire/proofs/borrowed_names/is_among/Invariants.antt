use Rattle.std.proofs.Common.{◌≡◌}
use Rattle.std.specs.List.{list_any}
use Rattle.std.specs.Str.{bytes_eq}
use Rattle.ssh_wire.specs.Naming.{bytes_behind, parts_behind}
use Rattle.ssh_wire.proofs.borrowed_names.is_among.Given as goal

abbrev pub invariant-loop-rest : goal.invariant-loop-rest
invariant-loop-rest l = list_any (bytes_eq l.name) (parts_behind l.rest) ≡ list_any (bytes_eq l.name) (parts_behind l.text)

abbrev pub decreases-loop-rest : goal.decreases-loop-rest
decreases-loop-rest l = bytes_behind l.rest
