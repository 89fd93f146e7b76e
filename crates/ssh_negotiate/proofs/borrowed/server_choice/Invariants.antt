use Rattle.std.proofs.Common.{◌≡◌}
use Rattle.ssh_wire.specs.Naming.{bytes_behind, parts_behind}
use Rattle.ssh_wire.specs.declared.side.Side.TheVariants.{Server}
use Rattle.ssh_negotiate.specs.Reading.{common}
use Rattle.ssh_negotiate.proofs.borrowed.server_choice.Given as goal

abbrev pub invariant-loop-rest : goal.invariant-loop-rest
invariant-loop-rest g l = common g.A.AsName.text Server l.own (parts_behind l.rest) ≡ common g.A.AsName.text Server l.own (parts_behind l.text)

abbrev pub decreases-loop-rest : goal.decreases-loop-rest
decreases-loop-rest g l = bytes_behind l.rest
