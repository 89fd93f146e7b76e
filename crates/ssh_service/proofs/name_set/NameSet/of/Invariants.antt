use Rattle.std.proofs.Common.{take}
use Rattle.ssh_service.specs.NameSets.{AreIn}
use Rattle.ssh_service.proofs.name_set.NameSet.of.Given as goal

abbrev pub invariant-loop-name : goal.invariant-loop-name
invariant-loop-name l = AreIn l.set (take l.name-index l.names)
