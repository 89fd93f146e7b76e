use Rattle.std.proofs.Common.{◌++◌, ℕ, List, map, take}
use Rattle.ssh_negotiate.specs.Told.{Tells}
use Rattle.ssh_negotiate.proofs.told.Told.add_all.Given as goal

abbrev pub invariant-loop-name : goal.invariant-loop-name
invariant-loop-name g l = (texts : List (List ℕ)) → Tells l.fn.self texts → Tells l.self (texts ++ map g.A.AsName.text (take l.name-index l.names))
