use Rattle.std.proofs.Common.{◌++◌, ℕ, List, map, take}
use Rattle.ssh_wire.specs.Algorithms.{certificate_name}
use Rattle.ssh_negotiate.specs.Told.{Tells}
use Rattle.ssh_negotiate.proofs.told.Told.add_certificates.Given as goal

abbrev pub invariant-loop-algorithm : goal.invariant-loop-algorithm
invariant-loop-algorithm l = (texts : List (List ℕ)) → Tells l.fn.self texts → Tells l.self (texts ++ map certificate_name (take l.algorithm-index l.algorithms))
