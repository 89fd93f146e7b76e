use Rattle.std.proofs.Common.{◌++◌, ℕ, List, map, filter, take}
use Rattle.ssh_wire.specs.Algorithms.{algorithm_name}
use Rattle.ssh_negotiate.specs.Advertised.{some_fits}
use Rattle.ssh_negotiate.specs.Told.{Tells}
use Rattle.ssh_negotiate.proofs.told.Told.add_fitting.Given as goal

abbrev pub invariant-loop-algorithm : goal.invariant-loop-algorithm
invariant-loop-algorithm l = (texts : List (List ℕ)) → Tells l.fn.self texts → Tells l.self (texts ++ map algorithm_name (filter (some_fits l.keys) (take l.algorithm-index l.preferred)))
