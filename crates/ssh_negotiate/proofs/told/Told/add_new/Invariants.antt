use Rattle.std.proofs.Common.{◌++◌, List, map, filter, take}
use Rattle.ssh_wire.specs.Algorithms.{certificate_name}
use Rattle.ssh_wire.specs.declared.algorithm.Algorithm.{Algorithm}
use Rattle.ssh_negotiate.specs.Advertised.{each_once, fits}
use Rattle.ssh_negotiate.specs.Told.{Knows, Tells}
use Rattle.ssh_negotiate.proofs.told.Told.add_new.Given as goal

abbrev pub invariant-loop-algorithm : goal.invariant-loop-algorithm
invariant-loop-algorithm l = (found : List Algorithm) → Tells l.fn.self (map certificate_name (each_once found)) → Knows l.fn.seen (each_once found)
    → Tells l.self (map certificate_name (each_once (found ++ filter (fits l.certificate) (take l.algorithm-index l.preferred))))
    × Knows l.seen (each_once (found ++ filter (fits l.certificate) (take l.algorithm-index l.preferred)))
