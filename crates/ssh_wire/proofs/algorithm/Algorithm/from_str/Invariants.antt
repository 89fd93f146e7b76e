use Rattle.std.proofs.Common.{◌≡◌, drop}
use Rattle.std.specs.Prelude.{find}
use Rattle.std.specs.Str.{bytes_eq}
use Rattle.ssh_wire.specs.Algorithms.{algorithm_name, algorithms, algorithm_named}
use Rattle.ssh_wire.proofs.algorithm.Algorithm.from_str.Given as goal

abbrev pub invariant-loop-algorithm : goal.invariant-loop-algorithm
invariant-loop-algorithm l = find (λ a. bytes_eq (algorithm_name a) l.s) (drop l.algorithm-index algorithms) ≡ algorithm_named algorithm_name l.s
