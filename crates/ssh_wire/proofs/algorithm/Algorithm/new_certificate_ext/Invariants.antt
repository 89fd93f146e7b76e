use Rattle.std.proofs.Common.{◌≡◌, drop}
use Rattle.std.specs.Prelude.{find}
use Rattle.std.specs.Str.{bytes_eq}
use Rattle.ssh_wire.specs.Algorithms.{certificate_name, algorithms, algorithm_named}
use Rattle.ssh_wire.proofs.algorithm.Algorithm.new_certificate_ext.Given as goal

abbrev pub invariant-loop-algorithm : goal.invariant-loop-algorithm
invariant-loop-algorithm l = find (λ a. bytes_eq (certificate_name a) l.algo) (drop l.algorithm-index algorithms) ≡ algorithm_named certificate_name l.algo
