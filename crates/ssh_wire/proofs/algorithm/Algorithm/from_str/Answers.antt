use Rattle.std.proofs.Common.{◌∙◌}
use Rattle.ssh_wire.specs.Algorithms.{algorithm_name, algorithms}
use Rattle.ssh_wire.proofs.Finding.{find_further}
use Rattle.ssh_wire.proofs.algorithm.Algorithm.from_str.Goals as goal

pub loop-algorithm-preserved : goal.loop-algorithm-preserved
loop-algorithm-preserved c =
    find_further algorithm_name algorithms c.loop-algorithm.algorithm-index _ c.as_str.result.now c.args.s.now c.loop-algorithm-test.true c.as_str.ensures c.if-eq.ensures ∙ c.loop-algorithm.invariant
