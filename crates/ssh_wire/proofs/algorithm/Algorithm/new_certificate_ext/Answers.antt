use Rattle.std.proofs.Common.{◌∙◌}
use Rattle.ssh_wire.specs.Algorithms.{certificate_name, algorithms}
use Rattle.ssh_wire.proofs.Finding.{find_further}
use Rattle.ssh_wire.proofs.algorithm.Algorithm.new_certificate_ext.Goals as goal

pub loop-algorithm-preserved : goal.loop-algorithm-preserved
loop-algorithm-preserved c =
    find_further certificate_name algorithms c.loop-algorithm.algorithm-index _ c.to_certificate_type.result.now c.args.algo.now c.loop-algorithm-test.true c.to_certificate_type.ensures c.if-eq.ensures ∙ c.loop-algorithm.invariant
