use Rattle.std.proofs.Common.{map}
use Rattle.ssh_wire.specs.Algorithms.{algorithm_name}
use Rattle.ssh_negotiate.proofs.Telling.{all_told, turn_kept}
use Rattle.ssh_negotiate.proofs.told.Told.add_keys.Goals as goal

pub loop-algorithm-preserved : goal.loop-algorithm-preserved
loop-algorithm-preserved c =
    turn_kept algorithm_name c.args.self.now c.loop-algorithm.self c.add.new.self c.args.algorithms.now c.loop-algorithm.algorithm-index _ c.as_str.result.now c.loop-algorithm-test.true c.as_str.ensures c.loop-algorithm.invariant c.add.ensures

pub returns : goal.returns
returns c = all_told (map algorithm_name) c.args.self.now c.loop-algorithm.self c.args.algorithms.now c.loop-algorithm.algorithm-index c.loop-algorithm-test.false c.loop-algorithm.invariant
