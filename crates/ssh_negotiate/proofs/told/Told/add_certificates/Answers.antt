use Rattle.std.proofs.Common.{map}
use Rattle.ssh_wire.specs.Algorithms.{certificate_name}
use Rattle.ssh_negotiate.proofs.Telling.{all_told, turn_kept}
use Rattle.ssh_negotiate.proofs.told.Told.add_certificates.Goals as goal

pub loop-algorithm-preserved : goal.loop-algorithm-preserved
loop-algorithm-preserved c =
    turn_kept certificate_name c.args.self.now c.loop-algorithm.self c.add.new.self c.args.algorithms.now c.loop-algorithm.algorithm-index _ c.to_certificate_type.result.now c.loop-algorithm-test.true c.to_certificate_type.ensures c.loop-algorithm.invariant c.add.ensures

pub returns : goal.returns
returns c = all_told (map certificate_name) c.args.self.now c.loop-algorithm.self c.args.algorithms.now c.loop-algorithm.algorithm-index c.loop-algorithm-test.false c.loop-algorithm.invariant
