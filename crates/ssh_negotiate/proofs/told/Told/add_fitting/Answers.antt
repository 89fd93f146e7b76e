use Rattle.std.proofs.Common.{map, subst, sym}
use Rattle.std.specs.Prelude.{filter}
use Rattle.ssh_wire.specs.Algorithms.{algorithm_name}
use Rattle.ssh_negotiate.specs.Advertised.{some_fits}
use Rattle.ssh_negotiate.proofs.Telling.{TellsMore, all_told, turn_passed, turn_left}
use Rattle.ssh_negotiate.proofs.told.Told.add_fitting.Goals as goal
use Rattle.ssh_negotiate.proofs.told.Told.add_fitting.Goals.{then-some_key_fits, else-some_key_fits}

pub loop-algorithm-preserved : goal.loop-algorithm-preserved
loop-algorithm-preserved c =
    elim c.if-some_key_fits.branch [
      | then-some_key_fits w ↦
          subst (λ n. TellsMore c.args.self.now n _) (sym w.self-is)
          (turn_passed (some_fits c.args.keys.now) algorithm_name c.args.self.now c.loop-algorithm.self w.add.new.self c.args.preferred.now c.loop-algorithm.algorithm-index _ w.as_str.result.now c.loop-algorithm-test.true w.if-some_key_fits.ensures w.as_str.ensures c.loop-algorithm.invariant w.add.ensures)
      | else-some_key_fits w ↦ turn_left (some_fits c.args.keys.now) algorithm_name c.args.self.now c.loop-algorithm.self c.if-some_key_fits.self c.args.preferred.now c.loop-algorithm.algorithm-index _ c.loop-algorithm-test.true w.if-some_key_fits.ensures w.self-is c.loop-algorithm.invariant
    ]

pub returns : goal.returns
returns c = all_told (λ l. map algorithm_name (filter (some_fits c.args.keys.now) l)) c.args.self.now c.loop-algorithm.self c.args.preferred.now c.loop-algorithm.algorithm-index c.loop-algorithm-test.false c.loop-algorithm.invariant
