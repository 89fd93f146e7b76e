use Rattle.std.proofs.Common.{◌++◌, take}
use Rattle.std.specs.Prelude.{filter}
use Rattle.ssh_negotiate.specs.Advertised.{fits}
use Rattle.ssh_negotiate.proofs.Telling.{TellsOnce, once_all, once_further, once_known, once_left, once_same, once_taken}
use Rattle.ssh_negotiate.proofs.told.Told.add_new.Goals as goal
use Rattle.ssh_negotiate.proofs.told.Told.add_new.Goals.{then-is_fitting+then-not-has, else-is_fitting, else-is_fitting-via-then-is_fitting+else-not-has, else-is_fitting-via-else-is_fitting}

pub loop-algorithm-preserved : goal.loop-algorithm-preserved
loop-algorithm-preserved c found t k =
    elim c.if-is_fitting.branch [
      | then-is_fitting+then-not-has w ↦
          once_same w.add.new.self c.if-is_fitting.self w.mark.new.self c.if-is_fitting.seen _ w.self-is w.seen-is
          (once_further (TellsOnce w.add.new.self w.mark.new.self) (fits c.args.certificate) found c.args.preferred.now c.loop-algorithm.algorithm-index _ c.loop-algorithm-test.true w.if-is_fitting.ensures
          (once_taken c.loop-algorithm.self w.add.new.self c.loop-algorithm.seen w.mark.new.self (found ++ filter (fits c.args.certificate) (take c.loop-algorithm.algorithm-index c.args.preferred.now)) _ w.to_certificate_type.result.now w.if-not-has.ensures w.to_certificate_type.ensures w.add.ensures w.mark.ensures (c.loop-algorithm.invariant found t k)))
      | else-is_fitting w ↦
          once_same c.loop-algorithm.self c.if-is_fitting.self c.loop-algorithm.seen c.if-is_fitting.seen _ w.self-is w.seen-is
          (elim w.else-is_fitting.branch [
            | else-is_fitting-via-then-is_fitting+else-not-has v ↦
                once_further (TellsOnce c.loop-algorithm.self c.loop-algorithm.seen) (fits c.args.certificate) found c.args.preferred.now c.loop-algorithm.algorithm-index _ c.loop-algorithm-test.true v.if-is_fitting.ensures
                (once_known c.loop-algorithm.self c.loop-algorithm.seen (found ++ filter (fits c.args.certificate) (take c.loop-algorithm.algorithm-index c.args.preferred.now)) _ v.if-not-has.ensures (c.loop-algorithm.invariant found t k))
            | else-is_fitting-via-else-is_fitting v ↦
                once_left (TellsOnce c.loop-algorithm.self c.loop-algorithm.seen) (fits c.args.certificate) found c.args.preferred.now c.loop-algorithm.algorithm-index _ c.loop-algorithm-test.true v.if-is_fitting.ensures (c.loop-algorithm.invariant found t k)
          ])
    ]

pub returns : goal.returns
returns c found t k = once_all (TellsOnce c.loop-algorithm.self c.loop-algorithm.seen) (fits c.args.certificate) found c.args.preferred.now c.loop-algorithm.algorithm-index c.loop-algorithm-test.false (c.loop-algorithm.invariant found t k)
