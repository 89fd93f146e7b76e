use Rattle.std.proofs.Common.{◌∙◌, ap}
use Rattle.ssh_negotiate.proofs.Once.{step_there, step_new}
use Rattle.ssh_negotiate.proofs.offers.each_once.Goals as goal
use Rattle.ssh_negotiate.proofs.offers.each_once.Goals.{then-not-stands_in+in_ok-push, else-not-stands_in}

pub loop-name-preserved : goal.loop-name-preserved
loop-name-preserved c =
    elim c.if-not-stands_in.branch [
      | then-not-stands_in+in_ok-push w ↦ step_new c.args.names.now c.loop-name.once.items c.as_slice.result.now c.if-not-stands_in.once.items c.loop-name.name-index _ c.loop-name-test.true c.as_slice.ensures.value c.loop-name.invariant w.if-not-stands_in.ensures (ap (λ v. v.items) w.once-is ∙ w.in_ok-push.ensures.items)
      | else-not-stands_in w ↦ step_there c.args.names.now c.loop-name.once.items c.as_slice.result.now c.if-not-stands_in.once.items c.loop-name.name-index _ c.loop-name-test.true c.as_slice.ensures.value c.loop-name.invariant w.if-not-stands_in.ensures (ap (λ v. v.items) w.once-is)
    ]
