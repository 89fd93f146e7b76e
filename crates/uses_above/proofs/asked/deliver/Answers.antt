use Rattle.std.proofs.Common.{rules}
use Rattle.ssh_channels.proofs.Lemmas.{receives_next, refuses_next, refuses_so}
use Rattle.uses_above.proofs.asked.deliver.Goals as goal

pub loop-payload-preserved : goal.loop-payload-preserved
loop-payload-preserved c = receives_next c.as_slice-payload-items.result.now c.loop-payload.payload-index c.as_slice.result.now c.payload-item.result _ _ _ c.loop-payload-test.true c.payload-item.is c.as_slice.ensures c.loop-payload.invariant c.in_ok-receive.ensures.ok

pub returns-in_err-receive-clause-refused : goal.returns-in_err-receive-clause-refused
returns-in_err-receive-clause-refused c = refuses_so c.from_residual.result c.as_slice-payload-items.result.now c.args.from.now.made _ c.in_err-receive.field-0.0 (search rules) (search rules)
    (refuses_next c.as_slice-payload-items.result.now c.loop-payload.payload-index c.as_slice.result.now c.payload-item.result c.in_err-receive.field-0.0 _ _ _ c.loop-payload-test.true c.payload-item.is c.as_slice.ensures c.loop-payload.invariant c.in_err-receive.ensures.refused)
