use Rattle.ssh_channels.proofs.Lemmas.{receives_next, refuses_next, refuses_so}
use Rattle.std.proofs.Common.{length, refl, rules, ◌∙◌, arith}
use Rattle.std.proofs.lemmas.Slice.{between_to_end}
use Rattle.ssh_mux.proofs.pair.receive_new.Goals as goal

pub loop-payload-preserved : goal.loop-payload-preserved
loop-payload-preserved c = receives_next c.in-Some.new.now c.loop-payload.payload-index c.payload-item.result c.payload-item.result _ _ _ c.loop-payload-test.true c.payload-item.is refl c.loop-payload.invariant c.in_ok-receive_one.ensures.ok

pub returns-in_err-receive_one-clause-breaks : goal.returns-in_err-receive_one-clause-breaks
returns-in_err-receive_one-clause-breaks c = refuses_so c.from_residual.result c.in-Some.new.now _ _ c.in_err-receive_one.field-0.0 (search rules)
    (c.in-Some.ensures.lookup.0.2 ∙ between_to_end c.args.delivered.now c.args.side.now.received (length c.args.delivered.now) (omega arith))
    (refuses_next c.in-Some.new.now c.loop-payload.payload-index c.payload-item.result c.payload-item.result c.in_err-receive_one.field-0.0 _ _ _ c.loop-payload-test.true c.payload-item.is refl c.loop-payload.invariant c.in_err-receive_one.ensures.refused)
