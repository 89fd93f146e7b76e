use Rattle.std.proofs.Common.{rules, arith}
use Rattle.uses_above.specs.Asked.{place_at}
use Rattle.uses_above.proofs.Asking.{flow_read_refused, flow_round, if_channel, round_grows}
use Rattle.uses_above.proofs.asked.read_all.Goals as goal

pub loop-writer-smaller : goal.loop-writer-smaller
loop-writer-smaller c =
    let r = c.requires in
    round_grows c.no_payload_refused.ensures c.channels_come.ensures r.client r.server r.within r.side r.number r.written r.read c.args.channel r.back _ _ _ _ _ _ _ _ c.args.count
    (c.loop-writer.invariant r.client r.server r.side r.number r.written r.read r.back r.within r.flow) c.in_ok-settle.ensures.ok c.in_ok-piece.ensures.bytes (search rules) (omega arith) r.many (search rules)

pub loop-writer-preserved : goal.loop-writer-preserved
loop-writer-preserved c = λ client server side number written read back are start.
    flow_round c.no_payload_refused.ensures client server are side (place_at number written read) c.args.channel back _ _ _ _ _ _ _ _ _ (c.loop-writer.invariant client server side number written read back are start)
    c.in_ok-settle.ensures.ok c.in_ok-piece.ensures.ok c.in_ok-piece.ensures.bytes (search rules)

pub returns-in_err-settle-clause-err : goal.returns-in_err-settle-clause-err
returns-in_err-settle-clause-err c =
    let r = c.requires in
    if_channel c.from_residual.result c.in_err-settle.field-0.0 (search rules)
    (c.in_err-settle.ensures.err r.client r.server r.side (place_at r.number r.written r.read) (place_at c.args.channel r.back c.loop-writer.got.items) r.within
    (c.loop-writer.invariant r.client r.server r.side r.number r.written r.read r.back r.within r.flow))

pub returns-in_err-piece-clause-err : goal.returns-in_err-piece-clause-err
returns-in_err-piece-clause-err c =
    let r = c.requires in
    if_channel c.from_residual-in_err-piece.result c.in_err-piece.field-0.0 (search rules)
    (flow_read_refused c.no_payload_refused.ensures r.client r.server r.within r.side (place_at r.number r.written r.read) c.args.channel r.back c.loop-writer.got.items 0 _ _ _ _ c.in_err-piece.field-0.0 _
    (c.loop-writer.invariant r.client r.server r.side r.number r.written r.read r.back r.within r.flow) c.in_ok-settle.ensures.ok c.in_err-piece.ensures.refused)
