use Rattle.std.proofs.Common.{rules}
use Rattle.uses_above.proofs.Asking.{flow_opened, if_memory, opening_breaks, window_some, within}
use Rattle.uses_above.proofs.asked.opened.Goals as goal

pub returns-clause-flow : goal.returns-clause-flow
returns-clause-flow c =
    flow_opened c.no_payload_refused.ensures c.args.client.now c.args.server.now (within c.args.client.now c.args.server.now (search rules) (search rules)) (window_some c.args.client.now (search rules)) (window_some c.args.server.now (search rules))
    c.args.request.now c.in_ok-number.number _ _ _ _ _ _ c.new-asking.ensures.side c.new-asking.ensures.made c.new-asked.ensures.side c.new-asked.ensures.made
    c.in_ok-number.ensures.ok c.in_ok-number.ensures.number c.in_ok-write.ensures.ok c.in_ok-deliver.ensures.side c.in_ok-deliver.ensures.made c.in_ok-deliver.ensures.ok

pub returns-in_err-deliver-clause-err : goal.returns-in_err-deliver-clause-err
returns-in_err-deliver-clause-err c =
    if_memory c.from_residual-in_err-deliver.result c.in_err-deliver.field-0.0 (search rules)
    (opening_breaks c.no_payload_refused.ensures c.args.client.now c.args.server.now (within c.args.client.now c.args.server.now (search rules) (search rules)) c.args.request.now c.in_ok-number.number _ _ _ _ c.in_err-deliver.field-0.0
    c.new-asking.ensures.side c.new-asking.ensures.made c.new-asked.ensures.side c.new-asked.ensures.made c.in_ok-number.ensures.ok c.in_ok-write.ensures.ok c.in_err-deliver.ensures.refused)
