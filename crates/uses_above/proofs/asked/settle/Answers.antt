use Rattle.std.proofs.Common.{rules}
use Rattle.uses_above.proofs.Asking.{first_breaks, if_memory, second_refused, third_all}
use Rattle.uses_above.proofs.asked.settle.Goals as goal

pub returns-in_err-deliver-clause-err : goal.returns-in_err-deliver-clause-err
returns-in_err-deliver-clause-err c = λ client server side own other are start.
    if_memory c.from_residual.result c.in_err-deliver.field-0.0 (search rules)
    (first_breaks c.no_payload_refused.ensures client server are side c.args.writer.now c.args.reader.now own other c.in_err-deliver.field-0.0 start c.in_err-deliver.ensures.refused)

pub returns-in_err-deliver-2-clause-err : goal.returns-in_err-deliver-2-clause-err
returns-in_err-deliver-2-clause-err c = λ client server side own other are start.
    if_memory c.from_residual-in_err-deliver-2.result c.in_err-deliver-2.field-0.0 (search rules)
    (second_refused c.no_payload_refused.ensures client server are side c.args.writer.now c.args.reader.now _ _ own other c.in_err-deliver-2.field-0.0 start
    c.in_ok-deliver.ensures.ok c.deliver.ensures.side c.deliver.ensures.made c.in_err-deliver-2.ensures.refused)

pub returns-clause-err : goal.returns-clause-err
returns-clause-err c = λ client server side own other are start.
    third_all c.no_payload_refused.ensures client server are side c.args.writer.now c.args.reader.now _ _ _ _ own other c.deliver-3.result start
    c.in_ok-deliver.ensures.ok c.deliver.ensures.side c.deliver.ensures.made c.in_ok-deliver-2.ensures.ok c.deliver-2.ensures.side c.deliver-2.ensures.made c.deliver-3.ensures.refused
