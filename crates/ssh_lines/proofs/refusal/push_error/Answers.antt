use Rattle.std.proofs.Common.{codes, decimal, ◌∙◌, ap, ◌++◌}
use Rattle.std.proofs.lemmas.Result.{on_ok_weaker}
use Rattle.ssh_lines.proofs.Names.{two_behind}
use Rattle.ssh_lines.proofs.refusal.push_error.Goals as goal

pub returns-in_ok-push_numbered-in-StrictKeyExchangeViolation-clause-ok : goal.returns-in_ok-push_numbered-in-StrictKeyExchangeViolation-clause-ok
returns-in_ok-push_numbered-in-StrictKeyExchangeViolation-clause-ok c =
    let arm = c.in-StrictKeyExchangeViolation in
    let head = c.in_ok-push_numbered-in-StrictKeyExchangeViolation.ensures.ok ∙ ap (λ n. c.args.out.now.items ++ (codes "StrictKeyExchangeViolation " ++ decimal n)) c.from.ensures in
    on_ok_weaker c.push_numbered-in-StrictKeyExchangeViolation-2.result
    (λ e. rw arm.is (two_behind c.push_numbered-in-StrictKeyExchangeViolation-2.new.out.items c.push_numbered-in-StrictKeyExchangeViolation.new.out.items c.args.out.now.items
    (codes "StrictKeyExchangeViolation ") (decimal arm.message_type) (codes " ") (decimal arm.sequence_number) e head))
    c.push_numbered-in-StrictKeyExchangeViolation-2.ensures.ok
