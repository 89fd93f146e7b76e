use Rattle.std.proofs.Common.{◌∙◌, Ok, ap, inl, length, suc}
use Rattle.std.proofs.lemmas.Result.{IfErr-weaker, IfOk-weaker, err_from_is_err_and}
use Rattle.ssh_transcript.specs.Reading.{judged_under}
use Rattle.ssh_transcript.proofs.reading.ReadWires.read_exchange.Goals as goal

pub returns-in_err-ended-clause-stops : goal.returns-in_err-ended-clause-stops
returns-in_err-ended-clause-stops c =
    let p = err_from_is_err_and c.from_residual.result c.from_residual.ensures.1 in
    rw p.1 (λ r s o. inl p.2)

pub returns-then-not-ended-clause-last : goal.returns-then-not-ended-clause-last
returns-then-not-ended-clause-last c = λ e r s o. c.read_epochs.ensures.over (c.in_ok-ended.was ∙ ap Ok c.if-not-ended.true) (judged_under c.args.setting.now r) o

pub returns-clause-more : goal.returns-clause-more
returns-clause-more c = IfOk-weaker c.take_next.result _ _ (λ m h t r s o.
    let x = h t r s (c.in_ok-ended.ensures.ended c.if-not-ended.false (judged_under c.args.setting.now r) o) in
    (x.0, x.1 ∙ ap (λ v. suc (length v.items)) c.read_epochs.ensures.exchanges)) c.take_next.ensures.more

pub returns-clause-last : goal.returns-clause-last
returns-clause-last c = λ e r s o. c.take_next.ensures.last e r s (c.in_ok-ended.ensures.ended c.if-not-ended.false (judged_under c.args.setting.now r) o)

pub returns-clause-stops : goal.returns-clause-stops
returns-clause-stops c = IfErr-weaker c.take_next.result _ _ (λ e h r s o. h r s (c.in_ok-ended.ensures.ended c.if-not-ended.false (judged_under c.args.setting.now r) o)) c.take_next.ensures.stops
