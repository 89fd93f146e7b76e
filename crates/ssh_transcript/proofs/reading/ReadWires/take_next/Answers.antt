use Rattle.std.proofs.Common.{◌∙◌, Ok, ap, inl, subst}
use Rattle.std.proofs.lemmas.Result.{err_from_is_err_and}
use Rattle.std.specs.Option.{IfSome}
use Rattle.ssh_transcript.specs.Reading.{FromEnds, IsMadeNext, judged_under}
use Rattle.ssh_transcript.proofs.Exchanging.{both_stop}
use Rattle.ssh_transcript.proofs.reading.ReadWires.take_next.Goals as goal

pub returns-in_err-made-clause-stops : goal.returns-in_err-made-clause-stops
returns-in_err-made-clause-stops c =
    let p = err_from_is_err_and c.from_residual.result c.from_residual.ensures.1 in
    rw (p.1, p.2) c.in_err-made.ensures.stops

pub returns-in-None-clause-last : goal.returns-in-None-clause-last
returns-in-None-clause-last c = λ e r s h. both_stop (judged_under c.args.setting.now r) c.args.self.now h (c.made.ensures.none (c.in_ok-made.was ∙ ap Ok c.in-None.is) r s h)

pub returns-in_ok-take-in-Some-clause-more : goal.returns-in_ok-take-in-Some-clause-more
returns-in_ok-take-in-Some-clause-more c = λ t r s h.
    let m = subst (λ q. IfSome q (λ x. FromEnds c.args.self.now c.args.setting.now c.args.secrets.now (λ j. IsMadeNext j c.args.self.now.exchanges.items x))) c.in-Some.is c.in_ok-made.ensures.made in
    c.in_ok-take-in-Some.ensures.next (judged_under c.args.setting.now r) h (m r s h)

pub returns-in_err-take-in-Some-clause-stops : goal.returns-in_err-take-in-Some-clause-stops
returns-in_err-take-in-Some-clause-stops c =
    let p = err_from_is_err_and c.from_residual-in_err-take-in-Some.result c.from_residual-in_err-take-in-Some.ensures.1 in
    rw (p.1, p.2) (λ r s h. inl c.in_err-take-in-Some.ensures.memory)
