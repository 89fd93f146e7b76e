use Rattle.std.proofs.Common.{◌∷◌, ◌+◌, drop, List, sym, ap, subst, ◌∙◌}
use Rattle.std.proofs.lemmas.List.{at_drop_more, at_drop_all}
use Rattle.std.proofs.lemmas.Result.{err_from_is_err_and}
use Rattle.ssh_script.specs.declared.step.ClearStep.{ClearStep}
use Rattle.ssh_run.proofs.Runs.{IsUnderWay, starts, goes_on, stops, finishes}
use Rattle.ssh_run.proofs.run.run_clear.Goals as goal

pub loop-step-init : goal.loop-step-init
loop-step-init c = starts _ _ _ _ c.requires.client c.requires.server c.in_ok-link.ensures.client c.in_ok-link.ensures.server

pub returns-in_err-step-clause-refused : goal.returns-in_err-step-clause-refused
returns-in_err-step-clause-refused c =
    let p = err_from_is_err_and c.from_residual-in_err-step.result c.from_residual-in_err-step.ensures.1 in
    let left = at_drop_more (λ (l : List ClearStep). l) c.args.steps.now c.loop-step.step-index c.step-item.result c.loop-step-test.true
    ∙ ap (λ (s : ClearStep). s ∷ drop (c.loop-step.step-index + 1) c.args.steps.now) (sym c.step-item.is) in
    let Now : List ClearStep → Type 0 = λ l. IsUnderWay c.args.client_id.now c.args.server_id.now c.args.steps.now l c.loop-step.link in
    rw (p.1, p.2) (stops _ _ _ _ c.step-item.result c.loop-step.link _ c.requires.client c.requires.server (subst Now left c.loop-step.invariant) c.in_err-step.ensures.cause)

pub loop-step-preserved : goal.loop-step-preserved
loop-step-preserved c =
    let left = at_drop_more (λ (l : List ClearStep). l) c.args.steps.now c.loop-step.step-index c.step-item.result c.loop-step-test.true
    ∙ ap (λ (s : ClearStep). s ∷ drop (c.loop-step.step-index + 1) c.args.steps.now) (sym c.step-item.is) in
    let Now : List ClearStep → Type 0 = λ l. IsUnderWay c.args.client_id.now c.args.server_id.now c.args.steps.now l c.loop-step.link in
    goes_on _ _ _ _ c.step-item.result c.loop-step.link c.step.new.self c.requires.client c.requires.server (subst Now left c.loop-step.invariant) c.in_ok-step.ensures.step

pub returns-clause-run : goal.returns-clause-run
returns-clause-run c =
    let Now : List ClearStep → Type 0 = λ l. IsUnderWay c.args.client_id.now c.args.server_id.now c.args.steps.now l c.loop-step.link in
    let none = at_drop_all (λ (l : List ClearStep). l) c.args.steps.now c.loop-step.step-index c.loop-step-test.false in
    finishes _ _ _ c.loop-step.link c.report.result (subst Now none c.loop-step.invariant)
    (record { wire = c.report.ensures.client_wire; taken = c.report.ensures.client_taken; delivered = c.report.ensures.client_delivered })
    (record { wire = c.report.ensures.server_wire; taken = c.report.ensures.server_taken; delivered = c.report.ensures.server_delivered })
