use Rattle.std.proofs.Common.{◌≡◌, ◌∙◌, [], ◌∷◌, ap, sym, subst, true}
use Rattle.std.proofs.lemmas.Result.{err_from_is_err_and}
use Rattle.ssh_run.specs.RunCauses.{all_submits_good}
use Rattle.ssh_service.specs.Answers.{answers_from}
use Rattle.ssh_service.specs.declared.message.ServiceMessage.TheVariants.{Accept, Info}
use Rattle.uses.proofs.Granting.{granted_once, linked_so, run_with, steps_good, told_both}
use Rattle.uses.proofs.granted.ask_for_service.Goals as goal

pub returns-in_err-report-clause-complete : goal.returns-in_err-report-clause-complete
returns-in_err-report-clause-complete g c valid is oa ob jh sh lg og =
    let p = err_from_is_err_and c.from_residual-in_err-report.result c.from_residual-in_err-report.ensures.1 in
    rw (p.1, p.2)
    (c.in_err-report.ensures.complete (run_with _ _ _ valid (subst (λ s. all_submits_good s ≡ true) (sym (c.as_slice.ensures.value ∙ c.in_ok-steps.ensures.ok)) (steps_good c.args.name.now c.args.extensions is c.in_ok-steps.ensures.told))) oa ob jh sh lg og)

pub returns-in_err-told-clause-complete : goal.returns-in_err-told-clause-complete
returns-in_err-told-clause-complete g c valid is oa ob jh sh lg og =
    let all = linked_so _ _ _ _ _ _ c.args.name.now c.args.extensions _ (c.as_slice.ensures.value ∙ c.in_ok-steps.ensures.ok)
    (c.in_ok-report.ensures.link (g.met.A.Agreement.obliging_lawful _ _ _ _ oa) (g.met.A.Agreement.obliging_lawful _ _ _ _ ob) lg) in
    let p = err_from_is_err_and c.from_residual-in_err-told.result c.from_residual-in_err-told.ensures.1 in
    rw (p.1, p.2)
    ((c.in_err-told.ensures.again (Info c.args.extensions ∷ Accept c.args.name.now ∷ []) (c.in_ok-steps.ensures.told, (c.in_ok-steps.ensures.name, tt)) (c.as_slice-3.ensures ∙ told_both c.args.name.now c.args.extensions _ all)).1)

pub returns-clause-granted : goal.returns-clause-granted
returns-clause-granted g c la lb lg =
    let all = linked_so _ _ _ _ _ _ c.args.name.now c.args.extensions _ (c.as_slice.ensures.value ∙ c.in_ok-steps.ensures.ok) (c.in_ok-report.ensures.link la lb lg) in
    record {
      answers = granted_once _ c.args.name.now c.args.extensions _ _ c.in_ok-steps.ensures.name c.in_ok-services.ensures.offered all (c.in_ok-answers.ensures.answers [] c.in_ok-services.ensures.stands ∙ ap (answers_from c.in_ok-services.services.offered []) c.as_slice-2.ensures);
      told = (c.in_ok-told.ensures.again (Info c.args.extensions ∷ Accept c.args.name.now ∷ []) (c.in_ok-steps.ensures.told, (c.in_ok-steps.ensures.name, tt)) (c.as_slice-3.ensures ∙ told_both c.args.name.now c.args.extensions _ all)).0;
    }
