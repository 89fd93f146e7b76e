use Rattle.std.proofs.Common.{◌≡◌, ◌∙◌, ◌+◌, ◌++◌, ◌∷◌, [], ap, arith, refl, take}
use Rattle.ssh_service.specs.Answers.{answer_after}
use Rattle.ssh_service.proofs.AnswersLaws.{always_err, answers_next, received_next, received_same, stands_with, taken_next}
use Rattle.ssh_service.proofs.services.Services.receive_all.Goals as goal

pub loop-payload-preserved : goal.loop-payload-preserved
loop-payload-preserved c =
    let inv = c.loop-payload.invariant in
    let all = c.args.payloads.now in
    let i = c.loop-payload.payload-index in
    let done : take (i + 1) all ≡ take i all ++ c.as_slice.result.now ∷ [] =
    taken_next all all i c.as_slice.result.now c.payload-item.result refl c.loop-payload-test.true c.payload-item.is c.as_slice.ensures in
    record {
      within = let more = c.loop-payload-test.true in omega arith;
      answers = λ earlier st. answers_next c.args.self.now.offered earlier (take i all) (take (i + 1) all) c.loop-payload.answers.items c.push.new.self.items c.in_ok-answer.answer c.as_slice.result.now done
          (inv.answers earlier st) (c.in_ok-answer.ensures.answer (earlier ++ take i all) (inv.stands earlier st) ∙ ap (λ o. answer_after o (earlier ++ take i all) c.as_slice.result.now) inv.offered) c.in_ok-push.ensures.items;
      stands = λ earlier st. stands_with c.receive.new.self earlier (take i all) (take (i + 1) all) c.as_slice.result.now done (c.in_ok-answer.ensures.stands (earlier ++ take i all) (inv.stands earlier st));
      offered = c.receive.ensures.offered ∙ inv.offered;
    }

pub returns-in_err-answer-clause-so_far : goal.returns-in_err-answer-clause-so_far
returns-in_err-answer-clause-so_far c =
    let inv = c.loop-payload.invariant in
    always_err c.from_residual.result _ (received_same _ _ _ c.args.payloads.now c.loop-payload.payload-index c.in_err-answer.ensures.unchanged inv.within inv.stands)

pub returns-in_err-push-clause-so_far : goal.returns-in_err-push-clause-so_far
returns-in_err-push-clause-so_far c =
    let inv = c.loop-payload.invariant in
    let all = c.args.payloads.now in
    let i = c.loop-payload.payload-index in
    let done : take (i + 1) all ≡ take i all ++ c.as_slice.result.now ∷ [] =
    taken_next all all i c.as_slice.result.now c.payload-item.result refl c.loop-payload-test.true c.payload-item.is c.as_slice.ensures in
    always_err c.from_residual-in_err-push.result _ (received_next _ c.loop-payload.self c.receive.new.self all c.as_slice.result.now i (let more = c.loop-payload-test.true in omega arith) done inv.stands c.in_ok-answer.ensures.stands)
