use Rattle.std.proofs.Common.{◌≡◌, ◌∙◌, ◌+◌, ◌≤◌, ◌++◌, ◌∷◌, [], ℕ, List, ap, arith, length, refl, subst, take}
use Rattle.ssh_service.specs.Answers.{answer_after}
use Rattle.ssh_service.specs.declared.answer.ServiceAnswer.{ServiceAnswer}
use Rattle.ssh_service.proofs.AnswersLaws.{always_err, answers_next, received_next, received_same, stands_with, taken_next}
use Rattle.ssh_service.proofs.ServingLaws.{replies_next, serves_failed, serves_some, submits_keep, submits_there}
use Rattle.ssh_service.proofs.serving.serve.Goals as goal
use Rattle.ssh_kex.specs.Stepping.{says_of}

pub loop-payload-preserved : goal.loop-payload-preserved
loop-payload-preserved g c =
    let inv = c.loop-payload.invariant in
    let all = c.args.transport.now.delivered in
    let i = c.loop-payload.payload-index in
    let same = c.as_slice-payload-items.ensures ∙ c.take_delivered-delivered.ensures.taken in
    let done : take (i + 1) all ≡ take i all ++ c.as_slice.result.now ∷ [] =
    taken_next all c.as_slice-payload-items.result.now i c.as_slice.result.now c.payload-item.result same c.loop-payload-test.true c.payload-item.is c.as_slice.ensures in
    record {
      within = subst (λ (l : List (List ℕ)). i + 1 ≤ length l) same (let more = c.loop-payload-test.true in omega arith);
      answers = λ earlier st. answers_next c.args.services.now.offered earlier (take i all) (take (i + 1) all) c.loop-payload.answers.items c.push.new.self.items c.in_ok-answer.answer c.as_slice.result.now done
          (inv.answers earlier st) (c.in_ok-answer.ensures.answer (earlier ++ take i all) (inv.stands earlier st) ∙ ap (λ o. answer_after o (earlier ++ take i all) c.as_slice.result.now) inv.offered) c.in_ok-push.ensures.items;
      stands = λ earlier st. stands_with c.receive.new.self earlier (take i all) (take (i + 1) all) c.as_slice.result.now done (c.in_ok-answer.ensures.stands (earlier ++ take i all) (inv.stands earlier st));
      offered = c.receive.ensures.offered ∙ inv.offered;
      replies = replies_next _ _ _ _ c.loop-payload.answers.items c.push.new.self.items c.in_ok-answer.answer c.in_ok-push.ensures.items inv.replies
          (submits_there (says_of g.A.Agreement g.H.HostKeys g.G.GroupLookup) _ _ _ _ _ _ _ _ _ _ _ inv.config inv.agreement inv.hosts inv.groups c.in_ok-submit_reply.ensures.sent);
      live = c.in_ok-submit_reply.ensures.live;
      config = c.in_ok-submit_reply.ensures.config ∙ inv.config;
      agreement = c.submit_reply.ensures.parts.0 ∙ inv.agreement;
      hosts = c.submit_reply.ensures.parts.1 ∙ inv.hosts;
      groups = c.submit_reply.ensures.parts.2 ∙ inv.groups;
    }

pub returns-in_err-answer-clause-gone : goal.returns-in_err-answer-clause-gone
returns-in_err-answer-clause-gone g c = λ live. always_err c.from_residual.result (c.loop-payload.transport.delivered ≡ []) (submits_keep _ _ _ _ c.loop-payload.invariant.replies)

pub returns-in_err-submit_reply-clause-gone : goal.returns-in_err-submit_reply-clause-gone
returns-in_err-submit_reply-clause-gone g c = λ live. always_err c.from_residual-in_err-submit_reply.result (c.submit_reply.new.transport.delivered ≡ []) (c.in_err-submit_reply.ensures.ends.1 ∙ submits_keep _ _ _ _ c.loop-payload.invariant.replies)

pub returns-in_err-push-clause-gone : goal.returns-in_err-push-clause-gone
returns-in_err-push-clause-gone g c = λ live. always_err c.from_residual-in_err-push.result (c.submit_reply.new.transport.delivered ≡ []) (submits_keep _ _ _ _ c.in_ok-submit_reply.ensures.sent ∙ submits_keep _ _ _ _ c.loop-payload.invariant.replies)

pub returns-in_err-answer-clause-so_far : goal.returns-in_err-answer-clause-so_far
returns-in_err-answer-clause-so_far g c =
    let inv = c.loop-payload.invariant in
    λ live. always_err c.from_residual.result _ (serves_some _ _ _ _ c.loop-payload.transport c.receive.new.self c.loop-payload.answers.items
    (received_same c.args.services.now _ _ c.args.transport.now.delivered c.loop-payload.payload-index c.in_err-answer.ensures.unchanged inv.within inv.stands) inv.answers inv.replies)

pub returns-in_err-submit_reply-clause-so_far : goal.returns-in_err-submit_reply-clause-so_far
returns-in_err-submit_reply-clause-so_far g c =
    let inv = c.loop-payload.invariant in
    let all = c.args.transport.now.delivered in
    let i = c.loop-payload.payload-index in
    let same = c.as_slice-payload-items.ensures ∙ c.take_delivered-delivered.ensures.taken in
    let done : take (i + 1) all ≡ take i all ++ c.as_slice.result.now ∷ [] =
    taken_next all c.as_slice-payload-items.result.now i c.as_slice.result.now c.payload-item.result same c.loop-payload-test.true c.payload-item.is c.as_slice.ensures in
    let few : i + 1 ≤ length all = subst (λ (l : List (List ℕ)). i + 1 ≤ length l) same (let more = c.loop-payload-test.true in omega arith) in
    λ live. always_err c.from_residual-in_err-submit_reply.result _ (serves_failed _ _ _ _ c.submit_reply.new.transport c.receive.new.self
    (received_next _ c.loop-payload.services c.receive.new.self all c.as_slice.result.now i few done inv.stands c.in_ok-answer.ensures.stands) c.in_err-submit_reply.ensures.ends.0)

pub returns-in_err-push-clause-so_far : goal.returns-in_err-push-clause-so_far
returns-in_err-push-clause-so_far g c =
    let inv = c.loop-payload.invariant in
    let all = c.args.transport.now.delivered in
    let i = c.loop-payload.payload-index in
    let answers : List ServiceAnswer = c.loop-payload.answers.items ++ c.in_ok-answer.answer ∷ [] in
    let same = c.as_slice-payload-items.ensures ∙ c.take_delivered-delivered.ensures.taken in
    let done : take (i + 1) all ≡ take i all ++ c.as_slice.result.now ∷ [] =
    taken_next all c.as_slice-payload-items.result.now i c.as_slice.result.now c.payload-item.result same c.loop-payload-test.true c.payload-item.is c.as_slice.ensures in
    let few : i + 1 ≤ length all = subst (λ (l : List (List ℕ)). i + 1 ≤ length l) same (let more = c.loop-payload-test.true in omega arith) in
    λ live. always_err c.from_residual-in_err-push.result _ (serves_some _ _ _ _ c.submit_reply.new.transport c.receive.new.self answers
    (received_next _ c.loop-payload.services c.receive.new.self all c.as_slice.result.now i few done inv.stands c.in_ok-answer.ensures.stands)
    (λ earlier st. answers_next c.args.services.now.offered earlier (take i all) (take (i + 1) all) c.loop-payload.answers.items answers c.in_ok-answer.answer c.as_slice.result.now done
    (inv.answers earlier st) (c.in_ok-answer.ensures.answer (earlier ++ take i all) (inv.stands earlier st) ∙ ap (λ o. answer_after o (earlier ++ take i all) c.as_slice.result.now) inv.offered) refl)
    (replies_next _ _ _ _ c.loop-payload.answers.items answers c.in_ok-answer.answer refl inv.replies
    (submits_there (says_of g.A.Agreement g.H.HostKeys g.G.GroupLookup) _ _ _ _ _ _ _ _ _ _ _ inv.config inv.agreement inv.hosts inv.groups c.in_ok-submit_reply.ensures.sent)))
