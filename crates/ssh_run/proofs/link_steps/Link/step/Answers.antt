use Rattle.std.proofs.Common.{refl, ap, ◌∙◌, ◌++◌, ◌∷◌, []}
use Rattle.ssh_run.proofs.link_steps.Link.step.Goals as goal

pub returns-clause-takes : goal.returns-clause-takes
returns-clause-takes g c = λ live. rw (← c.self.view_is) (record {
  link = c.in_ok-step.ensures.steps;
  few = c.in_ok-step.ensures.few;
  bound = c.step.ensures.bound;
  steps = c.in_ok-push-2.ensures.items;
  marks = c.in_ok-push.ensures.items ∙ ap (λ m. c.self.inside.marks.items ++ m ∷ []) c.mark.ensures;
  lives = refl;
})
