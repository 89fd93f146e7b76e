use Rattle.std.proofs.Common.{rules, subst, ◌↔◌, IsTrue}
use Rattle.ssh_judge.specs.Standing.{StandBehind}
use Rattle.ssh_judge.proofs.Steps.{causes_fail, goes_on_to, tests_fail}
use Rattle.ssh_judge.proofs.run.RunState.next_mark.Goals as goal

pub returns-then-not-stands_behind-clause-stops : goal.returns-then-not-stands_behind-clause-stops
returns-then-not-stands_behind-clause-stops c = λ _.
    tests_fail c.args.step.now c.args.sent c.args.self.now c.come.new.self c.stands_behind.result c.in_ok-after.ensures.comes
    (subst (λ m. IsTrue c.stands_behind.result ↔ StandBehind c.args.step.now m c.come.new.self) c.mark-before.ensures c.stands_behind.ensures) (search rules)

pub returns-then-branch-clause-goes_on : goal.returns-then-branch-clause-goes_on
returns-then-branch-clause-goes_on c =
    goes_on_to c.args.step.now c.args.sent c.args.self.now c.come.new.self c.see_causes.new.self c.in_ok-after.after c.in_ok-see_causes.field-0 c.in_ok-after.ensures.comes
    (subst (λ m. StandBehind c.args.step.now m c.come.new.self) c.mark-before.ensures (c.stands_behind.ensures.0 (search rules))) c.in_ok-see_causes.ensures.keeps c.in_ok-see_causes.ensures.told (search rules) c.in_ok-after.ensures.mark

pub returns-else-branch-clause-stops : goal.returns-else-branch-clause-stops
returns-else-branch-clause-stops c = λ _.
    causes_fail c.args.step.now c.args.sent c.args.self.now c.come.new.self c.see_causes.new.self c.in_ok-see_causes.field-0 c.in_ok-after.ensures.comes c.in_ok-see_causes.ensures.keeps c.in_ok-see_causes.ensures.told (search rules)
