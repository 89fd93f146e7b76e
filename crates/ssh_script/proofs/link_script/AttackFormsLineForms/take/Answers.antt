use Rattle.ssh_script.proofs.SmallGroups.{set_keeps}
use Rattle.ssh_script.proofs.link_script.AttackFormsLineForms.take.Goals as goal

pub returns-then-eq-clause-holds : goal.returns-then-eq-clause-holds
returns-then-eq-clause-holds c = set_keeps c.set.result _ c.args.self.now.script.steps c.args.self.now.script.attack c.args.words c.args.self.now.script _ c.requires.1 c.set.ensures.given c.set.ensures.ok
