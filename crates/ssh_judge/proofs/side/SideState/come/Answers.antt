use Rattle.std.proofs.Common.{ap, ◌∙◌, arith}
use Rattle.std.proofs.lemmas.Result.{on_ok_weaker}
use Rattle.ssh_rules.specs.declared.link.SideMark.{SideMark}
use Rattle.ssh_judge.specs.Effects.{submitted_after}
use Rattle.ssh_judge.proofs.Stepping.{comes_side}
use Rattle.ssh_judge.proofs.side.SideState.come.Goals as goal

pub returns : goal.returns
returns c =
    let e = ap (λ (m : SideMark). m.submitted) c.mark_of.ensures in
    on_ok_weaker c.reach.result (λ h. comes_side c.args.step.now c.args.side c.args.before.now c.args.sent c.args.others.now (record { sent = c.sent_of.result; taken = c.taken_behind.result; submitted = c.submitted_behind.result }) c.args.self.now c.see_rekey.new.self c.reach.new.self
    c.see_rekey.ensures c.sent_of.ensures c.taken_behind.ensures (λ l. c.submitted_behind.ensures (omega (arith, l, e)) ∙ ap (submitted_after c.args.step.now c.args.side) e) h) c.reach.ensures
