use Rattle.std.proofs.Common.{map, ap, ◌∙◌}
use Rattle.ssh_negotiate.proofs.Telling.{all_told, turn_kept}
use Rattle.ssh_negotiate.proofs.told.Told.add_all.Goals as goal

pub loop-name-preserved : goal.loop-name-preserved
loop-name-preserved g c =
    turn_kept g.A.AsName.text c.args.self.now c.loop-name.self c.add.new.self c.args.names.now c.loop-name.name-index c.name-item.result c.as_name.result.now c.loop-name-test.true (c.as_name.ensures ∙ ap g.A.AsName.text c.name-item.is) c.loop-name.invariant c.add.ensures

pub returns : goal.returns
returns g c = all_told (map g.A.AsName.text) c.args.self.now c.loop-name.self c.args.names.now c.loop-name.name-index c.loop-name-test.false c.loop-name.invariant
