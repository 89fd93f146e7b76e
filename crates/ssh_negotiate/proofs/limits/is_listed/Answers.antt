use Rattle.std.proofs.Common.{[], map}
use Rattle.ssh_negotiate.proofs.limits.is_listed.Goals as goal

pub returns : goal.returns
returns g c = c.is_listed.ensures (map g.A.AsName.text c.args.names.now) (c.add_all.ensures [] c.nothing-told.ensures)
