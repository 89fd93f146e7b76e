use Rattle.std.proofs.Common.{map}
use Rattle.ssh_negotiate.proofs.Selected.{some_selected, refused_selected}
use Rattle.ssh_negotiate.proofs.select.select_by.Goals as goal

pub returns-in-Some : goal.returns-in-Some
returns-in-Some g c = some_selected g.A.AsName.text c.args.side c.args.kind c.args.a.now (map g.B.AsName.text c.args.b.now) c.in-Some.name c.begin_alike.result c.in-Some.ensures c.begin_alike.ensures

pub returns-in-None : goal.returns-in-None
returns-in-None g c = refused_selected g.A.AsName.text c.args.side c.args.kind c.args.a.now (map g.B.AsName.text c.args.b.now) c.no_common.result c.in-None.ensures c.no_common.ensures
