use Rattle.ssh_negotiate.proofs.Selected.{some_selected, refused_selected}
use Rattle.ssh_negotiate.proofs.read.choice_with_read.Goals as goal

pub returns-in-Some : goal.returns-in-Some
returns-in-Some g c =
    some_selected g.A.AsName.text c.args.side c.args.kind c.args.own.now c.args.peer.now c.in-Some.name c.begins_alike.result c.in-Some.ensures c.begins_alike.ensures

pub returns-in-None : goal.returns-in-None
returns-in-None g c =
    refused_selected g.A.AsName.text c.args.side c.args.kind c.args.own.now c.args.peer.now c.refusal_of_read.result c.in-None.ensures c.refusal_of_read.ensures
