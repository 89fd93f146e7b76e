use Rattle.std.proofs.Common.{◌∙◌, ap, map}
use Rattle.std.proofs.lemmas.List.{map-id}
use Rattle.ssh_negotiate.specs.Reading.{common, same_first}
use Rattle.ssh_negotiate.proofs.Selected.{some_selected, refused_selected}
use Rattle.ssh_negotiate.proofs.read.choice_with.Goals as goal

pub returns-in-Some : goal.returns-in-Some
returns-in-Some g c =
    some_selected g.A.AsName.text c.args.side c.args.kind c.args.own.now c.args.peer.0.items c.in-Some.name c.begin_alike.result
    (c.in-Some.ensures ∙ ap (common g.A.AsName.text c.args.side c.args.own.now) (map-id c.as_slice.result.now ∙ c.as_slice.ensures.value))
    (c.begin_alike.ensures ∙ ap (same_first (map g.A.AsName.text c.args.own.now)) (map-id c.as_slice-in-Some.result.now ∙ c.as_slice-in-Some.ensures.value))

pub returns-in-None : goal.returns-in-None
returns-in-None g c =
    refused_selected g.A.AsName.text c.args.side c.args.kind c.args.own.now c.args.peer.0.items c.refusal_with.result
    (c.in-None.ensures ∙ ap (common g.A.AsName.text c.args.side c.args.own.now) (map-id c.as_slice.result.now ∙ c.as_slice.ensures.value))
    c.refusal_with.ensures
