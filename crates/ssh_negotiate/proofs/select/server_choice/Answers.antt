use Rattle.std.proofs.Common.{◌∙◌, ap}
use Rattle.std.specs.Str.{bytes_eq}
use Rattle.std.specs.Prelude.{find}
use Rattle.ssh_negotiate.proofs.Selected.{server_found, server_none}
use Rattle.ssh_negotiate.proofs.select.server_choice.Goals as goal

pub returns-in-Some : goal.returns-in-Some
returns-in-Some g c = server_found g.A.AsName.text g.B.AsName.text c.args.a.now c.args.b.now c.in-Some.y.now c.own_name.result c.in-Some.ensures (c.own_name.ensures ∙ ap (λ t. find (λ a. bytes_eq t (g.A.AsName.text a)) c.args.a.now) c.as_name.ensures)

pub returns-in-None : goal.returns-in-None
returns-in-None g c = server_none g.A.AsName.text g.B.AsName.text c.args.a.now c.args.b.now c.in-None.ensures
