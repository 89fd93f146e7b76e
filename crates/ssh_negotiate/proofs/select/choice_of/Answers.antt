use Rattle.std.proofs.Common.{◌∙◌, sym, ap, map}
use Rattle.ssh_negotiate.specs.Reading.{common}
use Rattle.ssh_negotiate.proofs.Choices as choices
use Rattle.ssh_negotiate.proofs.select.choice_of.Goals as goal

pub returns-in-Client : goal.returns-in-Client
returns-in-Client g c =
    c.client_choice.ensures ∙ (sym (choices.client_common g.A.AsName.text g.B.AsName.text c.args.a.now c.args.b.now)
    ∙ ap (λ s. common g.A.AsName.text s c.args.a.now (map g.B.AsName.text c.args.b.now)) (sym c.in-Client.is))
