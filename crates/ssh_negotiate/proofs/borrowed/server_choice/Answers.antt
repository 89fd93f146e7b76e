use Rattle.std.proofs.Common.{◌∙◌, sym, ap}
use Rattle.ssh_wire.specs.Naming.{parts_behind}
use Rattle.ssh_wire.specs.declared.side.Side.TheVariants.{Server}
use Rattle.ssh_negotiate.specs.Reading.{common}
use Rattle.ssh_negotiate.proofs.Selected.{server_end, server_here, server_past}
use Rattle.ssh_negotiate.proofs.borrowed.server_choice.Goals as goal

pub returns-then-is_some : goal.returns-then-is_some
returns-then-is_some g c =
    let text = g.A.AsName.text in
    let own = c.args.own.now in
    server_here text own c.first_name.result.0.now (parts_behind c.first_name.result.1) c.own_name-found.result c.own_name-found.ensures (sym c.is_some.ensures ∙ c.if-is_some.true)
    ∙ (ap (common text Server own) (sym c.first_name.ensures.parts)
    ∙ (ap (λ r. common text Server own (parts_behind r)) (sym c.in-Some.is) ∙ c.loop-rest.invariant))

pub loop-rest-preserved : goal.loop-rest-preserved
loop-rest-preserved g c =
    let text = g.A.AsName.text in
    let own = c.args.own.now in
    sym (server_past text own c.first_name.result.0.now (parts_behind c.first_name.result.1) c.own_name-found.result c.own_name-found.ensures (sym c.is_some.ensures ∙ c.if-is_some.false))
    ∙ (ap (common text Server own) (sym c.first_name.ensures.parts)
    ∙ (ap (λ r. common text Server own (parts_behind r)) (sym c.in-Some.is) ∙ c.loop-rest.invariant))

pub returns : goal.returns
returns g c =
    let text = g.A.AsName.text in
    let own = c.args.own.now in
    server_end text own ∙ (ap (λ r. common text Server own (parts_behind r)) (sym c.in_default.is) ∙ c.loop-rest.invariant)
