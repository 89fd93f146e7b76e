use Rattle.std.proofs.Common.{◌≡◌, Some, true, ap, subst}
use Rattle.ssh_wire.specs.Outside.{Rose}
use Rattle.ssh_kex.specs.Agreeing.{Agreeing}
use Rattle.ssh_client_kex.specs.ClientRows.{ClientRefusesValue}
use Rattle.ssh_kex.specs.Parts.{HasItsGroup, IsSmall, Setup}
use Rattle.ssh_client_kex.proofs.Drawn.{value_opened}
use Rattle.ssh_client_kex.proofs.client_kex.answer_group.Goals as goal

pub returns-clause-err : goal.returns-clause-err
returns-clause-err g c =
    subst (λ (k : Agreeing). ClientRefusesValue (λ l v. (s : Setup) → g.A.Agreement.lawful c.args.agreement.now s → g.A.Agreement.client_makes k.name k.group l v) (λ v. (s : Setup) → g.A.Agreement.lawful c.args.agreement.now s → IsSmall v) (Rose (g.A.Agreement.refusals c.args.agreement.now) (g.A.Agreement.refusals c.send_value-sent.new.agreement) × ((s : Setup) → g.A.Agreement.obliging c.args.agreement.now c.send_value-sent.new.agreement s k.group → HasItsGroup k.name k.group → g.A.Agreement.offered c.args.agreement.now k.name ≡ true → ⊥)) c.in-Err-sent.error)
    c.in-Ok.ensures.ok c.in-Err-sent.ensures.err

pub returns-in-Ok-sent-clause-drawn : goal.returns-in-Ok-sent-clause-drawn
returns-in-Ok-sent-clause-drawn g c =
    value_opened g.A.Agreement.client_draws (g.R.Rng.stream c.args.rng.now) (g.R.Rng.stream c.send_value-sent.new.rng) c.args.output.now c.send_value-sent.new.output c.waits.result c.args.base.config.now c.args.base.cause (record c.args.base.exchange { client_ephemeral = c.send_value-sent.new.client_ephemeral; gex = Some (record { params = c.args.base.config.now.gex; group = c.args.group }) })
    c.args.names c.in-Ok.algorithm c.send_value-sent.new.algorithm c.waits.ensures (ap (λ (k : Agreeing). k.name) c.in-Ok.ensures.ok) (ap (λ (k : Agreeing). k.group) c.in-Ok.ensures.ok) c.in-Ok-sent.ensures.drawn
