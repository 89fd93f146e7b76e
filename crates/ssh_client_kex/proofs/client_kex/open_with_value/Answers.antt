use Rattle.std.proofs.Common.{◌≡◌, ◌∙◌, true, ap, subst, sym}
use Rattle.ssh_wire.specs.Outside.{Rose}
use Rattle.ssh_kex.specs.Agreeing.{Agreeing}
use Rattle.ssh_client_kex.specs.ClientRows.{ClientRefusesValue}
use Rattle.ssh_kex.specs.Parts.{HasItsGroup, IsSmall, Setup}
use Rattle.ssh_kex.specs.Setting.{group_of}
use Rattle.ssh_client_kex.proofs.Drawn.{value_opened}
use Rattle.ssh_client_kex.proofs.client_kex.open_with_value.Goals as goal

pub returns-clause-err : goal.returns-clause-err
returns-clause-err g c =
    subst (λ (k : Agreeing). ClientRefusesValue (λ l v. (s : Setup) → g.A.Agreement.lawful c.args.agreement.now s → g.A.Agreement.client_makes k.name k.group l v) (λ v. (s : Setup) → g.A.Agreement.lawful c.args.agreement.now s → IsSmall v) (Rose (g.A.Agreement.refusals c.args.agreement.now) (g.A.Agreement.refusals c.send_value-sent.new.agreement) × ((s : Setup) → g.A.Agreement.obliging c.args.agreement.now c.send_value-sent.new.agreement s k.group → HasItsGroup k.name k.group → g.A.Agreement.offered c.args.agreement.now k.name ≡ true → ⊥)) c.in-Err.error)
    c.new-algorithm.ensures c.in-Err.ensures.err

pub returns-in-Ok-clause-drawn : goal.returns-in-Ok-clause-drawn
returns-in-Ok-clause-drawn g c =
    value_opened g.A.Agreement.client_draws (g.R.Rng.stream c.args.rng.now) (g.R.Rng.stream c.send_value-sent.new.rng) c.args.output.now c.send_value-sent.new.output c.waits.result c.args.base.config.now c.args.base.cause (record c.args.base.exchange { client_ephemeral = c.send_value-sent.new.client_ephemeral })
    c.args.names c.new-algorithm.result c.send_value-sent.new.algorithm c.waits.ensures (ap (λ (k : Agreeing). k.name) c.new-algorithm.ensures) (ap (λ (k : Agreeing). k.group) c.new-algorithm.ensures ∙ sym (ap group_of c.requires.none.gex)) c.in-Ok.ensures.drawn
