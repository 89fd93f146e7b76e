use Rattle.std.proofs.Common.{subst, sym}
use Rattle.std.specs.Prelude.{IfSome}
use Rattle.ssh_kex.specs.declared.config.Config.{Config}
use Rattle.ssh_record.specs.Exchanges.{BlocksHold}
use Rattle.ssh_blocks.specs.Blocks.{AreShort, exchange_in}
use Rattle.ssh_blocks.specs.declared.values.BlockValues.{BlockValues}
use Rattle.ssh_blocks.proofs.values.values_of.Goals as goal

pub returns-then-kind-clause-held : goal.returns-then-kind-clause-held
returns-then-kind-clause-held c =
    subst (λ k. IfSome c.group_values.result (λ (v : BlockValues). (a s : Config) → AreShort c.args.client.now → AreShort c.args.server.now → BlocksHold a s k c.args.client.now c.args.server.now (exchange_in a s v) v.reply.host.now))
    (sym c.if-kind.true) c.group_values.ensures.held

pub returns-then-kind-clause-none : goal.returns-then-kind-clause-none
returns-then-kind-clause-none c = λ e a s x host h.
    c.group_values.ensures.none e a s x host (subst (λ k. BlocksHold a s k c.args.client.now c.args.server.now x host) c.if-kind.true h)

pub returns-else-kind-clause-none : goal.returns-else-kind-clause-none
returns-else-kind-clause-none c = λ e a s x host h.
    c.plain_values.ensures.none e a s x host (subst (λ k. BlocksHold a s k c.args.client.now c.args.server.now x host) c.if-kind.false h)
