use Rattle.std.proofs.Common.{◌∙◌, ◌||◌, ap}
use Rattle.ssh_negotiate.specs.Causes.{was_strict}
use Rattle.ssh_kex.specs.declared.base.KexBase.{KexBase}
use Rattle.ssh_server_kex.specs.ServerViews.{server_machine}
use Rattle.ssh_kex.specs.declared.progress.KexProgress.TheVariants.{NeedsReply}
use Rattle.ssh_server_kex.specs.declared.server_kex.ServerState.TheVariants as states
use Rattle.ssh_server_kex.proofs.Drawn.{value_answered}
use Rattle.ssh_server_kex.proofs.server_kex.take_value.Goals as goal

pub returns-in-Ok-clause-ok : goal.returns-in-Ok-clause-ok
returns-in-Ok-clause-ok g c =
    record {
      exchange = c.answer_value.new.base.exchange;
      made = (c.in-Ok.made, c.in-Ok.cipher);
      answers = c.in-Ok.ensures.ok;
      done =
          c.waits.ensures
          ∙ (ap (λ (b : KexBase). NeedsReply (server_machine b.config.now b.cause c.answer_value.new.base.exchange (states.AwaitsNewkeys c.in-Ok.made c.in-Ok.cipher)) c.begins_again-is_strict.result) c.in-Ok.ensures.base
          ∙ ap (NeedsReply (server_machine c.args.base.config.now c.args.base.cause c.answer_value.new.base.exchange (states.AwaitsNewkeys c.in-Ok.made c.in-Ok.cipher)))
          (c.begins_again-is_strict.ensures ∙ ap (λ (b : KexBase). c.in-Ok.made.names.strict_kex || was_strict b.cause) c.in-Ok.ensures.base));
    }

pub returns-in-Ok-clause-drawn : goal.returns-in-Ok-clause-drawn
returns-in-Ok-clause-drawn g c =
    value_answered g.A.Agreement.server_draws _ _ _ (g.R.Rng.stream c.args.parts.now.rng) (g.R.Rng.stream c.answer_value.new.parts.rng) c.args.base.config.now _ c.args.base.cause _ c.args.names c.args.base.exchange c.answer_value.new.base.exchange c.args.payload.now c.args.output.now c.answer_value.new.output (c.in-Ok.made, c.in-Ok.cipher) c.waits.result _ c.waits.ensures c.in-Ok.ensures.ok c.in-Ok.ensures.drawn
