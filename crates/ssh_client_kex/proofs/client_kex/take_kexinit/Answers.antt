use Rattle.std.proofs.Common.{[], ◌∷◌, refl}
use Rattle.ssh_client_kex.proofs.Answered.{asked_group, ended_once}
use Rattle.ssh_kex.specs.Messages.{request_message}
use Rattle.ssh_kex.specs.Stepping.{Puts}
use Rattle.ssh_client_kex.proofs.Drawn.{asked_draws, ended_draws}
use Rattle.ssh_client_kex.proofs.client_kex.take_kexinit.Goals as goal

pub returns-then-skip_exchange-clause-answers : goal.returns-then-skip_exchange-clause-answers
returns-then-skip_exchange-clause-answers g c = ended_once g.A.Agreement.answered _ _ _ _ _ _ c.end_at_once.result c.end_at_once.ensures.ok

pub returns-then-is_dh_gex-clause-answers : goal.returns-then-is_dh_gex-clause-answers
returns-then-is_dh_gex-clause-answers g c = asked_group g.A.Agreement.answered _ _ _ c.ask_group.result refl c.ask_group.ensures.ok

pub returns-then-skip_exchange-clause-drawn : goal.returns-then-skip_exchange-clause-drawn
returns-then-skip_exchange-clause-drawn g c = ended_draws g.A.Agreement.client_draws (g.R.Rng.stream c.args.rng.now) (g.R.Rng.stream c.end_at_once.new.rng) _ _ _ c.args.output.now c.end_at_once.new.output c.end_at_once.result c.end_at_once.ensures.ok c.end_at_once.ensures.drawn

pub returns-then-is_dh_gex-clause-drawn : goal.returns-then-is_dh_gex-clause-drawn
returns-then-is_dh_gex-clause-drawn g c = asked_draws g.A.Agreement.client_draws (g.R.Rng.stream c.args.rng.now) (g.R.Rng.stream c.ask_group.new.rng) (request_message c.args.base.config.now.gex ∷ []) c.args.output.now c.ask_group.new.output _ (λ p. Puts c.args.output.now (request_message c.args.base.config.now.gex) c.ask_group.new.output) c.ask_group.result refl c.ask_group.ensures.ok c.ask_group.ensures.drawn
