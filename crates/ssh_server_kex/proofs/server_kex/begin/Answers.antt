use Rattle.std.proofs.Common.{◌≡◌, ◌∙◌, [], ◌∷◌, ap, refl, subst, sym}
use Rattle.rand_core.specs.Stream.{Stream}
use Rattle.ssh_negotiate.specs.Tables.{shape_of}
use Rattle.ssh_kex.specs.Agreeing.{Agreeing}
use Rattle.ssh_kex.specs.Messages.{is_gex, newkeys}
use Rattle.ssh_server_kex.specs.ServerViews.{CanBegin}
use Rattle.ssh_server_kex.proofs.ServerOpens.{begins_end, begins_request, begins_value}
use Rattle.ssh_kex.proofs.Lemmas.{draws_none, draws_sent}
use Rattle.ssh_server_kex.proofs.server_kex.begin.Goals as goal

pub returns-then-skip_exchange-clause-ok : goal.returns-then-skip_exchange-clause-ok
returns-then-skip_exchange-clause-ok g c =
    begins_end _ _ _ _ _ _ _ _ c.end_at_once.result
    (ap (λ (z : Agreeing). (shape_of z.name).skip) (sym c.new-algorithm.ensures) ∙ sym c.skip_exchange.ensures ∙ c.if-skip_exchange.true) c.end_at_once.ensures.ok

pub waits-requires : goal.waits-requires
waits-requires g c =
    subst (λ b. CanBegin b c.args.base.config.now c.args.names c.args.base.exchange)
    (ap (λ (z : Agreeing). is_gex z.name) (sym c.new-algorithm.ensures) ∙ sym c.is_dh_gex.ensures ∙ c.if-is_dh_gex.true)
    (c.requires (ap (λ (z : Agreeing). (shape_of z.name).skip) (sym c.new-algorithm.ensures) ∙ sym c.skip_exchange.ensures ∙ c.if-skip_exchange.false))

pub waits-requires-2 : goal.waits-requires-2
waits-requires-2 g c =
    subst (λ b. CanBegin b c.args.base.config.now c.args.names c.args.base.exchange)
    (ap (λ (z : Agreeing). is_gex z.name) (sym c.new-algorithm.ensures) ∙ sym c.is_dh_gex.ensures ∙ c.if-is_dh_gex.false)
    (c.requires (ap (λ (z : Agreeing). (shape_of z.name).skip) (sym c.new-algorithm.ensures) ∙ sym c.skip_exchange.ensures ∙ c.if-skip_exchange.false))

pub returns-then-is_dh_gex-clause-ok : goal.returns-then-is_dh_gex-clause-ok
returns-then-is_dh_gex-clause-ok g c =
    rw (c.waits.ensures) (begins_request _ _ _ _ _ _ _
    (ap (λ (z : Agreeing). (shape_of z.name).skip) (sym c.new-algorithm.ensures) ∙ sym c.skip_exchange.ensures ∙ c.if-skip_exchange.false)
    (ap (λ (z : Agreeing). is_gex z.name) (sym c.new-algorithm.ensures) ∙ sym c.is_dh_gex.ensures ∙ c.if-is_dh_gex.true))

pub returns-clause-ok : goal.returns-clause-ok
returns-clause-ok g c =
    rw (c.waits-2.ensures) (begins_value _ _ _ _ _ _ _
    (ap (λ (z : Agreeing). (shape_of z.name).skip) (sym c.new-algorithm.ensures) ∙ sym c.skip_exchange.ensures ∙ c.if-skip_exchange.false)
    (ap (λ (z : Agreeing). is_gex z.name) (sym c.new-algorithm.ensures) ∙ sym c.is_dh_gex.ensures ∙ c.if-is_dh_gex.false))

pub returns-then-skip_exchange-clause-drawn : goal.returns-then-skip_exchange-clause-drawn
returns-then-skip_exchange-clause-drawn g c = draws_sent c.end_at_once.result (λ (behind : Stream). behind ≡ g.R.Rng.stream c.args.rng.now) (g.R.Rng.stream c.args.rng.now) (newkeys ∷ []) c.args.output.now c.end_at_once.new.output (g.R.Rng.stream c.end_at_once.new.rng) refl c.end_at_once.ensures.drawn

pub returns-then-is_dh_gex-clause-drawn : goal.returns-then-is_dh_gex-clause-drawn
returns-then-is_dh_gex-clause-drawn g c = draws_none (λ (behind : Stream). behind ≡ g.R.Rng.stream c.args.rng.now) (g.R.Rng.stream c.args.rng.now) c.args.output.now c.args.output.now (g.R.Rng.stream c.args.rng.now) refl refl refl

pub returns-clause-drawn : goal.returns-clause-drawn
returns-clause-drawn g c = draws_none (λ (behind : Stream). behind ≡ g.R.Rng.stream c.args.rng.now) (g.R.Rng.stream c.args.rng.now) c.args.output.now c.args.output.now (g.R.Rng.stream c.args.rng.now) refl refl refl
