use Rattle.std.proofs.Common.{◌<◌, ◌^◌, length, None, refl, sym, ◌∙◌, ap, subst}
use Rattle.std.specs.Prelude.{IfSome}
use Rattle.ssh_packet.specs.declared.reader.Incoming.{Incoming}
use Rattle.ssh_server_kex.specs.ServerViews.{ServerKeeps, server_stage}
use Rattle.ssh_kex.specs.Stages.{Machine}
use Rattle.ssh_kex.specs.Stepping.{says_of}
use Rattle.ssh_kex.proofs.Lemmas.{last_answers, last_refused_if}
use Rattle.ssh_server_kex.proofs.ServerOpens.{ended, opening_progresses}
use Rattle.ssh_server_kex.proofs.ServerRefusals.{opening_refused, request_refused, value_refused}
use Rattle.ssh_server_kex.proofs.ServerSteps.{request_progresses, still_keeps, value_progresses}
use Rattle.ssh_server_kex.specs.declared.server_kex.ServerState.TheVariants as states
use Rattle.ssh_server_kex.proofs.Drawn.{dropped_draws, on_stage, still_draws}
use Rattle.ssh_server_kex.proofs.server_kex.ServerKex.step.Goals as goal

pub waits-requires : goal.waits-requires
waits-requires g c =
    subst (ServerKeeps c.self.inside.base.config.now c.self.inside.base.exchange) (sym c.behind_guess-state.ensures) (still_keeps c.self.inside.base.config.now c.self.inside.base.exchange c.self.inside.state c.self.invariant)

pub take_kexinit-requires-clause-short : goal.take_kexinit-requires-clause-short
take_kexinit-requires-clause-short g c = subst (λ o. IfSome o (λ (i : Incoming). length i.payload.now < 2 ^ 31)) c.in-Some.is c.requires

pub take_kexinit-requires-clause-fresh : goal.take_kexinit-requires-clause-fresh
take_kexinit-requires-clause-fresh g c = subst (ServerKeeps c.self.inside.base.config.now c.self.inside.base.exchange) c.in-Created.is c.self.invariant

pub take_request-requires : goal.take_request-requires
take_request-requires g c = subst (ServerKeeps c.self.inside.base.config.now c.self.inside.base.exchange) c.in-AwaitsRequest.is c.self.invariant

pub take_value-requires-clause-can : goal.take_value-requires-clause-can
take_value-requires-clause-can g c = subst (ServerKeeps c.self.inside.base.config.now c.self.inside.base.exchange) c.in-AwaitsValue.is c.self.invariant

pub take_value-requires-clause-short : goal.take_value-requires-clause-short
take_value-requires-clause-short g c = subst (λ o. IfSome o (λ (i : Incoming). length i.payload.now < 2 ^ 31)) c.in-Some.is c.requires

pub returns-in-Created-clause-goes : goal.returns-in-Created-clause-goes
returns-in-Created-clause-goes g c =
    rw (c.in-Some.is)
    (opening_progresses _ c.self.inside.base.config.now c.self.inside.base.cause c.self.inside.base.exchange c.self.inside.state c.args.self c.in-Some.incoming c.args.output.now _ c.take_kexinit.result
    c.self.view_is c.in-Created.is (subst (ServerKeeps c.self.inside.base.config.now c.self.inside.base.exchange) c.in-Created.is c.self.invariant) c.take_kexinit.ensures.ok)

pub returns-in-Created-clause-causes : goal.returns-in-Created-clause-causes
returns-in-Created-clause-causes g c =
    rw (c.in-Some.is)
    (opening_refused _ _ c.self.inside.base.config.now c.self.inside.base.cause c.self.inside.base.exchange c.self.inside.state c.args.self c.in-Some.incoming c.take_kexinit.result c.self.view_is c.in-Created.is c.take_kexinit.ensures.err)

pub returns-in-AwaitsRequest-clause-goes : goal.returns-in-AwaitsRequest-clause-goes
returns-in-AwaitsRequest-clause-goes g c =
    rw (c.in-Some.is)
    (request_progresses _ c.self.inside.base.config.now c.self.inside.base.cause c.self.inside.base.exchange c.self.inside.state c.args.self c.in-AwaitsRequest.names c.in-Some.incoming c.args.output.now _ c.take_request.result
    c.self.view_is c.in-AwaitsRequest.is (sym c.drops_guess.ensures ∙ c.if-drops_guess.false) c.take_request.ensures.ok)

pub returns-in-AwaitsRequest-clause-causes : goal.returns-in-AwaitsRequest-clause-causes
returns-in-AwaitsRequest-clause-causes g c =
    rw (c.in-Some.is)
    (request_refused _ _ c.self.inside.base.config.now c.self.inside.base.cause c.self.inside.base.exchange c.self.inside.state c.args.self c.in-AwaitsRequest.names c.in-Some.incoming c.take_request.result c.self.view_is c.in-AwaitsRequest.is (sym c.drops_guess.ensures ∙ c.if-drops_guess.false) c.take_request.ensures.causes)

pub returns-in-AwaitsValue-clause-goes : goal.returns-in-AwaitsValue-clause-goes
returns-in-AwaitsValue-clause-goes g c =
    rw (c.in-Some.is)
    (value_progresses (λ config. says_of g.A.Agreement g.H.HostKeys g.G.GroupLookup config c.args.parts.now.agreement c.args.parts.now.hosts c.args.parts.now.groups)
    c.self.inside.base.config.now c.self.inside.base.cause c.self.inside.base.exchange c.self.inside.state c.args.self c.in-AwaitsValue.names c.in-Some.incoming c.args.output.now _ c.take_value.result c.self.view_is c.in-AwaitsValue.is (sym c.drops_guess.ensures ∙ c.if-drops_guess.false) c.take_value.ensures.ok)

pub returns-in-AwaitsValue-clause-causes : goal.returns-in-AwaitsValue-clause-causes
returns-in-AwaitsValue-clause-causes g c =
    rw (c.in-Some.is)
    (value_refused _ _ c.self.inside.base.config.now c.self.inside.base.cause c.self.inside.base.exchange c.self.inside.state c.args.self c.in-AwaitsValue.names c.in-Some.incoming c.take_value.result c.self.view_is c.in-AwaitsValue.is (sym c.drops_guess.ensures ∙ c.if-drops_guess.false) c.take_value.ensures.causes)

pub returns-in-AwaitsNewkeys-clause-goes : goal.returns-in-AwaitsNewkeys-clause-goes
returns-in-AwaitsNewkeys-clause-goes g c =
    rw (c.in-Some.is)
    (ended _ c.self.inside.base.config.now c.self.inside.base.cause c.self.inside.base.exchange c.self.inside.state c.args.self c.in-AwaitsNewkeys.made c.in-AwaitsNewkeys.cipher c.in-Some.incoming c.args.output.now c.last.result
    c.self.view_is c.in-AwaitsNewkeys.is (subst (ServerKeeps c.self.inside.base.config.now c.self.inside.base.exchange) c.in-AwaitsNewkeys.is c.self.invariant) c.last.ensures)

pub returns-in-AwaitsNewkeys-clause-causes : goal.returns-in-AwaitsNewkeys-clause-causes
returns-in-AwaitsNewkeys-clause-causes g c =
    rw (c.in-Some.is)
    (last_refused_if _ _ c.args.self c.in-Some.incoming c.self.inside.base.exchange None c.in-AwaitsNewkeys.made c.in-AwaitsNewkeys.cipher c.last.result
    (ap (λ (m : Machine). m.stage) (sym c.self.view_is) ∙ ap (server_stage c.self.inside.base.exchange) c.in-AwaitsNewkeys.is)
    c.last.ensures)

pub returns-in-AwaitsNewkeys-clause-answers : goal.returns-in-AwaitsNewkeys-clause-answers
returns-in-AwaitsNewkeys-clause-answers g c = last_answers g.A.Agreement g.H.HostKeys g.G.GroupLookup _ _ _ _ _ _ _ _ c.last.result
    (ap (λ (m : Machine). m.stage) (sym c.self.view_is) ∙ ap (server_stage c.self.inside.base.exchange) c.in-AwaitsNewkeys.is)

pub returns-then-drops_guess-clause-drawn : goal.returns-then-drops_guess-clause-drawn
returns-then-drops_guess-clause-drawn g c = dropped_draws g.A.Agreement.server_draws (g.R.Rng.stream c.args.parts.now.rng) c.self.inside.base.config.now c.self.inside.base.cause c.self.inside.base.exchange c.self.inside.state _ c.args.self c.waits.result c.args.output.now c.self.view_is c.behind_guess-state.ensures c.waits.ensures

pub returns-in-Created-clause-drawn : goal.returns-in-Created-clause-drawn
returns-in-Created-clause-drawn g c = on_stage c.take_kexinit.result g.A.Agreement.server_draws (g.R.Rng.stream c.args.parts.now.rng) (g.R.Rng.stream c.take_kexinit.new.rng) c.self.inside.base.config.now c.self.inside.base.cause c.self.inside.base.exchange c.self.inside.state states.Created c.args.self c.args.output.now c.take_kexinit.new.output c.self.view_is c.in-Created.is c.take_kexinit.ensures.drawn

pub returns-in-AwaitsRequest-clause-drawn : goal.returns-in-AwaitsRequest-clause-drawn
returns-in-AwaitsRequest-clause-drawn g c = on_stage c.take_request.result g.A.Agreement.server_draws (g.R.Rng.stream c.args.parts.now.rng) (g.R.Rng.stream c.take_request.new.rng) c.self.inside.base.config.now c.self.inside.base.cause c.self.inside.base.exchange c.self.inside.state (states.AwaitsRequest c.in-AwaitsRequest.names) c.args.self c.args.output.now c.take_request.new.output c.self.view_is c.in-AwaitsRequest.is c.take_request.ensures.drawn

pub returns-in-AwaitsValue-clause-drawn : goal.returns-in-AwaitsValue-clause-drawn
returns-in-AwaitsValue-clause-drawn g c = on_stage c.take_value.result g.A.Agreement.server_draws (g.R.Rng.stream c.args.parts.now.rng) (g.R.Rng.stream c.take_value.new.parts.rng) c.self.inside.base.config.now c.self.inside.base.cause c.self.inside.base.exchange c.self.inside.state (states.AwaitsValue c.in-AwaitsValue.names) c.args.self c.args.output.now c.take_value.new.output c.self.view_is c.in-AwaitsValue.is c.take_value.ensures.drawn

pub returns-in-AwaitsNewkeys-clause-drawn : goal.returns-in-AwaitsNewkeys-clause-drawn
returns-in-AwaitsNewkeys-clause-drawn g c = still_draws c.last.result g.A.Agreement.server_draws (g.R.Rng.stream c.args.parts.now.rng) c.self.inside.base.config.now c.self.inside.base.cause c.self.inside.base.exchange c.self.inside.state (states.AwaitsNewkeys c.in-AwaitsNewkeys.made c.in-AwaitsNewkeys.cipher) c.args.self c.args.output.now c.self.view_is c.in-AwaitsNewkeys.is refl
