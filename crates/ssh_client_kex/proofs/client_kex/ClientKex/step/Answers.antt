use Rattle.std.proofs.Common.{[], ◌∷◌, refl, sym, ◌∙◌, ap, subst, ◌<◌, ◌^◌, List, ℕ, length, Some}
use Rattle.std.specs.Prelude.{IfSome}
use Rattle.ssh_packet.specs.declared.reader.Incoming.{Incoming}
use Rattle.ssh_wire.specs.declared.side.Side.TheVariants.{Client}
use Rattle.ssh_client_kex.specs.ClientViews.{client_stage, ClientHolds}
use Rattle.ssh_kex.specs.Parts.{Setup}
use Rattle.ssh_kex.specs.Stages.{Machine}
use Rattle.ssh_kex.specs.Stepping.{says_of}
use Rattle.ssh_kex.specs.Unasked.{asks_nobody}
use Rattle.ssh_client_kex.proofs.Agreed.{front_at, reply_agreed}
use Rattle.ssh_client_kex.proofs.ClientAnswers.{group_progresses, kept_group, reply_progresses, reply_refused, still_holds}
use Rattle.ssh_client_kex.proofs.ClientRefusals.{group_refused, kexinit_refused}
use Rattle.ssh_client_kex.proofs.ClientSteps.{kexinit_progresses}
use Rattle.ssh_kex.proofs.Lemmas.{last_answers, last_done, last_refused_if}
use Rattle.ssh_kex.specs.Messages.{newkeys}
use Rattle.ssh_kex.proofs.Lemmas.{draws_sent}
use Rattle.ssh_client_kex.specs.declared.client_kex.ClientState.TheVariants as states
use Rattle.ssh_client_kex.proofs.Drawn.{dropped_draws, on_stage, still_draws}
use Rattle.ssh_client_kex.proofs.client_kex.ClientKex.step.Goals as goal

pub waits-requires : goal.waits-requires
waits-requires g c =
    subst (ClientHolds c.self.inside.base.config.now c.self.inside.base.exchange) (sym c.behind_guess-state.ensures) (still_holds c.self.inside.base.config.now c.self.inside.base.exchange c.self.inside.state c.self.invariant)

pub take_kexinit-requires-clause-short : goal.take_kexinit-requires-clause-short
take_kexinit-requires-clause-short g c = subst (λ o. IfSome o (λ (i : Incoming). length i.payload.now < 2 ^ 31)) c.in-Some.is c.requires

pub take_kexinit-requires-clause-sides : goal.take_kexinit-requires-clause-sides
take_kexinit-requires-clause-sides g c = (subst (ClientHolds c.self.inside.base.config.now c.self.inside.base.exchange) c.in-Created.is c.self.invariant).1

pub take_kexinit-requires-clause-none : goal.take_kexinit-requires-clause-none
take_kexinit-requires-clause-none g c = (subst (ClientHolds c.self.inside.base.config.now c.self.inside.base.exchange) c.in-Created.is c.self.invariant).2

pub take_group-requires-clause-short : goal.take_group-requires-clause-short
take_group-requires-clause-short g c = subst (λ o. IfSome o (λ (i : Incoming). length i.payload.now < 2 ^ 31)) c.in-Some.is c.requires

pub take_group-requires-clause-sides : goal.take_group-requires-clause-sides
take_group-requires-clause-sides g c = (subst (ClientHolds c.self.inside.base.config.now c.self.inside.base.exchange) c.in-AwaitsGroup.is c.self.invariant).0

pub take_group-requires-clause-exchanges : goal.take_group-requires-clause-exchanges
take_group-requires-clause-exchanges g c = (subst (ClientHolds c.self.inside.base.config.now c.self.inside.base.exchange) c.in-AwaitsGroup.is c.self.invariant).1

pub take_group-requires-clause-gex : goal.take_group-requires-clause-gex
take_group-requires-clause-gex g c = (subst (ClientHolds c.self.inside.base.config.now c.self.inside.base.exchange) c.in-AwaitsGroup.is c.self.invariant).2

pub take_reply-requires-clause-short : goal.take_reply-requires-clause-short
take_reply-requires-clause-short g c = subst (λ o. IfSome o (λ (i : Incoming). length i.payload.now < 2 ^ 31)) c.in-Some.is c.requires

pub take_reply-requires-clause-sides : goal.take_reply-requires-clause-sides
take_reply-requires-clause-sides g c = (subst (ClientHolds c.self.inside.base.config.now c.self.inside.base.exchange) c.in-AwaitsReply.is c.self.invariant).0

pub take_reply-requires-clause-value : goal.take_reply-requires-clause-value
take_reply-requires-clause-value g c = (subst (ClientHolds c.self.inside.base.config.now c.self.inside.base.exchange) c.in-AwaitsReply.is c.self.invariant).1

pub returns-in-Created-clause-goes : goal.returns-in-Created-clause-goes
returns-in-Created-clause-goes g c =
    rw (c.in-Some.is)
    (kexinit_progresses _ _ _ _ _ _ c.in-Some.incoming _ _ _ c.self.view_is c.in-Created.is
    ((subst (ClientHolds c.self.inside.base.config.now c.self.inside.base.exchange) c.in-Created.is c.self.invariant).2) c.take_kexinit.ensures.ok)

pub returns-in-Created-clause-causes : goal.returns-in-Created-clause-causes
returns-in-Created-clause-causes g c =
    rw (c.in-Some.is) (kexinit_refused _ _ _ _ _ _ _ c.in-Some.incoming _ c.self.view_is c.in-Created.is c.take_kexinit.ensures.err)

pub returns-in-AwaitsGroup-clause-goes : goal.returns-in-AwaitsGroup-clause-goes
returns-in-AwaitsGroup-clause-goes g c =
    rw (c.in-Some.is)
    (group_progresses _ _ _ _ c.in-AwaitsGroup.names _ _ c.in-Some.incoming _ _ _ c.self.view_is c.in-AwaitsGroup.is (sym c.drops_guess.ensures ∙ c.if-drops_guess.false)
    ((subst (ClientHolds c.self.inside.base.config.now c.self.inside.base.exchange) c.in-AwaitsGroup.is c.self.invariant).2) c.take_group.ensures.ok)

pub returns-in-AwaitsGroup-clause-causes : goal.returns-in-AwaitsGroup-clause-causes
returns-in-AwaitsGroup-clause-causes g c =
    rw (c.in-Some.is) (group_refused _ _ _ _ _ c.in-AwaitsGroup.names _ _ c.in-Some.incoming _ c.self.view_is c.in-AwaitsGroup.is (kept_group c.in-AwaitsGroup.names _ c.in-AwaitsGroup.is (sym c.drops_guess.ensures ∙ c.if-drops_guess.false)) c.take_group.ensures.err)

pub returns-in-AwaitsReply-clause-goes : goal.returns-in-AwaitsReply-clause-goes
returns-in-AwaitsReply-clause-goes g c =
    rw (c.in-Some.is)
    (reply_progresses _ (λ k q l v z. (s : Setup) (public : List ℕ) → g.A.Agreement.lawful c.args.parts.now.agreement s → g.A.Agreement.client_makes k q l public → g.A.Agreement.agrees k q public v z)
    (λ k q l v z public h cm s law. h s public law (cm s law))
    _ _ _ c.in-AwaitsReply.names c.in-AwaitsReply.algorithm _ _ c.in-Some.incoming _ _ _ c.self.view_is c.in-AwaitsReply.is (sym c.drops_guess.ensures ∙ c.if-drops_guess.false)
    (subst (λ o. IfSome o (λ (i : Incoming). length i.payload.now < 2 ^ 31)) c.in-Some.is c.requires)
    ((subst (ClientHolds c.self.inside.base.config.now c.self.inside.base.exchange) c.in-AwaitsReply.is c.self.invariant).1) c.take_reply.ensures.ok)

pub returns-in-AwaitsReply-clause-causes : goal.returns-in-AwaitsReply-clause-causes
returns-in-AwaitsReply-clause-causes g c =
    rw (c.in-Some.is)
    (reply_refused _ _ (λ k q l v z. (s : Setup) (public : List ℕ) → g.A.Agreement.lawful c.args.parts.now.agreement s → g.A.Agreement.client_makes k q l public → g.A.Agreement.agrees k q public v z)
    (λ k q l v z public h cm s law. h s public law (cm s law))
    _ _ _ c.in-AwaitsReply.names c.in-AwaitsReply.algorithm _ _ c.in-Some.incoming _ c.self.view_is c.in-AwaitsReply.is (sym c.drops_guess.ensures ∙ c.if-drops_guess.false)
    ((subst (ClientHolds c.self.inside.base.config.now c.self.inside.base.exchange) c.in-AwaitsReply.is c.self.invariant).1) c.take_reply.ensures.err)

pub returns-in-AwaitsNewkeys-clause-goes : goal.returns-in-AwaitsNewkeys-clause-goes
returns-in-AwaitsNewkeys-clause-goes g c =
    rw (c.in-Some.is)
    (last_done _ Client c.args.self c.in-Some.incoming _ c.self.inside.base.exchange (Some c.in-AwaitsNewkeys.host) c.in-AwaitsNewkeys.made c.in-AwaitsNewkeys.cipher c.last.result
    (ap (λ (m : Machine). m.stage) (sym c.self.view_is) ∙ ap (client_stage c.self.inside.base.exchange) c.in-AwaitsNewkeys.is)
    (ap (λ (m : Machine). m.setting.side) (sym c.self.view_is))
    (subst (ClientHolds c.self.inside.base.config.now c.self.inside.base.exchange) c.in-AwaitsNewkeys.is c.self.invariant)
    c.last.ensures)

pub returns-in-AwaitsNewkeys-clause-causes : goal.returns-in-AwaitsNewkeys-clause-causes
returns-in-AwaitsNewkeys-clause-causes g c =
    rw (c.in-Some.is)
    (last_refused_if _ _ c.args.self c.in-Some.incoming c.self.inside.base.exchange (Some c.in-AwaitsNewkeys.host) c.in-AwaitsNewkeys.made c.in-AwaitsNewkeys.cipher c.last.result
    (ap (λ (m : Machine). m.stage) (sym c.self.view_is) ∙ ap (client_stage c.self.inside.base.exchange) c.in-AwaitsNewkeys.is)
    c.last.ensures)

pub returns-in-Created-clause-unasked_agreement : goal.returns-in-Created-clause-unasked_agreement
returns-in-Created-clause-unasked_agreement g c =
    rw (c.in-Some.is)
    (λ e. c.take_kexinit.ensures.unasked (ap (λ b. asks_nobody b c.take_kexinit.result) (sym (front_at _ _ _ _ _ _ c.in-Some.incoming c.self.view_is c.in-Created.is)) ∙ e))

pub returns-in-AwaitsGroup-clause-unasked_agreement : goal.returns-in-AwaitsGroup-clause-unasked_agreement
returns-in-AwaitsGroup-clause-unasked_agreement g c =
    rw (c.in-Some.is)
    (λ e. c.take_group.ensures.unasked (ap (λ b. asks_nobody b c.take_group.result) (sym (front_at _ _ _ _ _ _ c.in-Some.incoming c.self.view_is c.in-AwaitsGroup.is)) ∙ e))

pub returns-in-AwaitsReply-clause-unasked_agreement : goal.returns-in-AwaitsReply-clause-unasked_agreement
returns-in-AwaitsReply-clause-unasked_agreement g c =
    rw (c.in-Some.is)
    (λ e. c.take_reply.ensures.unasked_agreement (ap (λ b. asks_nobody b c.take_reply.result) (sym (front_at _ _ _ _ _ _ c.in-Some.incoming c.self.view_is c.in-AwaitsReply.is)) ∙ e))

pub returns-in-AwaitsReply-clause-agreed : goal.returns-in-AwaitsReply-clause-agreed
returns-in-AwaitsReply-clause-agreed g c =
    rw (c.in-Some.is)
    (reply_agreed
    (says_of g.A.Agreement g.H.HostKeys g.G.GroupLookup c.args.self.setting.config c.args.parts.now.agreement c.args.parts.now.hosts c.args.parts.now.groups)
    (λ k q l v z. (s : Setup) (public : List ℕ) → g.A.Agreement.lawful c.args.parts.now.agreement s → g.A.Agreement.client_makes k q l public → g.A.Agreement.agrees k q public v z)
    (λ k q l v z public h cm s law. h s public law (cm s law))
    _ _ _ c.in-AwaitsReply.names c.in-AwaitsReply.algorithm _ _ c.in-Some.incoming c.take_reply.result c.self.view_is c.in-AwaitsReply.is
    ((subst (ClientHolds c.self.inside.base.config.now c.self.inside.base.exchange) c.in-AwaitsReply.is c.self.invariant).1) c.take_reply.ensures.agreed)

pub returns-in-AwaitsNewkeys-clause-answers : goal.returns-in-AwaitsNewkeys-clause-answers
returns-in-AwaitsNewkeys-clause-answers g c = last_answers g.A.Agreement g.H.HostKeys g.G.GroupLookup _ _ _ _ _ _ _ _ c.last.result
    (ap (λ (m : Machine). m.stage) (sym c.self.view_is) ∙ ap (client_stage c.self.inside.base.exchange) c.in-AwaitsNewkeys.is)

pub returns-then-drops_guess-clause-drawn : goal.returns-then-drops_guess-clause-drawn
returns-then-drops_guess-clause-drawn g c = dropped_draws g.A.Agreement.client_draws (g.R.Rng.stream c.args.parts.now.rng) c.self.inside.base.config.now c.self.inside.base.cause c.self.inside.base.exchange c.self.inside.state _ c.args.self c.waits.result c.args.output.now c.self.view_is c.behind_guess-state.ensures c.waits.ensures

pub returns-in-Created-clause-drawn : goal.returns-in-Created-clause-drawn
returns-in-Created-clause-drawn g c = on_stage c.take_kexinit.result g.A.Agreement.client_draws (g.R.Rng.stream c.args.parts.now.rng) (g.R.Rng.stream c.take_kexinit.new.rng) c.self.inside.base.config.now c.self.inside.base.cause c.self.inside.base.exchange c.self.inside.state states.Created c.args.self c.args.output.now c.take_kexinit.new.output c.self.view_is c.in-Created.is c.take_kexinit.ensures.drawn

pub returns-in-AwaitsGroup-clause-drawn : goal.returns-in-AwaitsGroup-clause-drawn
returns-in-AwaitsGroup-clause-drawn g c = on_stage c.take_group.result g.A.Agreement.client_draws (g.R.Rng.stream c.args.parts.now.rng) (g.R.Rng.stream c.take_group.new.rng) c.self.inside.base.config.now c.self.inside.base.cause c.self.inside.base.exchange c.self.inside.state (states.AwaitsGroup c.in-AwaitsGroup.names) c.args.self c.args.output.now c.take_group.new.output c.self.view_is c.in-AwaitsGroup.is c.take_group.ensures.drawn

pub returns-in-AwaitsReply-clause-drawn : goal.returns-in-AwaitsReply-clause-drawn
returns-in-AwaitsReply-clause-drawn g c = on_stage c.take_reply.result g.A.Agreement.client_draws (g.R.Rng.stream c.args.parts.now.rng) (g.R.Rng.stream c.take_reply.new.parts.rng) c.self.inside.base.config.now c.self.inside.base.cause c.self.inside.base.exchange c.self.inside.state (states.AwaitsReply c.in-AwaitsReply.names c.in-AwaitsReply.algorithm) c.args.self c.args.output.now c.take_reply.new.output c.self.view_is c.in-AwaitsReply.is (draws_sent c.take_reply.result _ (g.R.Rng.stream c.args.parts.now.rng) (newkeys ∷ []) c.args.output.now c.take_reply.new.output (g.R.Rng.stream c.take_reply.new.parts.rng) refl c.take_reply.ensures.drawn)

pub returns-in-AwaitsNewkeys-clause-drawn : goal.returns-in-AwaitsNewkeys-clause-drawn
returns-in-AwaitsNewkeys-clause-drawn g c = still_draws c.last.result g.A.Agreement.client_draws (g.R.Rng.stream c.args.parts.now.rng) c.self.inside.base.config.now c.self.inside.base.cause c.self.inside.base.exchange c.self.inside.state (states.AwaitsNewkeys c.in-AwaitsNewkeys.host c.in-AwaitsNewkeys.made c.in-AwaitsNewkeys.cipher) c.args.self c.args.output.now c.self.view_is c.in-AwaitsNewkeys.is refl
