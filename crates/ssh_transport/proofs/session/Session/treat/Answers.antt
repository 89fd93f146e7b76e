use Rattle.std.proofs.Common.{refl, sym, ◌∙◌}
use Rattle.std.proofs.lemmas.Result.{err_from_is_err_and}
use Rattle.ssh_transport.proofs.Handling.{handles_delivered, handles_idle}
use Rattle.ssh_transport.proofs.Refusing.{refuses_order, refuses_place}
use Rattle.ssh_transport.proofs.Saying.{and_first, and_last}
use Rattle.ssh_transport.proofs.Treating.{passed_on, refused_still, taken_still}
use Rattle.ssh_transport.proofs.session.Session.treat.Goals as goal

pub returns-then-is_idle : goal.returns-then-is_idle
returns-then-is_idle g c = taken_still g.A.Agreement g.H.HostKeys g.G.GroupLookup g.R.Rng c.args.parts.now
    c.args.self.now c.args.incoming c.args.opening.now _ c.requires refl
    (handles_idle _ c.args.self.now c.args.self.now c.args.incoming.seqn c.type_of-message_type.result
    c.args.incoming.payload.now c.requires.begun c.type_of-message_type.ensures
    (sym c.is_idle.ensures ∙ c.if-is_idle.true) c.in_ok-check_order.ensures.passes refl)

pub returns-then-delivers : goal.returns-then-delivers
returns-then-delivers g c =
    let d = sym c.delivers.ensures ∙ c.if-delivers.true in
    taken_still g.A.Agreement g.H.HostKeys g.G.GroupLookup g.R.Rng c.args.parts.now c.args.self.now c.args.incoming
    c.args.opening.now _ c.requires refl
    (handles_delivered _ c.args.self.now c.args.self.now c.args.incoming.seqn c.type_of-message_type.result
    c.args.incoming.payload.now _ c.type_of-message_type.ensures (and_first _ _ d) refl (and_last _ _ d) refl)

pub returns-in_err-check_order : goal.returns-in_err-check_order
returns-in_err-check_order g c =
    let p = err_from_is_err_and c.from_residual.result c.from_residual.ensures.1 in
    passed_on _ c.args.self.now c.args.self.now c.args.incoming c.args.opening.now c.args.opening.now
    c.from_residual.result p.0
    c.in_err-check_order.field-0.0 p.1 p.2
    (refused_still g.A.Agreement g.H.HostKeys g.G.GroupLookup g.R.Rng c.args.parts.now c.args.self.now c.args.incoming
    c.args.opening.now c.in_err-check_order.field-0.0 c.requires
    (refuses_order _ _ _ c.args.self.now c.args.incoming.seqn c.type_of-message_type.result c.args.incoming.payload.now
    c.in_err-check_order.field-0.0 c.type_of-message_type.ensures c.if-message_type-eq-DISCONNECT.false
    c.in_err-check_order.ensures.breaks))

pub returns : goal.returns
returns g c = refused_still g.A.Agreement g.H.HostKeys g.G.GroupLookup g.R.Rng c.args.parts.now c.args.self.now
    c.args.incoming c.args.opening.now _ c.requires
    (refuses_place _ _ _ c.args.self.now c.args.incoming.seqn c.type_of-message_type.result c.args.incoming.payload.now
    c.type_of-message_type.ensures c.if-message_type-eq-DISCONNECT.false c.in_ok-check_order.ensures.passes
    (sym c.is_idle.ensures ∙ c.if-is_idle.false) (sym c.is_kex_msg.ensures ∙ c.if-is_kex_msg.false)
    (sym c.delivers.ensures ∙ c.if-delivers.false))
