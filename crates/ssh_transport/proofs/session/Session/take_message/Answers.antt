use Rattle.std.proofs.Common.{refl}
use Rattle.std.proofs.lemmas.Result.{err_from_is_err_and}
use Rattle.ssh_transport.specs.Calls.{call_of}
use Rattle.ssh_transport.proofs.Treating.{message_treated, none_treated, passed_on}
use Rattle.ssh_transport.proofs.session.Session.take_message.Goals as goal

pub returns : goal.returns
returns g c = message_treated (call_of g.A.Agreement g.H.HostKeys g.G.GroupLookup g.R.Rng
    (record c.args.parts.now { rng = c.take_kex.new.rng }) c.step.new.parts) (g.R.Rng.stream c.args.parts.now.rng)
    c.args.self.now c.take_kex.new.self c.step.new.self c.in_ok-kex.kex c.args.incoming c.args.message_type
    c.args.opening.now c.step.new.opening c.step.result
    c.requires.can c.requires.kind c.requires.kex c.requires.passes c.in_ok-kex.ensures.kexinit
    c.in_ok-kex.ensures.taken c.take_kex.ensures.stays c.in_ok-kex.ensures.wrote
    c.step.ensures.stays c.step.ensures.keeps c.step.ensures.unheard c.step.ensures.asks c.step.ensures.asked
    c.step.ensures.moves c.step.ensures.key_is c.step.ensures.refuses c.step.ensures.appends

pub returns-in_err-kex : goal.returns-in_err-kex
returns-in_err-kex g c =
    let p = err_from_is_err_and c.from_residual.result c.from_residual.ensures.1 in
    passed_on _ c.args.self.now c.take_kex.new.self c.args.incoming c.args.opening.now c.args.opening.now
    c.from_residual.result p.0 c.in_err-kex.field-0.0
    p.1 p.2
    (none_treated g.A.Agreement g.H.HostKeys g.G.GroupLookup g.R.Rng c.args.parts.now
    (record c.args.parts.now { rng = c.take_kex.new.rng }) c.args.self.now c.take_kex.new.self c.args.incoming
    c.args.opening.now c.args.message_type c.in_err-kex.field-0.0 (refl, refl, refl)
    c.requires.can c.requires.kind c.requires.kex c.requires.passes c.take_kex.ensures.stays c.in_err-kex.ensures.rests
    c.in_err-kex.ensures.refused)
