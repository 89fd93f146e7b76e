use Rattle.std.proofs.Common.{Bool, Err, Ok, ap, ◌∙◌}
use Rattle.ssh_wire.specs.declared.error.Error.{Error}
use Rattle.std.proofs.lemmas.Result.{err_from_is_err_and}
use Rattle.ssh_transport.proofs.KeptInput.{heard_taken, line_refused, unheard_taken}
use Rattle.ssh_transport.proofs.connection.Connection.take_kept.Goals as goal

pub read_on-requires : goal.read_on-requires
read_on-requires g c = record {
  live = c.in_ok-is_heard.ensures.live;
  heard = c.hear.ensures.whole
      (c.in_ok-is_heard.was ∙ ap (λ (b : Bool). Ok b) c.if-is_heard.true);
}

pub returns-then-is_heard : goal.returns-then-is_heard
returns-then-is_heard g c = heard_taken g.A.Agreement g.H.HostKeys g.G.GroupLookup g.R.Rng c.args.parts.now
    c.hear.new.rng c.read_on.new.parts c.args.queues c.args.self.now c.hear.new.self c.read_on.new.self c.read_on.result
    c.requires c.in_ok-is_heard.ensures.heard
    (c.hear.ensures.whole (c.in_ok-is_heard.was ∙ ap (λ (b : Bool). Ok b) c.if-is_heard.true)) c.hear.ensures.unqueued
    c.hear.ensures.fixed
    (c.hear.ensures.drawn (c.in_ok-is_heard.was ∙ ap (λ (b : Bool). Ok b) c.if-is_heard.true))
    c.in_ok-is_heard.ensures.wrote c.in_ok-is_heard.ensures.shorter c.read_on.ensures

pub returns : goal.returns
returns g c =
    let off = c.in_ok-is_heard.was ∙ ap (λ (b : Bool). Ok b) c.if-is_heard.false in
    unheard_taken g.A.Agreement g.H.HostKeys g.G.GroupLookup g.R.Rng c.args.parts.now c.hear.new.rng c.args.queues
    c.args.self.now c.hear.new.self c.in_ok-is_heard.ensures.live c.in_ok-is_heard.ensures.heard
    (c.hear.ensures.part off).0 (c.hear.ensures.part off).1 c.hear.ensures.unqueued c.hear.ensures.fixed
    (c.hear.ensures.awaits off).0 (c.hear.ensures.awaits off).1 c.in_ok-is_heard.ensures.wrote

pub returns-in_err-is_heard : goal.returns-in_err-is_heard
returns-in_err-is_heard g c =
    let p = err_from_is_err_and c.from_residual.result c.from_residual.ensures.1 in
    line_refused g.A.Agreement g.H.HostKeys g.G.GroupLookup g.R.Rng c.args.parts.now c.hear.new.rng c.args.queues
    c.args.self.now c.hear.new.self c.from_residual.result p.0 c.in_err-is_heard.field-0.0 p.1 p.2 c.requires.live
    c.hear.ensures.begins c.hear.ensures.fixed
    c.in_err-is_heard.ensures.fails (λ m. c.hear.ensures.ended (c.in_err-is_heard.was ∙ ap (λ (x : Error). Err x) m))
