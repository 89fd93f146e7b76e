use Rattle.std.proofs.Common.{ap}
use Rattle.std.proofs.lemmas.Result.{err_from_is_err_and}
use Rattle.ssh_transport.proofs.Lemmas.{drawn_fed, drawn_taken}
use Rattle.ssh_run.specs.LinkEnds.{carried_end}
use Rattle.ssh_run.proofs.Asking.{always_err, fed_asks, kept_piece, refused_piece, refuses_bytes}
use Rattle.ssh_run.proofs.Leaving.{leaves_fed}
use Rattle.ssh_run.proofs.link_end.LinkEnd.deliver.Goals as goal

pub returns-in_err-append-clause-asked : goal.returns-in_err-append-clause-asked
returns-in_err-append-clause-asked g c = λ l. always_err c.from_residual-in_err-append.result _ (kept_piece _ (carried_end c.args.self.now) c.feed.new.self c.args.wire.now c.rest_of-waiting.result.now c.args.count c.min-count.result _ _ c.rest_of-waiting.ensures c.min-count.ensures c.in_ok-feed.ensures.fed c.in_ok-feed.ensures.serves.asks)

pub returns-clause-asks : goal.returns-clause-asks
returns-clause-asks g c = fed_asks _ c.args.self.now.transport c.feed.new.self c.take_delivered.new.self _ _ _ c.in_ok-feed.ensures.fed c.take_delivered.ensures.left c.in_ok-feed.ensures.serves.asks

pub returns-clause-leaves : goal.returns-clause-leaves
returns-clause-leaves g c = leaves_fed _ c.args.self.now.transport c.feed.new.self c.take_delivered.new.self _ _ _ _ _ c.take_delivered.ensures.left
    (drawn_taken c.args.self.now.transport c.feed.new.self c.take_delivered.new.self _ _ c.take_delivered.ensures.left (drawn_fed _ _ _ c.args.self.now.transport c.feed.new.self _ _ _ _ _ c.feed.result
    (λ f. let d = c.feed.ensures.dead f in (d.1, ap (λ p. g.R.Rng.stream p.rng) d.2)) c.feed.ensures.stays c.feed.ensures.fed c.feed.ensures.refused c.feed.ensures.drawn))
    c.in_ok-feed.ensures.fed c.in_ok-feed.ensures.serves.answers

pub returns-in_err-feed-clause-asked : goal.returns-in_err-feed-clause-asked
returns-in_err-feed-clause-asked g c = λ l. always_err c.from_residual.result _ (refused_piece _ _ _ (carried_end c.args.self.now) c.feed.new.self c.args.wire.now c.rest_of-waiting.result.now c.args.count c.min-count.result _ _ _ c.rest_of-waiting.ensures c.min-count.ensures (c.in_err-feed.ensures.refused l))

pub returns-in_err-feed-clause-refused : goal.returns-in_err-feed-clause-refused
returns-in_err-feed-clause-refused g c = λ l.
    let p = err_from_is_err_and c.from_residual.result c.from_residual.ensures.1 in
    rw (p.1, p.2) (refuses_bytes _ (carried_end c.args.self.now) c.feed.new.self c.args.wire.now c.rest_of-waiting.result.now c.args.count c.min-count.result _ _ _ c.rest_of-waiting.ensures c.min-count.ensures (c.in_err-feed.ensures.refused l))
