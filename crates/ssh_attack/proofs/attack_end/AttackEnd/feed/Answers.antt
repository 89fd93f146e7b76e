use Rattle.ssh_transport.proofs.Lemmas.{drawn_fed, drawn_taken}
use Rattle.std.proofs.Common.{ap, rules}
use Rattle.ssh_attack.proofs.Feeding.{fed_live}
use Rattle.ssh_attack.proofs.Leaving.{leaves_fed}
use Rattle.ssh_attack.proofs.attack_end.AttackEnd.feed.Goals as goal

pub returns-in_ok-append-clause-feeds : goal.returns-in_ok-append-clause-feeds
returns-in_ok-append-clause-feeds g c = λ m. fed_live _ _ _ c.feed-answer.new.self c.args.bytes.now c.feed-answer.result _ _ _ _ _ m (search rules) c.see_bytes.ensures (search rules) c.take_delivered.ensures.left (search rules) c.feed-answer.ensures.fed c.feed-answer.ensures.serves c.feed-answer.ensures.refused

pub returns-in_ok-append-clause-leaves : goal.returns-in_ok-append-clause-leaves
returns-in_ok-append-clause-leaves g c = λ m. leaves_fed _ c.args.self.now.transport c.feed-answer.new.self c.take_delivered.new.self _ _ _ _ _ _ _ _ c.feed-answer.result c.take_delivered.ensures.left
    (drawn_taken c.args.self.now.transport c.feed-answer.new.self c.take_delivered.new.self _ _ c.take_delivered.ensures.left (drawn_fed _ _ _ c.args.self.now.transport c.feed-answer.new.self _ _ _ _ _ c.feed-answer.result
    (λ f. let d = c.feed-answer.ensures.dead f in (d.1, ap (λ p. g.R.Rng.stream p.rng) d.2)) c.feed-answer.ensures.stays c.feed-answer.ensures.fed c.feed-answer.ensures.refused c.feed-answer.ensures.drawn))
    (search rules) c.feed-answer.ensures.ends c.feed-answer.ensures.fed c.feed-answer.ensures.serves
