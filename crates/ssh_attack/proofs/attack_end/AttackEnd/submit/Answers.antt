use Rattle.std.proofs.Common.{ap}
use Rattle.ssh_transport.proofs.Lemmas.{drawn_submitted, on_refusal, tests_same}
use Rattle.ssh_attack.proofs.Leaving.{leaves_submitted}
use Rattle.ssh_attack.proofs.attack_end.AttackEnd.submit.Goals as goal

pub returns-clause-leaves : goal.returns-clause-leaves
returns-clause-leaves g c = λ m. leaves_submitted _ c.args.self.now.transport c.submit.new.self c.args.payload.now _ _ _ _ c.submit.result m
    (drawn_submitted _ c.args.self.now.transport c.submit.new.self c.args.payload.now _ _ c.submit.result m
    (λ f. let d = c.submit.ensures.dead f in (d.1, ap (λ p. g.R.Rng.stream p.rng) d.2)) (λ f b. let d = c.submit.ensures.size f b in (d.1, ap (λ p. g.R.Rng.stream p.rng) d.2)) (λ f b k. let d = c.submit.ensures.inconsistent f b k in (d.1, ap (λ p. g.R.Rng.stream p.rng) d.2))
    c.submit.ensures.sent (λ o. let h = c.submit.ensures.held o in (ap (λ p. g.R.Rng.stream p.rng) h.0, h.1.1)) (λ f k. on_refusal c.submit.result _ _ (λ h. h.0) (c.submit.ensures.memory f k)))
    (tests_same g.A.Agreement g.H.HostKeys g.G.GroupLookup _ _ _ _ _ _ c.submit.ensures.parts.0 c.submit.ensures.parts.1 c.submit.ensures.parts.2) (λ f. (c.submit.ensures.dead f).1) (λ f b. (c.submit.ensures.size f b).1) (λ f b k. (c.submit.ensures.inconsistent f b k).1)
    c.submit.ensures.sent (λ f k. on_refusal c.submit.result _ _ (λ h. h.0) (c.submit.ensures.memory f k))
