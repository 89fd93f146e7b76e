use Rattle.std.proofs.Common.{ap}
use Rattle.ssh_transport.proofs.Lemmas.{drawn_rekeyed, on_refusal, tests_same}
use Rattle.ssh_run.proofs.Leaving.{leaves_rekeyed, where_ample}
use Rattle.ssh_run.proofs.link_end.LinkEnd.rekey.Goals as goal

pub returns-clause-leaves : goal.returns-clause-leaves
returns-clause-leaves g c = leaves_rekeyed c.rekey.result _ c.args.self.now.transport c.rekey.new.self _ _ _ _ (tests_same g.A.Agreement g.H.HostKeys g.G.GroupLookup _ _ _ _ _ _ c.rekey.ensures.parts.0 c.rekey.ensures.parts.1 c.rekey.ensures.parts.2)
    (where_ample c.rekey.result _ (λ m. drawn_rekeyed _ c.args.self.now.transport c.rekey.new.self _ _ c.rekey.result m
    (λ f. let d = c.rekey.ensures.dead f in (d.1, ap (λ p. g.R.Rng.stream p.rng) d.2)) c.rekey.ensures.begun (λ f o. let d = c.rekey.ensures.inside f o in (d.1, ap (λ p. g.R.Rng.stream p.rng) d.2)) (λ f. on_refusal c.rekey.result _ _ (λ h. h.0) (c.rekey.ensures.memory f))))
    c.rekey.ensures.begun
