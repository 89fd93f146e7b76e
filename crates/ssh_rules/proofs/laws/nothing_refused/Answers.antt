use Rattle.std.proofs.Common.{ap}
use Rattle.ssh_rules.specs.Headline.{kind_by}
use Rattle.ssh_rules.proofs.refusals.NoneRefused.{nothing_refused}
use Rattle.ssh_rules.proofs.refusals.Owed.{duties_of, small_of}
use Rattle.ssh_rules.proofs.laws.nothing_refused.Goals as goal

pub returns : goal.returns
returns g c = λ t a a' b b' h h' i i' gr gr' j j' names w cl sl side stage item v x y error oa ob jh si oj valid offers ka kh kg next refuses.
    let la = g.met.A.Agreement.obliging_lawful a a' t _ oa in
    let lb = g.met.A.Agreement.obliging_lawful b b' t _ ob in
    let lh = g.met.H.HostKeys.judges_lawful h h' t jh in
    let li = g.met.H.HostKeys.signs_lawful i i' t si in
    let lj = g.met.G.GroupLookup.obliging_lawful j j' t oj in
    nothing_refused _ _ _ names w cl sl side stage item error
    (record {
      valid = valid.valid;
      sizes = valid.sizes;
      chosen = valid.chosen;
      secret = λ name group local client server p q cm sm cp sq. g.met.A.Agreement.one_secret a t name group local client server p q la (cm t la) (sm t lb) (cp t la) (sq t lb);
      canonical = λ sizes group f. (f t lj).1;
    })
    (duties_of g.A.Agreement g.H.HostKeys g.G.GroupLookup
    (record { agreement = g.met.A.Agreement.obliging_lawful; lookup = g.met.G.GroupLookup.obliging_lawful; fits = g.met.G.GroupLookup.fitting; accepted = g.met.H.HostKeys.judges_accepts; trusted = g.met.H.HostKeys.judges_trusts })
    t a a' b b' h h' i i' gr gr' j j' names.kex side v x y oa ob jh si lj (ap kind_by valid.chosen) (λ k. oj) offers ka kh kg)
    (small_of g.A.Agreement g.H.HostKeys g.G.GroupLookup g.met.G.GroupLookup.small t a b h i gr j side la lb lh li lj)
    next refuses
