use Rattle.std.proofs.Common.{ap, subst}
use Rattle.ssh_rules.specs.Headline.{kind_by}
use Rattle.ssh_rules.specs.Refused.{one_of}
use Rattle.ssh_rules.proofs.refusals.LinkCauses.{none_in_link}
use Rattle.ssh_rules.proofs.refusals.Owed.{duties_of, small_of}
use Rattle.ssh_rules.proofs.refusals.RefusedTurns.{refused_turn}
use Rattle.ssh_rules.proofs.laws.none_refused_in_link.Goals as goal
use Rattle.ssh_kex.specs.Members.{HostsKept}
use Rattle.ssh_rules.specs.Refusing.{untrusted_of}

pub returns : goal.returns
returns g c = λ t a a' b b' h h' i i' gr gr' j j' names w cl sl side took piece old new v x y error oa ob jh si oj valid offers ka kh kg r.
    let la = g.met.A.Agreement.obliging_lawful a a' t _ oa in
    let lb = g.met.A.Agreement.obliging_lawful b b' t _ ob in
    let lh = g.met.H.HostKeys.judges_lawful h h' t jh in
    let li = g.met.H.HostKeys.signs_lawful i i' t si in
    let lj = g.met.G.GroupLookup.obliging_lawful j j' t oj in
    none_in_link _ _ names side _ _ w error
    (record {
      valid = valid.valid;
      sizes = valid.sizes;
      chosen = valid.chosen;
      secret = λ name group local client server p q cm sm cp sq. g.met.A.Agreement.one_secret a t name group local client server p q la (cm t la) (sm t lb) (cp t la) (sq t lb);
      canonical = λ sizes group f. (f t lj).1;
    })
    (duties_of g.A.Agreement g.H.HostKeys g.G.GroupLookup
    (record { agreement = g.met.A.Agreement.obliging_lawful; lookup = g.met.G.GroupLookup.obliging_lawful; fits = g.met.G.GroupLookup.fitting; accepted = g.met.H.HostKeys.judges_accepts; trusted = g.met.H.HostKeys.judges_trusts })
    t a a' b b' h h' i i' gr gr' j j' names.kex side v x y oa ob jh si lj (ap kind_by valid.chosen) (λ k. oj) offers ka kh kg)
    (small_of g.A.Agreement g.H.HostKeys g.G.GroupLookup g.met.G.GroupLookup.small t a b h i gr j side la lb lh li lj)
    (λ host key client p d.
    let k = subst (λ z. HostsKept g.H.HostKeys (one_of z h i) x) client kh in
    let u = subst (λ z. untrusted_of g.H.HostKeys x (one_of z h' i') host) client d in
    let o = k.judges_kept h' t jh in
    u.1 t o (g.met.H.HostKeys.judges_trusts x h' t host key o p))
    (refused_turn _ _ _ _ w cl sl side took piece old new error
    (record {
      valid = valid.valid;
      sizes = valid.sizes;
      secret = λ name group local client server p q cm sm cp sq. g.met.A.Agreement.one_secret a t name group local client server p q la (cm t la) (sm t lb) (cp t la) (sq t lb);
      canonical = λ sizes group f. (f t lj).1;
    })
    r)
