use Rattle.ssh_rules.proofs.refusals.LinkCauses.{link_cause, offers_by}
use Rattle.ssh_rules.proofs.refusals.Owed.{owes_of, small_of}
use Rattle.ssh_rules.proofs.refusals.RefusedTurns.{AreLawful, refused_turn}
use Rattle.ssh_rules.proofs.laws.refusals_have_causes.Goals as goal
use Rattle.ssh_kex.specs.Stepping.{says_of}

pub returns : goal.returns
returns g c = λ t a b h i gr j w cl sl side took piece old new v v' x x' y y' error la lb lh li lj keeps valid sizes r.
    let lawful : AreLawful _ _ = record {
      valid = valid;
      sizes = sizes;
      secret = λ name group local client server p q cm sm cp sq. g.met.A.Agreement.one_secret a t name group local client server p q la (cm t la) (sm t lb) (cp t la) (sq t lb);
      canonical = λ sizes group f. (f t lj).1;
    } in
    link_cause _ _ side _ _ _ _ _ w error
    (record {
      lawful = lawful;
      small = (small_of g.A.Agreement g.H.HostKeys g.G.GroupLookup g.met.G.GroupLookup.small t a b h i gr j side la lb lh li lj);
      owes = λ kex kind. owes_of g.A.Agreement g.H.HostKeys g.G.GroupLookup
          (record { agreement = g.met.A.Agreement.obliging_lawful; lookup = g.met.G.GroupLookup.obliging_lawful; fits = g.met.G.GroupLookup.fitting; accepted = g.met.H.HostKeys.judges_accepts; trusted = g.met.H.HostKeys.judges_trusts })
          t a b h i gr j kex side v v' x x' y y' la lb lj kind keeps.offered_kept;
      checks = λ host key client p d. (d.0, λ o. d.1 t o (g.met.H.HostKeys.judges_trusts x x' t host key o p));
      offers = offers_by (says_of g.A.Agreement g.H.HostKeys g.G.GroupLookup) g.A.Agreement.offered (λ config v x y name o. o) t a b h i gr j side;
      finds = λ q f. (f t lj).0;
    })
    (refused_turn _ _ _ _ w cl sl side took piece old new error lawful r)
