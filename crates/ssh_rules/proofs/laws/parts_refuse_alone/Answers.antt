use Rattle.ssh_rules.proofs.refusals.NoneRefused.{parts_decide}
use Rattle.ssh_rules.proofs.refusals.Owed.{small_of}
use Rattle.ssh_rules.proofs.laws.parts_refuse_alone.Goals as goal

pub returns : goal.returns
returns g c = λ t a b h i gr j names w cl sl side stage item v v' x x' y y' error la lb lh li lj valid next refuses.
    parts_decide _ _ _ names w cl sl side stage item error
    (record {
      valid = valid.valid;
      sizes = valid.sizes;
      chosen = valid.chosen;
      secret = λ name group local client server p q cm sm cp sq. g.met.A.Agreement.one_secret a t name group local client server p q la (cm t la) (sm t lb) (cp t la) (sq t lb);
      canonical = λ sizes group f. (f t lj).1;
    })
    (small_of g.A.Agreement g.H.HostKeys g.G.GroupLookup g.met.G.GroupLookup.small t a b h i gr j side la lb lh li lj)
    next refuses
