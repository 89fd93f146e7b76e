use Rattle.ssh_rules.proofs.refusals.RefusedTurns.{refused_turn}
use Rattle.ssh_rules.proofs.laws.only_messages_refused.Goals as goal

pub returns : goal.returns
returns g c = λ t a b h i gr j w cl sl side took piece old new v v' x x' y y' error la lb lj valid sizes r.
    refused_turn _ _ _ _ w cl sl side took piece old new error
    (record {
      valid = valid;
      sizes = sizes;
      secret = λ name group local client server p q cm sm cp sq. g.met.A.Agreement.one_secret a t name group local client server p q la (cm t la) (sm t lb) (cp t la) (sq t lb);
      canonical = λ sizes group f. (f t lj).1;
    })
    r
