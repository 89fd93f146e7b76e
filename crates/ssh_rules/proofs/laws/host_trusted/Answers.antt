use Rattle.ssh_rules.proofs.refusals.NoneRefused.{host_presented}
use Rattle.ssh_rules.proofs.laws.host_trusted.Goals as goal

pub returns : goal.returns
returns g c = λ t a b h i gr j names w cl sl item exchange made host la lb lj valid next.
    let p = host_presented _ _ names w cl sl item exchange made host
    (record {
      valid = valid.valid;
      sizes = valid.sizes;
      chosen = valid.chosen;
      secret = λ name group local client server p q cm sm cp sq. g.met.A.Agreement.one_secret a t name group local client server p q la (cm t la) (sm t lb) (cp t la) (sq t lb);
      canonical = λ sizes group f. (f t lj).1;
    })
    next in
    (p, λ later o. g.met.H.HostKeys.judges_trusts h later t host p.0 o p.1)
