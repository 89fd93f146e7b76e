use Rattle.ssh_rules.proofs.headline.LinkIs.{link_is}
use Rattle.ssh_rules.proofs.laws.honest_link.Goals as goal

pub returns : goal.returns
returns g c = λ t a b h i gc gs steps snapshots la lb lg valid sizes does leads.
    link_is _ _ _ _ _ steps snapshots valid sizes
    (record { for_client = λ name group local public e. e t la; for_server = λ name group client public e. e t lb; for_secret = λ name group x y secret e. e t la })
    (λ name group local client server p q cm sm cp sq. g.met.A.Agreement.one_secret a t name group local client server p q la (cm t la) (sm t lb) (cp t la) (sq t lb))
    (λ sizes group f. (f t lg).1)
    does leads
