use Rattle.std.proofs.Common.{Err, Ok, OnOk, Result}
use Rattle.ssh_channels.proofs.Pumping.{pumps}
use Rattle.ssh_channels.proofs.end.pump.Goals as goal

both_ok : {A E : Type 0} {P Q S : Type 0} (r : Result A E) → OnOk r P → OnOk r Q → (P → Q → S) → OnOk r S
both_ok (Ok x) p q f = f p q
both_ok (Err e) p q f = tt

pub returns-clause-ok : goal.returns-clause-ok
returns-clause-ok c = both_ok c.send_close.result c.send_close.ensures.end c.send_close.ensures.out
    (λ x y. pumps _ _ _ _ _ _ _ _ _ c.in_ok-send_data.ensures.ok c.in_ok-send_eof.ensures.end c.in_ok-send_eof.ensures.out x y)
