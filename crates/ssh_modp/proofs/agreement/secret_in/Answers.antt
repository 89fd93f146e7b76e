use Rattle.std.proofs.Common.{sym}
use Rattle.std.proofs.lemmas.Result.{IfOk-weaker}
use Rattle.ssh_modp.proofs.agreement.secret_in.Goals as goal

pub returns-in-Some-clause-secret : goal.returns-in-Some-clause-secret
returns-in-Some-clause-secret c =
    IfOk-weaker c.secret_of.result _ _ (λ b h. record {
      at = record { prime = c.in-Some.prime.now; generator = c.in-Some.field-0-1.now };
      found = sym c.in-Some.ensures;
      secret_is = h c.in-Some.field-0-1.now;
    }) c.secret_of.ensures.secret
