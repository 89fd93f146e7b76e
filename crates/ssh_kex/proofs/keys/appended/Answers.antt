use Rattle.std.proofs.Common.{◌∙◌, ap, sym, subst}
use Rattle.std.specs.Prelude.{◌++◌, ◌≤◌, take, length}
use Rattle.ssh_kex.proofs.Stretching.{appended_is}
use Rattle.ssh_kex.proofs.keys.appended.Goals as goal

pub returns-clause-value : goal.returns-clause-value
returns-clause-value c =
    c.of.ensures
    ∙ (appended_is c.args.need _ c.as_bytes-front.result.now c.as_bytes-behind.result.now _ _
    (subst (λ x. length x ≤ c.args.need) (sym c.as_bytes-front.ensures.value) c.requires.within)
    c.min-missing.ensures c.put_at.ensures c.put_at-2.ensures
    ∙ (ap (λ x. take c.args.need (x ++ c.as_bytes-behind.result.now)) c.as_bytes-front.ensures.value
    ∙ ap (λ x. take c.args.need (c.args.key.now ++ x)) c.as_bytes-behind.ensures.value))
