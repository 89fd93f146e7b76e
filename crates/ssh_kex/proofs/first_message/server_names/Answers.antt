use Rattle.std.proofs.Common.{◌∙◌, ap, subst, refl, inl, inr}
use Rattle.ssh_kex.specs.Opening.{IsLateWhere}
use Rattle.ssh_kex.specs.declared.config.Config.{Config}
use Rattle.ssh_kex.proofs.Opened.{gives_err, gives_ok, is_kexinit, server_offers}
use Rattle.ssh_kex.proofs.first_message.server_names.Goals as goal

pub returns-in-Err-clause-err : goal.returns-in-Err-clause-err
returns-in-Err-clause-err c =
    inr (inl (is_kexinit _ _ c.has_type.ensures c.if-not-has_type.false, gives_err _ _ _ _ _ c.read_kex.result _ (server_offers c.args.config.now _ _ _ (ap (λ (z : Config). z.preferred) c.config.view_is) (c.as_slice.ensures.value ∙ ap (λ (z : Config). z.host.keys) c.config.view_is) (c.as_slice-2.ensures.value ∙ ap (λ (z : Config). z.host.certificates) c.config.view_is)) c.in-Err.is c.read_kex.ensures))

pub returns-clause-ok : goal.returns-clause-ok
returns-clause-ok c =
    record {
      is_kexinit = is_kexinit _ _ c.has_type.ensures c.if-not-has_type.false;
      read = gives_ok _ _ _ _ _ c.read_kex.result _ (server_offers c.args.config.now _ _ _ (ap (λ (z : Config). z.preferred) c.config.view_is) (c.as_slice.ensures.value ∙ ap (λ (z : Config). z.host.keys) c.config.view_is) (c.as_slice-2.ensures.value ∙ ap (λ (z : Config). z.host.certificates) c.config.view_is)) c.in-Ok.is c.read_kex.ensures;
      first = subst (λ b. IsLateWhere b c.args.cause.now c.in-Ok.names.strict_kex c.args.incoming.now.seqn) c.if-is_late.false c.is_late.ensures;
    }

pub returns-then-is_late-clause-err : goal.returns-then-is_late-clause-err
returns-then-is_late-clause-err c =
    inr (inr (
      is_kexinit _ _ c.has_type.ensures c.if-not-has_type.false,
      (
        c.in-Ok.names,
        gives_ok _ _ _ _ _ c.read_kex.result _ (server_offers c.args.config.now _ _ _ (ap (λ (z : Config). z.preferred) c.config.view_is) (c.as_slice.ensures.value ∙ ap (λ (z : Config). z.host.keys) c.config.view_is) (c.as_slice-2.ensures.value ∙ ap (λ (z : Config). z.host.certificates) c.config.view_is)) c.in-Ok.is c.read_kex.ensures,
        subst (λ b. IsLateWhere b c.args.cause.now c.in-Ok.names.strict_kex c.args.incoming.now.seqn) c.if-is_late.true c.is_late.ensures,
      ),
      refl,
    ))
