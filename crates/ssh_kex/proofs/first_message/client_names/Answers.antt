use Rattle.std.proofs.Common.{subst, refl, inl, inr}
use Rattle.ssh_kex.specs.Opening.{IsLateWhere}
use Rattle.ssh_kex.proofs.Opened.{gives_err, gives_ok, is_kexinit, client_offers}
use Rattle.ssh_kex.proofs.first_message.client_names.Goals as goal

pub returns-in-Err-clause-err : goal.returns-in-Err-clause-err
returns-in-Err-clause-err c =
    inr (inl (is_kexinit _ _ c.has_type.ensures c.if-not-has_type.false, gives_err _ _ _ _ _ c.read_kex.result _ (client_offers c.args.config.now.preferred _ _ c.args.config.now.host) c.in-Err.is c.read_kex.ensures))

pub returns-clause-ok : goal.returns-clause-ok
returns-clause-ok c =
    record {
      is_kexinit = is_kexinit _ _ c.has_type.ensures c.if-not-has_type.false;
      read = gives_ok _ _ _ _ _ c.read_kex.result _ (client_offers c.args.config.now.preferred _ _ c.args.config.now.host) c.in-Ok.is c.read_kex.ensures;
      first = subst (λ b. IsLateWhere b c.args.cause.now c.in-Ok.names.strict_kex c.args.incoming.now.seqn) c.if-is_late.false c.is_late.ensures;
    }

pub returns-then-is_late-clause-err : goal.returns-then-is_late-clause-err
returns-then-is_late-clause-err c =
    inr (inr (
      is_kexinit _ _ c.has_type.ensures c.if-not-has_type.false,
      (
        c.in-Ok.names,
        gives_ok _ _ _ _ _ c.read_kex.result _ (client_offers c.args.config.now.preferred _ _ c.args.config.now.host) c.in-Ok.is c.read_kex.ensures,
        subst (λ b. IsLateWhere b c.args.cause.now c.in-Ok.names.strict_kex c.args.incoming.now.seqn) c.if-is_late.true c.is_late.ensures,
      ),
      refl,
    ))
