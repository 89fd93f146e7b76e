use Rattle.std.proofs.Common.{subst}
use Rattle.ssh_modp.specs.Fields.{SpellsSecret, field_power}
use Rattle.ssh_modp.proofs.field.agreed_in.Goals as goal

pub returns-clause-agreed : goal.returns-clause-agreed
returns-clause-agreed g c = record {
  exponent = c.in_ok-public.field-0.local;
  drawn = c.in_ok-public.ensures.drawn;
  value = c.in_ok-public.ensures.value;
  secret_is = subst
      (λ x. SpellsSecret (record { prime = c.args.prime.now; generator = c.args.generator.now }) c.in_ok-secret.secret
      (field_power (record { prime = c.args.prime.now; generator = c.args.generator.now }) c.args.client_public.now x))
      c.as_slice.ensures (c.in_ok-secret.ensures.secret c.args.generator.now);
}
