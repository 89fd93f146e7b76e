use Rattle.std.proofs.Common.{length, ap, sym, ◌∙◌}
use Rattle.ssh_wire.specs.Forms.{number}
use Rattle.ssh_power.specs.Numbers.{power_modulo}
use Rattle.ssh_power.proofs.Lemmas.{number_magnitude}
use Rattle.ssh_modp.specs.Fields.{is_public_value}
use Rattle.ssh_modp.proofs.field.secret_of.Goals as goal

pub returns-in-Ok-clause-secret : goal.returns-in-Ok-clause-secret
returns-in-Ok-clause-secret c = λ g. record {
  digits = c.blob_of.ensures.digits;
  long = ap length c.blob_of.ensures.value ∙ (sym c.in-Ok.power.ok.0 ∙ (c.in-Ok.ensures.long ∙ ap length c.in_ok-modulus.ensures.value));
  spelled = ap number c.blob_of.ensures.value ∙ (c.in-Ok.ensures.number ∙ ap (λ n. power_modulo (number c.args.public.now) (number c.args.exponent.now) n) (ap number c.in_ok-modulus.ensures.value ∙ number_magnitude c.args.prime.now));
}

pub returns-then-not-is_public_value-clause-refused : goal.returns-then-not-is_public_value-clause-refused
returns-then-not-is_public_value-clause-refused c = λ refused none.
    ap (λ n. is_public_value n c.args.public.now) (sym (ap number c.in_ok-modulus.ensures.value ∙ number_magnitude c.args.prime.now))
    ∙ (sym c.is_public_value.ensures ∙ c.if-not-is_public_value.true)

pub returns-in-Ok-clause-taken : goal.returns-in-Ok-clause-taken
returns-in-Ok-clause-taken c =
    ap (λ n. is_public_value n c.args.public.now) (sym (ap number c.in_ok-modulus.ensures.value ∙ number_magnitude c.args.prime.now))
    ∙ (sym c.is_public_value.ensures ∙ c.if-not-is_public_value.false)
