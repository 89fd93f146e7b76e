use Rattle.std.proofs.Common.{nat_lt, ap, sym, ◌∙◌}
use Rattle.ssh_wire.specs.Forms.{magnitude, number, unsigned}
use Rattle.ssh_power.specs.Numbers.{power_modulo}
use Rattle.ssh_modp.proofs.Values.{has_value, zero_drawn}
use Rattle.ssh_modp.proofs.field.own_value.Goals as goal

pub returns-clause-value : goal.returns-clause-value
returns-clause-value g c =
    has_value c.args.prime.now c.args.generator.now c.in-Ok-copy_of.local c.in-Ok.power.items c.in-Ok-mpint_body.public c.in_ok-modulus.modulus
    c.in_ok-modulus.ensures.value c.in_ok-modulus.ensures.taken
    (c.in-Ok.ensures.number ∙ ap (λ x. power_modulo (number c.args.generator.now) (number x) (number c.in_ok-modulus.modulus)) (sym c.in-Ok-copy_of.ensures))
    (ap (λ t. nat_lt 0 (number t)) (sym c.as_slice.ensures.value) ∙ (sym c.is_less.ensures ∙ c.if-not-is_less.false))
    (c.in-Ok-mpint_body.ensures.value ∙ ap (λ t. unsigned (magnitude t)) c.as_slice-2.ensures.value)

pub returns-then-not-is_less-clause-refused : goal.returns-then-not-is_less-clause-refused
returns-then-not-is_less-clause-refused g c = λ refused none.
    zero_drawn c.args.prime.now c.args.generator.now c.fill_bytes.new.dst c.in-Ok.power.items c.in_ok-modulus.modulus
    (g.R.Rng.stream c.args.rng.now) (g.R.Rng.stream c.fill_bytes.new.self) c.in_ok-modulus.ensures.value c.in-Ok.ensures.number
    (ap (λ t. nat_lt 0 (number t)) (sym c.as_slice.ensures.value) ∙ (sym c.is_less.ensures ∙ c.if-not-is_less.true))
    c.fill_bytes.ensures
