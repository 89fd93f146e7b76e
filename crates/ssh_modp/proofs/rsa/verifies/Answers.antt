use Rattle.std.proofs.Common.{◌==◌, ap, sym, ◌∙◌, arith}
use Rattle.std.proofs.lemmas.Bool.Decides.{nat_tests}
use Rattle.ssh_wire.specs.Forms.{number}
use Rattle.ssh_power.specs.Numbers.{power_modulo}
use Rattle.ssh_modp.specs.Rsa.{RsaPublic}
use Rattle.ssh_modp.proofs.Messages.{decides, verified}
use Rattle.ssh_modp.proofs.rsa.verifies.Goals as goal

pub returns : goal.returns
returns c =
    let made = rw c.in-Some.is at c.in_ok-message.ensures.message in
    let unlike = c.if-signature-modulus.false in
    let key : RsaPublic = record { exponent = c.args.exponent.now; modulus = c.args.modulus.now } in
    verified c.args.hash c.args.text.now key c.args.signature.now c.is_same.result c.in-Ok.ensures.taken made.0
    (grind (arith, nat_tests)) (sym c.is_less.ensures ∙ c.if-not-is_less.false)
    (decides c.args.hash c.args.text.now key c.args.signature.now c.in_ok-power.power.items c.in-Some.message.items c.is_same.result
    (c.is_same.ensures ∙ (ap (λ t. number t == number c.as_slice-2.result.now) c.as_slice.ensures.value ∙ ap (λ t. number c.in_ok-power.power.items == number t) c.as_slice-2.ensures.value))
    (c.in_ok-power.ensures.number ∙ ap (λ m. power_modulo (number c.args.signature.now) (number c.args.exponent.now) (number m)) (c.in-Ok.ensures.value ∙ c.requires))
    made.1)
