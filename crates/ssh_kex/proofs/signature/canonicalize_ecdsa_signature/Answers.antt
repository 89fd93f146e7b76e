-- Whatever the blob is, the answer is by the two strings that it is, and those that the second is.
use Rattle.std.proofs.Common.{◌∙◌, ap, sym, subst, Some}
use Rattle.ssh_kex.specs.Signature.{AreStrings}
use Rattle.ssh_kex.proofs.Parting.{form_of, no_form, no_scalars_form, other_form}
use Rattle.ssh_kex.proofs.signature.canonicalize_ecdsa_signature.Goals as goal

pub returns-in_default-clause-exact : goal.returns-in_default-clause-exact
returns-in_default-clause-exact c = sym (no_form _ (subst (AreStrings c.args.blob.now) c.in_default.is c.two_strings.ensures.value))

pub returns-then-not-is_ecdsa_name-clause-exact : goal.returns-then-not-is_ecdsa_name-clause-exact
returns-then-not-is_ecdsa_name-clause-exact c =
    sym (other_form _ _ _ c.in-Some.ensures.value (sym c.if-not-is_ecdsa_name.ensures))

pub returns-in_ok-signature_of-in-Some-two_strings-clause-exact :
    goal.returns-in_ok-signature_of-in-Some-two_strings-clause-exact
returns-in_ok-signature_of-in-Some-two_strings-clause-exact c =
    ap Some c.in_ok-signature_of-in-Some-two_strings.ensures.ok
    ∙ sym (form_of _ _ _ _ _ c.in-Some.ensures.value (sym c.if-not-is_ecdsa_name.ensures) c.in-Some-two_strings.ensures.value)

pub returns-in-None-clause-exact : goal.returns-in-None-clause-exact
returns-in-None-clause-exact c =
    sym (no_scalars_form _ _ _ c.in-Some.ensures.value (sym c.if-not-is_ecdsa_name.ensures) c.in-None.ensures.value)
