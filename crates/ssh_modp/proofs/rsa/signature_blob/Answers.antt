use Rattle.std.proofs.Common.{◌++◌, ap, sym, ◌∙◌}
use Rattle.ssh_wire.specs.Algorithms.{algorithm_name}
use Rattle.ssh_wire.specs.Forms.{string}
use Rattle.ssh_modp.proofs.Blobs.{failed_test}
use Rattle.ssh_modp.proofs.rsa.signature_blob.Goals as goal

pub returns-clause-none : goal.returns-clause-none
returns-clause-none c = λ none hash key h k fault room.
    failed_test c.args.blob.now c.args.private.now c.args.text.now c.in-Some-2.power c.in-Some-rsa_key.field-0-0.now
    c.in-Some-rsa_key.modulus.now c.as_slice-2.result.now c.args.algorithm c.in-Some.hash
    (sym c.in-Some.ensures) (sym c.in-Some-rsa_key.ensures.value)
    (rw c.in-Some-2.is at c.in_ok-power.ensures.own) (rw c.in-Some-2.is at c.in_ok-power.ensures.short)
    (c.as_slice-2.ensures.value ∙ (c.in_ok-put_string-2.ensures.ok
    ∙ (ap (λ t. t ++ string c.as_slice.result.now)
    (c.in_ok-put_string.ensures.ok ∙ ap (λ t. t ++ string c.as_bytes.result.now) c.new-signature.ensures.items)
    ∙ (ap (λ t. string t ++ string c.as_slice.result.now) (c.as_bytes.ensures.value ∙ c.as_str.ensures)
    ∙ ap (λ t. string (algorithm_name c.args.algorithm) ++ string t) c.as_slice.ensures))))
    (sym c.in_ok-accepts.ensures ∙ c.if-branch.false) hash key h k
