use Rattle.std.proofs.Common.{◌∙◌, ap}
use Rattle.ssh_kex.specs.Signature.{judged}
use Rattle.ssh_vectors.specs.Hosts.{test_signature}
use Rattle.ssh_vectors.proofs.Signing.{judged_test}
use Rattle.ssh_vectors.proofs.hosts.TestHostsHostKeys.sign.Goals as goal

pub returns-in-Ok-clause-made : goal.returns-in-Ok-clause-made
returns-in-Ok-clause-made c = λ s host p.
    let is = c.in-Ok.ensures.exact ∙ (ap (λ k. test_signature c.args.algorithm k c.as_bytes.result.now) c.as_slice.ensures ∙ ap (test_signature c.args.algorithm c.args.key.now.blob) c.as_bytes.ensures.value) in
    record { key = c.args.key.now; algorithm = c.args.algorithm; presents = p; signed = ap judged is ∙ judged_test c.args.algorithm c.args.key.now.blob c.args.hash.now }
