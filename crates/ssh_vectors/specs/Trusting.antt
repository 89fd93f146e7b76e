-- What is trusted with its keys is accepted. Proofs alone: they stand here since an `impl` cites none of `proofs/`.
use Rattle.std.proofs.Common.{◌≡◌, ℕ, List, true, is_some, ap, sym, ◌∙◌}
use Rattle.std.proofs.lemmas.Slice.Eq.{bytes_eq-Decides}
use Rattle.ssh_negotiate.specs.declared.preferred.HostKey.{HostKey}
use Rattle.ssh_kex.specs.Parts.{Presents}
use Rattle.ssh_kex.specs.declared.config.Config.{Config}
use Rattle.ssh_kex.specs.declared.exchange.ServerHost.{ServerHost}
use Rattle.ssh_vectors.specs.Hosts.{Makes, TrustsAll, accepted, is_signed, is_trusted, test_signature}
use Rattle.ssh_vectors.specs.declared.hosts.TrustedHost.{TrustedHost}

pub all_trusted : (trusted : List TrustedHost) (server : Config) (host : ServerHost) (key : HostKey)
    → TrustsAll trusted server → Presents server host key host.algorithm → is_trusted trusted host ≡ true
all_trusted trusted server host key all p = ap is_some (all host key host.algorithm p).found

pub all_accepted : (trusted : List TrustedHost) (server : Config) (host : ServerHost) (hash signature : List ℕ)
    → TrustsAll trusted server → Makes server host hash signature → accepted trusted host hash signature ≡ true
all_accepted trusted server host hash signature all m =
    let t = all host m.key m.algorithm m.presents in
    ap (λ o. is_signed o host.algorithm hash signature) t.found
    ∙ (bytes_eq-Decides signature (test_signature host.algorithm t.as'.key_blob hash)).1
    (m.signed ∙ (ap (λ a. test_signature a m.key.blob hash) (sym m.presents.same)
    ∙ ap (λ k. test_signature host.algorithm k hash) (sym t.key_is)))
