use Rattle.std.proofs.Common.{◌≡◌, ℕ, List, [], ◌++◌, length, ap, ◌∙◌, append_assoc}
use Rattle.sha2.specs.Sha256.{sha256}
use Rattle.ssh_mac.specs.declared.digest.DigestKind.TheVariants.{Sha256}
use Rattle.ssh_mac.proofs.Lemmas.{digests_have_length}
use Rattle.ssh_wire.specs.Forms.{string}
use Rattle.ssh_vectors.specs.Hosts.{test_digest}
use Rattle.ssh_vectors.proofs.hosts.digest.Goals as goal

three : (name named key hash : List ℕ) → name ≡ named → sha256 ((([] ++ string name) ++ string key) ++ string hash) ≡ sha256 (string named ++ (string key ++ string hash))
three name named key hash p = ap sha256 (append_assoc (string name) (string key) (string hash)) ∙ ap (λ x. sha256 (string x ++ (string key ++ string hash))) p

pub returns-clause-exact : goal.returns-clause-exact
unfolding test_digest
returns-clause-exact c =
    c.finalize.ensures Sha256 _ (c.take_string-3.ensures Sha256 _ (c.take_string-2.ensures Sha256 _ (c.take_string.ensures Sha256 [] c.new-hasher.ensures)))
    ∙ three _ _ _ _ (c.as_bytes.ensures.value ∙ c.as_str.ensures)

pub returns-clause-size : goal.returns-clause-size
returns-clause-size c =
    ap length (c.finalize.ensures Sha256 _ (c.take_string-3.ensures Sha256 _ (c.take_string-2.ensures Sha256 _ (c.take_string.ensures Sha256 [] c.new-hasher.ensures)))) ∙ digests_have_length Sha256 _
