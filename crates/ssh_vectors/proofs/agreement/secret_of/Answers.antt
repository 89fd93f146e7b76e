use Rattle.std.proofs.Common.{◌≡◌, ℕ, List, [], ◌++◌, length, ap, subst, ◌∙◌, append_assoc}
use Rattle.std.specs.Prelude.{IfOk}
use Rattle.std.proofs.lemmas.Result.{IfOk-weaker}
use Rattle.ssh_mac.specs.declared.digest.DigestKind.TheVariants.{Sha256}
use Rattle.ssh_mac.proofs.Lemmas.{digests_have_length}
use Rattle.sha2.specs.Sha256.{sha256}
use Rattle.ssh_wire.specs.Forms.{string}
use Rattle.ssh_vectors.specs.Agreement.{secret_between}
use Rattle.ssh_vectors.proofs.agreement.secret_of.Goals as goal

five : (a b c d e : List ℕ) → ((((([] ++ a) ++ b) ++ c) ++ d) ++ e) ≡ a ++ (b ++ (c ++ (d ++ e)))
five a b c d e = append_assoc ((a ++ b) ++ c) d e ∙ (append_assoc (a ++ b) c (d ++ e) ∙ append_assoc a b (c ++ (d ++ e)))

alike : (a b c d e f g h : List ℕ) → a ≡ b → c ≡ d → e ≡ f → sha256 ((((([] ++ string a) ++ string c) ++ string e) ++ string g) ++ string h) ≡ sha256 (string b ++ (string d ++ (string f ++ (string g ++ string h))))
alike a b c d e f g h p q r =
    ap sha256 (five (string a) (string c) (string e) (string g) (string h))
    ∙ (ap (λ x. sha256 (string x ++ (string c ++ (string e ++ (string g ++ string h))))) p
    ∙ (ap (λ x. sha256 (string b ++ (string x ++ (string e ++ (string g ++ string h))))) q
    ∙ ap (λ x. sha256 (string b ++ (string d ++ (string x ++ (string g ++ string h))))) r))

pub returns-clause-secret : goal.returns-clause-secret
unfolding secret_between
returns-clause-secret c =
    subst (λ t. IfOk c.copied.result (λ b. b ≡ t))
    (c.as_bytes-2.ensures.value
    ∙ (c.finalize-hash.ensures Sha256 _ (c.take_string-5.ensures Sha256 _ (c.take_string-4.ensures Sha256 _ (c.take_string-3.ensures Sha256 _ (c.take_string-2.ensures Sha256 _ (c.take_string.ensures Sha256 [] c.new-hasher.ensures)))))
    ∙ alike _ _ _ _ _ _ _ _ (c.as_bytes.ensures.value ∙ c.as_str.ensures) c.group_bytes.ensures.prime c.group_bytes.ensures.generator))
    c.copied.ensures

pub returns-clause-size : goal.returns-clause-size
returns-clause-size c =
    IfOk-weaker c.copied.result _ _ (λ b e. ap length (e ∙ (c.as_bytes-2.ensures.value
    ∙ c.finalize-hash.ensures Sha256 _ (c.take_string-5.ensures Sha256 _ (c.take_string-4.ensures Sha256 _ (c.take_string-3.ensures Sha256 _ (c.take_string-2.ensures Sha256 _ (c.take_string.ensures Sha256 [] c.new-hasher.ensures))))))) ∙ digests_have_length Sha256 _) c.copied.ensures
