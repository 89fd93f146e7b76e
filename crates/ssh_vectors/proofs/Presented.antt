-- Which hosts are trusted: those that are configured.
use Rattle.std.proofs.Common.{◌≡◌, ℕ, List, [], ◌∷◌, find, Bool, true, false, ◌&&◌, if◌then◌else◌, Option, Some, None, refl, sym, ap, subst, ◌∙◌}
use Rattle.std.specs.List.{All}
use Rattle.std.specs.Str.{bytes_eq}
use Rattle.std.proofs.lemmas.List.Elements.{All-head, All-tail}
use Rattle.std.proofs.lemmas.Slice.Eq.{bytes_eq-Decides}
use Rattle.ssh_negotiate.specs.Advertised.{fits, has_key}
use Rattle.ssh_negotiate.specs.declared.preferred.HostCertificate.{HostCertificate}
use Rattle.ssh_negotiate.specs.declared.preferred.HostKey.{HostKey}
use Rattle.ssh_wire.specs.declared.algorithm.Algorithm.{Algorithm}
use Rattle.ssh_kex.specs.Messages.{Presented, by_certificate, by_holder, by_key, presented}
use Rattle.ssh_vectors.specs.Hosts.{HostsTrusted, TrustsKey}
use Rattle.ssh_vectors.specs.declared.hosts.TrustedHost.{TrustedHost}

-- what is found passes, and keeps what all keep
found_keeps : {X : Type 0} (P : X → Type 0) (test : X → Bool) (xs : List X) → All P xs → (x : X) → find test xs ≡ Some x → P x × (test x ≡ true)
found_keeps P test [] all x e = cc
found_keeps {X} P test (y ∷ xs) all x e = by (test y) refl e (found_keeps P test xs (All-tail P y xs all) x) where
  by : (b : Bool) → test y ≡ b → (if b then Some y else find test xs) ≡ Some x → (find test xs ≡ Some x → P x × (test x ≡ true)) → P x × (test x ≡ true)
  by true h f later = let same : y ≡ x = cc in (subst P same (All-head P y xs all), ap test (sym same) ∙ h)
  by false h f later = later f

keyed : (trusted : List TrustedHost) (keys : List HostKey) → All (λ (k : HostKey). TrustsKey trusted k.blob k.blob) keys → (test : HostKey → Bool) (o : Option HostKey) → find test keys ≡ o → (p : Presented) → by_key o ≡ Some p → TrustsKey trusted p.blob p.signer.blob
keyed trusted keys all test None e p f = cc
keyed trusted keys all test (Some k) e p f = subst (λ o. shown o) f (found_keeps (λ (k : HostKey). TrustsKey trusted k.blob k.blob) test keys all k e).0 where
  shown : Option Presented → Type 0
  shown None = ⊥
  shown (Some q) = TrustsKey trusted q.blob q.signer.blob

held : (trusted : List TrustedHost) (blob key_blob : List ℕ) → TrustsKey trusted blob key_blob → (keys : List HostKey) (o : Option HostKey) → find (λ (k : HostKey). bytes_eq k.blob key_blob) keys ≡ o → (p : Presented) → by_holder blob o ≡ Some p → TrustsKey trusted p.blob p.signer.blob
held trusted blob key_blob t keys None e p f = cc
held trusted blob key_blob t keys (Some k) e p f =
    subst (λ o. shown o) f (subst (TrustsKey trusted blob) (sym ((bytes_eq-Decides k.blob key_blob).0 (found_keeps (λ (k : HostKey). Unit {0}) (λ (k : HostKey). bytes_eq k.blob key_blob) keys (λ i d l. tt) k e).1)) t) where
      shown : Option Presented → Type 0
      shown None = ⊥
      shown (Some q) = TrustsKey trusted q.blob q.signer.blob

certified : (trusted : List TrustedHost) (keys : List HostKey) (certificates : List HostCertificate) → All (λ (c : HostCertificate). TrustsKey trusted c.blob c.key_blob) certificates → (test : HostCertificate → Bool) (o : Option HostCertificate) → find test certificates ≡ o → (p : Presented) → by_certificate keys o ≡ Some p → TrustsKey trusted p.blob p.signer.blob
certified trusted keys certificates all test None e p f = cc
certified trusted keys certificates all test (Some c) e p f =
    held trusted c.blob c.key_blob (found_keeps (λ (c : HostCertificate). TrustsKey trusted c.blob c.key_blob) test certificates all c e).0 keys _ refl p f

shown_trusted : (trusted : List TrustedHost) (keys : List HostKey) (certificates : List HostCertificate) → All (λ (k : HostKey). TrustsKey trusted k.blob k.blob) keys → All (λ (c : HostCertificate). TrustsKey trusted c.blob c.key_blob) certificates → (b : Bool) (algorithm : Algorithm) (p : Presented) → presented (record { keys = keys; certificates = certificates }) b algorithm ≡ Some p → TrustsKey trusted p.blob p.signer.blob
unfolding presented
shown_trusted trusted keys certificates ks cs true algorithm p e = certified trusted keys certificates cs (λ (c : HostCertificate). fits c.algorithm algorithm && has_key keys c) _ refl p e
shown_trusted trusted keys certificates ks cs false algorithm p e = keyed trusted keys ks (λ (k : HostKey). fits k.algorithm algorithm) _ refl p e

pub hosts_trusted : HostsTrusted
hosts_trusted trusted server t host key algorithm p =
    shown_trusted trusted server.host.keys server.host.certificates t.keys t.certificates host.is_certificate host.algorithm (record { signer = key; blob = host.blob }) p.shown
