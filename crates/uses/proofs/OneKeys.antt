-- Which keys a server presents: those that are configured.
use Rattle.std.proofs.Common.{◌≡◌, ℕ, List, [], ◌∷◌, find, All, Bool, true, false, ◌&&◌, if◌then◌else◌, Option, Some, None, refl, subst}
use Rattle.std.specs.Str.{bytes_eq}
use Rattle.std.proofs.lemmas.List.Elements.{All-head, All-tail}
use Rattle.ssh_negotiate.specs.Advertised.{fits, has_key}
use Rattle.ssh_negotiate.specs.Preferences.{Hosts}
use Rattle.ssh_negotiate.specs.declared.preferred.HostCertificate.{HostCertificate}
use Rattle.ssh_negotiate.specs.declared.preferred.HostKey.{HostKey}
use Rattle.ssh_wire.specs.declared.algorithm.Algorithm.{Algorithm}
use Rattle.ssh_kex.specs.Messages.{Presented, by_certificate, by_holder, by_key, presented}
use Rattle.uses.specs.OneKey.{OneKeyPresented}

-- what all keys keep is kept by the one that is found
found_keeps : (P : HostKey → Type 0) (test : HostKey → Bool) (keys : List HostKey) → All P keys → (k : HostKey)
    → find test keys ≡ Some k → P k
found_keeps P test [] all k e = cc
found_keeps P test (y ∷ keys) all k e = by (test y) e (found_keeps P test keys (All-tail P y keys all) k) where
  by : (b : Bool) → (if b then Some y else find test keys) ≡ Some k → (find test keys ≡ Some k → P k) → P k
  by true f later = let same : y ≡ k = cc in subst P same (All-head P y keys all)
  by false f later = later f

-- so of a key that is shown itself, and of one that a certificate is shown for
keyed : (blob : List ℕ) (o : Option HostKey) → ((k : HostKey) → o ≡ Some k → k.blob ≡ blob)
    → (p : Presented) → by_key o ≡ Some p → p.signer.blob ≡ blob
keyed blob None h p e = cc
keyed blob (Some k) h p e = let b = h k refl in cc

held : (blob shown : List ℕ) (o : Option HostKey) → ((k : HostKey) → o ≡ Some k → k.blob ≡ blob)
    → (p : Presented) → by_holder shown o ≡ Some p → p.signer.blob ≡ blob
held blob shown None h p e = cc
held blob shown (Some k) h p e = let b = h k refl in cc

certified : (blob : List ℕ) (keys : List HostKey) → All (λ (k : HostKey). k.blob ≡ blob) keys
    → (o : Option HostCertificate) (p : Presented) → by_certificate keys o ≡ Some p → p.signer.blob ≡ blob
certified blob keys all None p e = cc
certified blob keys all (Some c) p e =
    held blob c.blob (find (λ (k : HostKey). bytes_eq k.blob c.key_blob) keys)
    (found_keeps (λ (k : HostKey). k.blob ≡ blob) (λ (k : HostKey). bytes_eq k.blob c.key_blob) keys all) p e

shown : (blob : List ℕ) (hosts : Hosts) → All (λ (k : HostKey). k.blob ≡ blob) hosts.keys
    → (b : Bool) (algorithm : Algorithm) (p : Presented) → presented hosts b algorithm ≡ Some p → p.signer.blob ≡ blob
unfolding presented
shown blob hosts all true algorithm p e =
    certified blob hosts.keys all
    (find (λ (c : HostCertificate). fits c.algorithm algorithm && has_key hosts.keys c) hosts.certificates) p e
shown blob hosts all false algorithm p e =
    keyed blob (find (λ (k : HostKey). fits k.algorithm algorithm) hosts.keys)
    (found_keeps (λ (k : HostKey). k.blob ≡ blob) (λ (k : HostKey). fits k.algorithm algorithm) hosts.keys all) p e

pub one_key_presented : OneKeyPresented
one_key_presented server blob all host key algorithm p =
    shown blob server.host all host.is_certificate host.algorithm (record { signer = key; blob = host.blob }) p.shown
