-- What a server presents, from the first that fits.
use Rattle.std.proofs.Common.{◌≡◌, ◌&&◌, ℕ, List, [], ◌∷◌, refl, sym, ◌∙◌, ap, Some, None, Bool, true, false, cond}
use Rattle.std.specs.Prelude.{find}
use Rattle.std.specs.Str.{bytes_eq}
use Rattle.ssh_negotiate.proofs.Lemmas.{some_found}
use Rattle.ssh_negotiate.specs.Advertised.{fits, has_key}
use Rattle.ssh_negotiate.specs.Preferences.{Hosts}
use Rattle.ssh_negotiate.specs.declared.preferred.HostKey.{HostKey}
use Rattle.ssh_negotiate.specs.declared.preferred.HostCertificate.{HostCertificate}
use Rattle.ssh_wire.specs.declared.algorithm.Algorithm.{Algorithm}
use Rattle.ssh_kex.specs.Messages.{by_certificate, by_holder, by_key, presented}
use Rattle.ssh_rules.specs.Headline.{blob_in}

found_passes : {A : Type 0} (test : A → Bool) (xs : List A) (x : A) → find test xs ≡ Some x → test x ≡ true
found_passes test [] x e = absurd (let p : None ≡ Some x = e in cc)
found_passes test (y ∷ xs) x e = step (test y) refl e (found_passes test xs x) where
  step : (b : Bool) → test y ≡ b → cond b (Some y) (find test xs) ≡ Some x → (find test xs ≡ Some x → test x ≡ true) → test x ≡ true
  step true t f g = (let p : y ≡ x = (let q : Some y ≡ Some x = f in cc) in ap test (sym p) ∙ t)
  step false t f g = g f

second_part : (a b : Bool) → (a && b) ≡ true → b ≡ true
second_part true b e = e
second_part false b e = absurd (let p : false ≡ true = e in cc)

pub key_is : (hosts : Hosts) (a : Algorithm) (keys : List HostKey) (k : HostKey) (blob : List ℕ) → keys ≡ hosts.keys → Some k ≡ find (λ (x : HostKey). fits x.algorithm a) keys → blob ≡ k.blob → Some blob ≡ blob_in (presented hosts false a)
unfolding presented
key_is hosts a keys k blob s e b = ap Some b ∙ (ap (λ o. blob_in (by_key o)) e ∙ ap (λ l. blob_in (by_key (find (λ (x : HostKey). fits x.algorithm a) l))) s)

pub no_key : (hosts : Hosts) (a : Algorithm) (keys : List HostKey) → keys ≡ hosts.keys → None ≡ find (λ (x : HostKey). fits x.algorithm a) keys → None ≡ blob_in (presented hosts false a)
unfolding presented
no_key hosts a keys s e = ap (λ o. blob_in (by_key o)) e ∙ ap (λ l. blob_in (by_key (find (λ (x : HostKey). fits x.algorithm a) l))) s

certificate_of : (hosts : Hosts) (a : Algorithm) (c : HostCertificate) → Some c ≡ find (λ (x : HostCertificate). fits x.algorithm a && has_key hosts.keys x) hosts.certificates → Some c.blob ≡ blob_in (presented hosts true a)
unfolding presented
certificate_of hosts a c e =
    let passes = found_passes (λ (x : HostCertificate). fits x.algorithm a && has_key hosts.keys x) hosts.certificates c (sym e) in
    let held = some_found (λ (k : HostKey). bytes_eq k.blob c.key_blob) hosts.keys (second_part (fits c.algorithm a) (has_key hosts.keys c) passes) in
    sym (ap (λ o. blob_in (by_holder c.blob o)) held.1) ∙ ap (λ o. blob_in (by_certificate hosts.keys o)) e

-- the same lists
certificates_same : (hosts : Hosts) (a : Algorithm) (keys : List HostKey) (certificates : List HostCertificate) → keys ≡ hosts.keys → certificates ≡ hosts.certificates
    → find (λ (x : HostCertificate). fits x.algorithm a && has_key keys x) certificates ≡ find (λ (x : HostCertificate). fits x.algorithm a && has_key hosts.keys x) hosts.certificates
certificates_same hosts a keys certificates s t =
    ap (λ k. find (λ (x : HostCertificate). fits x.algorithm a && has_key k x) certificates) s ∙ ap (λ l. find (λ (x : HostCertificate). fits x.algorithm a && has_key hosts.keys x) l) t

pub certificate_is : (hosts : Hosts) (a : Algorithm) (keys : List HostKey) (certificates : List HostCertificate) (c : HostCertificate) (blob : List ℕ) → keys ≡ hosts.keys → certificates ≡ hosts.certificates
    → Some c ≡ find (λ (x : HostCertificate). fits x.algorithm a && has_key keys x) certificates → blob ≡ c.blob → Some blob ≡ blob_in (presented hosts true a)
certificate_is hosts a keys certificates c blob s t e b = ap Some b ∙ certificate_of hosts a c (e ∙ certificates_same hosts a keys certificates s t)

pub no_certificate : (hosts : Hosts) (a : Algorithm) (keys : List HostKey) (certificates : List HostCertificate) → keys ≡ hosts.keys → certificates ≡ hosts.certificates
    → None ≡ find (λ (x : HostCertificate). fits x.algorithm a && has_key keys x) certificates → None ≡ blob_in (presented hosts true a)
unfolding presented
no_certificate hosts a keys certificates s t e = ap (λ o. blob_in (by_certificate hosts.keys o)) (e ∙ certificates_same hosts a keys certificates s t)
