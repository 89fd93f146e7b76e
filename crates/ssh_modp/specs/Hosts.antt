-- RSA host keys: what is signed with one key, and which hosts are known.
use Rattle.std.specs.Prelude.{◌≡◌, ℕ, ◌+◌, ◌≤◌, Bool, true, List, length, Option, Some, Result}
use Rattle.std.specs.List.{list_any}
use Rattle.std.specs.Str.{bytes_eq}
use Rattle.ssh_mac.specs.Digests.{digest_length}
use Rattle.ssh_negotiate.specs.declared.preferred.HostKey.{HostKey}
use Rattle.ssh_wire.specs.Algorithms.{hash_of}
use Rattle.ssh_wire.specs.Outside.{next_count}
use Rattle.ssh_wire.specs.declared.algorithm.Algorithm.{Algorithm}
use Rattle.ssh_wire.specs.declared.algorithm.HashAlg.{HashAlg}
use Rattle.ssh_kex.specs.Parts.{IsRefused, Presents}
use Rattle.ssh_kex.specs.declared.config.Config.{Config}
use Rattle.ssh_kex.specs.declared.exchange.ServerHost.{ServerHost}
use Rattle.ssh_kex.specs.declared.parts.Refusal.{Refusal}
use Rattle.ssh_modp.specs.Rsa.{IsKeyPair, RsaPublic, digest_info, digest_kind, rsa_accepts, rsa_key}

-- a private key: the blob of its public key, and the private exponent
pub record RsaSecret : Type 0 where
  pub blob : List ℕ
  pub private : List ℕ

-- RSA hosts: the key that signs, the blobs that are known, and how often they were asked and refused
pub record RsaAsked : Type 0 where
  pub key : Option RsaSecret
  pub known : List (List ℕ)
  pub calls : ℕ
  pub refused_sign : ℕ
  pub refused_verify : ℕ
  pub refused_check : ℕ

-- whether a blob is known
abbrev pub is_known : List (List ℕ) → ServerHost → Bool
is_known known host = list_any (λ (blob : List ℕ). bytes_eq blob host.blob) known

-- a signature of a host that a server presents: one that its blob accepts
abbrev pub RsaMakes : Config → ServerHost → List ℕ → List ℕ → Type 0
RsaMakes server host text signature = rsa_accepts host text signature ≡ true

-- the key signs for a host: its blob is the host's, both exponents undo each other, and each message has room
pub record SignsAs (key : RsaSecret) (host : ServerHost) : Type 0 where
  pub blob : key.blob ≡ host.blob
  pub hash : HashAlg
  pub hashed : hash_of host.algorithm ≡ Some hash
  pub public : RsaPublic
  pub read : rsa_key key.blob ≡ Some public
  pub pair : IsKeyPair public key.private
  pub room : length (digest_info hash) + digest_length (digest_kind hash) + 11 ≤ length public.modulus

-- there is a key, and it signs for each host that the server presents
pub record SignsAll (key : Option RsaSecret) (server : Config) : Type 0 where
  pub secret : RsaSecret
  pub held : key ≡ Some secret
  pub each : (host : ServerHost) (signer : HostKey) (algorithm : Algorithm) → Presents server host signer algorithm
      → SignsAs secret host

-- each host that the server presents is known
abbrev pub KnowsAll : List (List ℕ) → Config → Type 0
KnowsAll known server =
    (host : ServerHost) (key : HostKey) → Presents server host key host.algorithm → is_known known host ≡ true

-- after one call more: its answer is counted where it is a refusal, and nothing else is
pub record AskedToSign {T : Type 0} (old new : RsaAsked) (result : Result T Refusal) : Type 0 where
  pub key : new.key ≡ old.key
  pub known : new.known ≡ old.known
  pub calls : new.calls ≡ next_count old.calls
  pub refused : IsRefused result → new.refused_sign ≡ next_count old.refused_sign
  pub answered : (IsRefused result → ⊥) → new.refused_sign ≡ old.refused_sign
  pub verify : new.refused_verify ≡ old.refused_verify
  pub check : new.refused_check ≡ old.refused_check

pub record AskedToVerify {T : Type 0} (old new : RsaAsked) (result : Result T Refusal) : Type 0 where
  pub key : new.key ≡ old.key
  pub known : new.known ≡ old.known
  pub calls : new.calls ≡ next_count old.calls
  pub refused : IsRefused result → new.refused_verify ≡ next_count old.refused_verify
  pub answered : (IsRefused result → ⊥) → new.refused_verify ≡ old.refused_verify
  pub sign : new.refused_sign ≡ old.refused_sign
  pub check : new.refused_check ≡ old.refused_check

pub record AskedToCheck {T : Type 0} (old new : RsaAsked) (result : Result T Refusal) : Type 0 where
  pub key : new.key ≡ old.key
  pub known : new.known ≡ old.known
  pub calls : new.calls ≡ next_count old.calls
  pub refused : IsRefused result → new.refused_check ≡ next_count old.refused_check
  pub answered : (IsRefused result → ⊥) → new.refused_check ≡ old.refused_check
  pub sign : new.refused_sign ≡ old.refused_sign
  pub verify : new.refused_verify ≡ old.refused_verify
