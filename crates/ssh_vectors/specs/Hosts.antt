-- What the test host keys sign, accept and trust.
use Rattle.std.specs.Prelude.{◌≡◌, ℕ, Bool, true, false, is_some, List, ◌++◌, find, Option, Some, None, Result, Ok, Err}
use Rattle.std.specs.List.{All}
use Rattle.std.specs.Str.{bytes_eq}
use Rattle.sha2.specs.Sha256.{sha256}
use Rattle.ssh_negotiate.specs.Preferences.{Hosts}
use Rattle.ssh_negotiate.specs.declared.preferred.HostCertificate.{HostCertificate}
use Rattle.ssh_negotiate.specs.declared.preferred.HostKey.{HostKey}
use Rattle.ssh_wire.specs.Algorithms.{algorithm_name}
use Rattle.ssh_wire.specs.Forms.{string, mpint}
use Rattle.ssh_wire.specs.Outside.{next_count}
use Rattle.ssh_wire.specs.declared.algorithm.Algorithm.{Algorithm}
use Rattle.ssh_wire.specs.declared.algorithm.Algorithm.TheVariants.{Ed25519, Ecdsa, Rsa}
use Rattle.ssh_kex.specs.Parts.{Presents}
use Rattle.ssh_kex.specs.declared.config.Config.{Config}
use Rattle.ssh_kex.specs.declared.exchange.ServerHost.{ServerHost}
use Rattle.ssh_kex.specs.declared.parts.Refusal.{Refusal}
use Rattle.ssh_kex.specs.declared.parts.Refusal.TheVariants.{Refused}
use Rattle.ssh_vectors.specs.Refusing.{raised}
use Rattle.ssh_vectors.specs.declared.hosts.TrustedHost.{TrustedHost}

-- test host keys: the hosts that are trusted, in order, and how often they were asked and refused
pub record AskedHosts : Type 0 where
  pub trusted : List TrustedHost
  pub calls : ℕ
  pub refused_verify : ℕ
  pub refused_check : ℕ

-- after one call more, which refused a signature, or a host, or neither
abbrev pub hosts_asked : AskedHosts → Bool → Bool → AskedHosts
hosts_asked h bad_signature bad_host = record {
  trusted = h.trusted;
  calls = next_count h.calls;
  refused_verify = raised bad_signature h.refused_verify;
  refused_check = raised bad_host h.refused_check;
}

-- SHA-256 of the strings algorithm, key, hash
unfoldable pub test_digest : Algorithm → List ℕ → List ℕ → List ℕ
test_digest algorithm key_blob hash = sha256 (string (algorithm_name algorithm) ++ (string key_blob ++ string hash))

-- the digest, or of ECDSA twice its number
abbrev pub body_of : Algorithm → List ℕ → List ℕ
body_of Ed25519 digest = digest
body_of (Ecdsa curve) digest = mpint digest ++ mpint digest
body_of (Rsa hash) digest = digest

-- a signature: the algorithm's name, and the digest, as strings (RFC 4253 section 6.6)
unfoldable pub test_signature : Algorithm → List ℕ → List ℕ → List ℕ
test_signature algorithm key_blob hash =
    string (algorithm_name algorithm) ++ string (body_of algorithm (test_digest algorithm key_blob hash))

-- how the host of a blob is trusted: the first that has it decides
abbrev pub trusted_as : List TrustedHost → List ℕ → Option TrustedHost
trusted_as trusted blob = find (λ (t : TrustedHost). bytes_eq t.blob blob) trusted

-- whether it is the signature of the key that a host is trusted with
abbrev pub is_signed : Option TrustedHost → Algorithm → List ℕ → List ℕ → Bool
is_signed None algorithm hash signature = false
is_signed (Some t) algorithm hash signature = bytes_eq signature (test_signature algorithm t.key_blob hash)

-- whether a host's signature of a hash is right
abbrev pub accepted : List TrustedHost → ServerHost → List ℕ → List ℕ → Bool
accepted trusted host hash signature = is_signed (trusted_as trusted host.blob) host.algorithm hash signature

-- whether a host is trusted
abbrev pub is_trusted : List TrustedHost → ServerHost → Bool
is_trusted trusted host = is_some (trusted_as trusted host.blob)

-- what `check` answers
abbrev pub check_answer : Bool → Result (Unit {0}) Refusal
check_answer true = Ok tt
check_answer false = Err Refused

-- a signature of a host that a server presents
pub record Makes (server : Config) (host : ServerHost) (hash signature : List ℕ) : Type 0 where
  pub key : HostKey
  pub algorithm : Algorithm
  pub presents : Presents server host key algorithm
  pub signed : signature ≡ test_signature algorithm key.blob hash

-- the host is trusted with this key
pub record TrustsKey (trusted : List TrustedHost) (blob key_blob : List ℕ) : Type 0 where
  pub as' : TrustedHost
  pub found : trusted_as trusted blob ≡ Some as'
  pub key_is : as'.key_blob ≡ key_blob

-- each host that the server presents is trusted with the key that signs for it
abbrev pub TrustsAll : List TrustedHost → Config → Type 0
TrustsAll trusted server =
    (host : ServerHost) (key : HostKey) (algorithm : Algorithm) → Presents server host key algorithm
    → TrustsKey trusted host.blob key.blob

-- each key of a server is trusted as its own, and each certificate with the key that it names
pub record TrustsHosts (trusted : List TrustedHost) (hosts : Hosts) : Type 0 where
  pub keys : All (λ (k : HostKey). TrustsKey trusted k.blob k.blob) hosts.keys
  pub certificates : All (λ (c : HostCertificate). TrustsKey trusted c.blob c.key_blob) hosts.certificates

-- the law: then each host that it presents is trusted with the key that signs for it
abbrev pub HostsTrusted : Type 0
HostsTrusted = (trusted : List TrustedHost) (server : Config) → TrustsHosts trusted server.host → TrustsAll trusted server
