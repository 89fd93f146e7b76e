-- RSA signatures of host keys (RFC 8017 sections 8.2.2 and 9.2, RFC 8332).
use Rattle.std.specs.Prelude.{◌≡◌, ℕ, ◌+◌, ◌-◌, ◌<◌, ◌≤◌, ◌==◌, nat_lt, nat_le, Bool, true, false, not, is_some, ◌&&◌, if◌then◌else◌, List, [], ◌∷◌, ◌++◌, length, replicate, codes, Option, Some, None, Result, Ok, Err}
use Rattle.std.specs.Str.{bytes_eq}
use Rattle.ssh_mac.specs.Digests.{digest_of}
use Rattle.ssh_mac.specs.declared.digest.DigestKind.{DigestKind}
use Rattle.ssh_mac.specs.declared.digest.DigestKind.TheVariants as digests
use Rattle.ssh_wire.specs.Algorithms.{algorithm_name, hash_of}
use Rattle.ssh_wire.specs.Fields.{◌>>=◌, mpint_at, string_at}
use Rattle.ssh_wire.specs.Forms.{AreBytes, number, string}
use Rattle.ssh_wire.specs.declared.algorithm.Algorithm.{Algorithm}
use Rattle.ssh_wire.specs.declared.algorithm.HashAlg.{HashAlg}
use Rattle.ssh_wire.specs.declared.algorithm.HashAlg.TheVariants.{Sha256, Sha512}
use Rattle.ssh_wire.specs.declared.error.EncodingFault.{EncodingFault}
use Rattle.ssh_kex.specs.declared.exchange.ServerHost.{ServerHost}
use Rattle.ssh_power.specs.Moduli.{modulus_fault}
use Rattle.ssh_power.specs.Numbers.{power_modulo}

-- a public key: two numbers without zeros at the front
pub record RsaPublic : Type 0 where
  pub exponent : List ℕ
  pub modulus : List ℕ

-- ---- the encoded message (RFC 8017 section 9.2)

abbrev pub digest_kind : HashAlg → DigestKind
digest_kind Sha256 = digests.Sha256
digest_kind Sha512 = digests.Sha512

-- the DER form that stands before a digest (note 1 of the section)
abbrev pub digest_info : HashAlg → List ℕ
digest_info Sha256 =
    0x30 ∷ 0x31 ∷ 0x30 ∷ 0x0d ∷ 0x06 ∷ 0x09 ∷ 0x60 ∷ 0x86 ∷ 0x48 ∷ 0x01 ∷ 0x65 ∷ 0x03 ∷ 0x04 ∷ 0x02 ∷ 0x01 ∷ 0x05 ∷
    0x00 ∷ 0x04 ∷ 0x20 ∷ []
digest_info Sha512 =
    0x30 ∷ 0x51 ∷ 0x30 ∷ 0x0d ∷ 0x06 ∷ 0x09 ∷ 0x60 ∷ 0x86 ∷ 0x48 ∷ 0x01 ∷ 0x65 ∷ 0x03 ∷ 0x04 ∷ 0x02 ∷ 0x03 ∷ 0x05 ∷
    0x00 ∷ 0x04 ∷ 0x40 ∷ []

-- the digest of a text, behind its DER form
abbrev pub digest_form : HashAlg → List ℕ → List ℕ
digest_form hash text = digest_info hash ++ digest_of (digest_kind hash) text

-- of so many bytes: 0, 1, bytes of ones, 0, and the digest in its form
unfoldable pub encoded_message : HashAlg → List ℕ → ℕ → List ℕ
encoded_message hash text size =
    0 ∷ 1 ∷ replicate (size - (length (digest_form hash text) + 3)) 0xff ++ (0 ∷ digest_form hash text)

-- at least eight bytes of ones have room
abbrev pub has_message : HashAlg → List ℕ → ℕ → Bool
has_message hash text size = nat_le (length (digest_form hash text) + 11) size

-- ---- signatures (RFC 8017 section 8.2.2)

-- whether the power of a signature is the encoded message
unfoldable pub is_power_of_message : HashAlg → List ℕ → RsaPublic → List ℕ → Bool
is_power_of_message hash text key signature =
    power_modulo (number signature) (number key.exponent) (number key.modulus)
    == number (encoded_message hash text (length key.modulus))

-- whether a signature has the length of the modulus and is below it, and its power is the encoded message
abbrev pub verifies : HashAlg → List ℕ → RsaPublic → List ℕ → Bool
verifies hash text key signature =
    not (is_some (modulus_fault (number key.modulus))) && has_message hash text (length key.modulus)
    && (length signature == length key.modulus) && nat_lt (number signature) (number key.modulus)
    && is_power_of_message hash text key signature

-- what a private exponent makes of a text: as many bytes as the modulus has
pub record IsOwnSignature (hash : HashAlg) (text modulus private signature : List ℕ) : Type 0 where
  pub digits : AreBytes signature
  pub long : length signature ≡ length modulus
  pub spelled : number signature
      ≡ power_modulo (number (encoded_message hash text (length modulus))) (number private) (number modulus)

-- what the private exponent makes of a text is no signature under the public key
pub record FailsItsTest (hash : HashAlg) (text : List ℕ) (key : RsaPublic) (private : List ℕ) : Type 0 where
  pub made : List ℕ
  pub own : IsOwnSignature hash text key.modulus private made
  pub wrong : verifies hash text key made ≡ false

-- numbers below the modulus come back after both exponents
pub record IsKeyPair (key : RsaPublic) (private : List ℕ) : Type 0 where
  pub modulus : modulus_fault (number key.modulus) ≡ None
  pub undone : (n : ℕ) → n < number key.modulus
      → power_modulo (power_modulo n (number private) (number key.modulus)) (number key.exponent) (number key.modulus) ≡ n

-- ---- blobs (RFC 4253 section 6.6, RFC 8332 section 3)

-- a value under a name, with nothing behind it
abbrev pub under_name : {X : Type 0} → List ℕ → Result ((List ℕ × X) × List ℕ) EncodingFault → Option X
under_name name (Err fault) = None
under_name name (Ok ((given, x), [])) = if bytes_eq given name then Some x else None
under_name name (Ok (x, b ∷ rest)) = None

-- the fields of a public key's blob: the name, the exponent, the modulus
abbrev pub key_fields : List ℕ → Result ((List ℕ × RsaPublic) × List ℕ) EncodingFault
key_fields blob =
    string_at blob >>= λ name. mpint_at name.1 >>= λ e. mpint_at e.1 >>= λ n.
    Ok ((name.0, record { exponent = e.0; modulus = n.0 }), n.1)

abbrev pub rsa_key : List ℕ → Option RsaPublic
rsa_key blob = under_name (codes "ssh-rsa") (key_fields blob)

-- the fields of a signature's blob: the name and the signature
abbrev pub signature_fields : List ℕ → Result ((List ℕ × List ℕ) × List ℕ) EncodingFault
signature_fields blob = string_at blob >>= λ name. string_at name.1 >>= λ s. Ok ((name.0, s.0), s.1)

abbrev pub rsa_signature : Algorithm → List ℕ → Option (List ℕ)
rsa_signature algorithm blob = under_name (algorithm_name algorithm) (signature_fields blob)

-- a signature's blob of an algorithm
pub record IsRsaBlob (algorithm : Algorithm) (blob : List ℕ) : Type 0 where
  pub made : List ℕ
  pub short : length made ≤ 1024
  pub spelled : blob ≡ string (algorithm_name algorithm) ++ string made

-- why the key of a blob doesn't sign: no hash, no key of RSA, no modulus, no room for the message, or its signature
-- isn't one under the public key
abbrev pub LacksSignature : List ℕ → List ℕ → Algorithm → List ℕ → Type 0
LacksSignature blob private algorithm text = (hash : HashAlg) (key : RsaPublic) → hash_of algorithm ≡ Some hash
    → rsa_key blob ≡ Some key → modulus_fault (number key.modulus) ≡ None
    → has_message hash text (length key.modulus) ≡ true → FailsItsTest hash text key private

-- ---- hosts

-- whether the key of a blob made a signature of a text; no key, no signature and no hash make it none
abbrev pub verifies_blobs : List ℕ → Option HashAlg → Option RsaPublic → Option (List ℕ) → Bool
verifies_blobs text None key signature = false
verifies_blobs text (Some hash) None signature = false
verifies_blobs text (Some hash) (Some key) None = false
verifies_blobs text (Some hash) (Some key) (Some signature) = verifies hash text key signature

-- whether the key of a blob made a signature's blob of a text, under an algorithm
abbrev pub accepts_blobs : List ℕ → Algorithm → List ℕ → List ℕ → Bool
accepts_blobs blob algorithm text signature =
    verifies_blobs text (hash_of algorithm) (rsa_key blob) (rsa_signature algorithm signature)

-- whether a host's signature of an exchange hash is right
abbrev pub rsa_accepts : ServerHost → List ℕ → List ℕ → Bool
rsa_accepts host text signature = accepts_blobs host.blob host.algorithm text signature
