-- A test signature is what a verifier is handed of it.
use Rattle.std.proofs.Common.{◌≡◌, ℕ, ◌+◌, ◌^◌, ◌<◌, ◌≤◌, List, ◌++◌, length, refl, ◌∙◌, ap, arith, Some, None, Bool, true, false, length-append}
use Rattle.std.specs.Str.{is_utf8, chars}
use lib.Utf8.{encode}
use Rattle.sha2.proofs.Facts256.{length-sha256}
use Rattle.ssh_wire.specs.Algorithms.{algorithm_name}
use Rattle.ssh_wire.specs.Forms.{u32be, string, magnitude, unsigned, mpint}
use Rattle.ssh_wire.proofs.Lemmas.{magnitude_length, unsigned_length}
use Rattle.ssh_wire.specs.declared.algorithm.Algorithm.{Algorithm}
use Rattle.ssh_wire.specs.declared.algorithm.Algorithm.TheVariants.{Ed25519, Ecdsa, Rsa}
use Rattle.ssh_wire.specs.declared.algorithm.EcdsaCurve.TheVariants.{NistP256, NistP384, NistP521}
use Rattle.ssh_wire.specs.declared.algorithm.HashAlg.TheVariants.{Sha256, Sha512}
use Rattle.ssh_kex.proofs.Lemmas.{canonical_again, not_canonical}
use Rattle.ssh_kex.specs.Signature.{is_ecdsa, or_same, judged}
use Rattle.ssh_vectors.specs.Hosts.{test_digest, test_signature, body_of}

signs_by_ecdsa : Algorithm → Bool
signs_by_ecdsa Ed25519 = false
signs_by_ecdsa (Ecdsa curve) = true
signs_by_ecdsa (Rsa hash) = false

named : (a : Algorithm) → (is_ecdsa (algorithm_name a) ≡ signs_by_ecdsa a) × (length (algorithm_name a) < 2 ^ 32)
unfolding signs_by_ecdsa is_utf8 chars encode
named Ed25519 = (refl, omega arith)
named (Ecdsa NistP256) = (refl, omega arith)
named (Ecdsa NistP384) = (refl, omega arith)
named (Ecdsa NistP521) = (refl, omega arith)
named (Rsa (Some Sha512)) = (refl, omega arith)
named (Rsa (Some Sha256)) = (refl, omega arith)
named (Rsa None) = (refl, omega arith)

mpint_short : (d : List ℕ) → length d ≡ 32 → length (mpint d) ≤ 37
mpint_short d h = omega (arith, h, magnitude_length d, unsigned_length (magnitude d), length-append (u32be (length (unsigned (magnitude d)))) (unsigned (magnitude d)))

judged_by : (a : Algorithm) (d : List ℕ) → length d ≡ 32 → judged (string (algorithm_name a) ++ string (body_of a d)) ≡ string (algorithm_name a) ++ string (body_of a d)
unfolding signs_by_ecdsa
judged_by Ed25519 d h = ap (or_same _) (not_canonical (algorithm_name Ed25519) d (named Ed25519).0 (named Ed25519).1 (omega (arith, h)))
judged_by (Ecdsa curve) d h = ap (or_same _) (canonical_again (algorithm_name (Ecdsa curve)) d d (named (Ecdsa curve)).0 (record { name_short = (named (Ecdsa curve)).1; inner_short = omega (arith, mpint_short d h, length-append (mpint d) (mpint d)) }))
judged_by (Rsa hash) d h = ap (or_same _) (not_canonical (algorithm_name (Rsa hash)) d (named (Rsa hash)).0 (named (Rsa hash)).1 (omega (arith, h)))

pub judged_test : (a : Algorithm) (key_blob hash : List ℕ) → judged (test_signature a key_blob hash) ≡ test_signature a key_blob hash
unfolding test_signature test_digest
judged_test a key_blob hash = judged_by a (test_digest a key_blob hash) (length-sha256 (string (algorithm_name a) ++ (string key_blob ++ string hash)))

-- the parts of a test signature are short
pub body_short : (a : Algorithm) (d : List ℕ) → length d ≡ 32 → length (body_of a d) ≤ 74
body_short Ed25519 d h = omega (arith, h)
body_short (Ecdsa curve) d h = omega (arith, mpint_short d h, length-append (mpint d) (mpint d))
body_short (Rsa hash) d h = omega (arith, h)

name_short : (a : Algorithm) → length (algorithm_name a) ≤ 19
unfolding is_utf8 chars encode
name_short Ed25519 = omega arith
name_short (Ecdsa NistP256) = omega arith
name_short (Ecdsa NistP384) = omega arith
name_short (Ecdsa NistP521) = omega arith
name_short (Rsa (Some Sha512)) = omega arith
name_short (Rsa (Some Sha256)) = omega arith
name_short (Rsa None) = omega arith

length_string : (bytes : List ℕ) → length (string bytes) ≡ length bytes + 4
length_string bytes = length-append (u32be (length bytes)) bytes ∙ omega arith

pub test_short : (a : Algorithm) (key_blob hash : List ℕ) → length (test_signature a key_blob hash) ≤ 65536
unfolding test_signature test_digest
test_short a key_blob hash =
    let d = test_digest a key_blob hash in
    omega (arith, name_short a, body_short a d (length-sha256 (string (algorithm_name a) ++ (string key_blob ++ string hash))), length_string (algorithm_name a), length_string (body_of a d), length-append (string (algorithm_name a)) (string (body_of a d)))
