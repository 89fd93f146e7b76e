-- Host key algorithms and their names (RFC 8709, RFC 5656, RFC 8332, RFC 4253), and those of their certificates.
use Rattle.std.specs.Prelude.{◌≡◌, ℕ, List, [], ◌∷◌, ◌++◌, codes, find, Option, Some, None, refl}
use Rattle.std.specs.Str.{bytes_eq}
use Rattle.ssh_wire.specs.declared.algorithm.Algorithm.{Algorithm}
use Rattle.ssh_wire.specs.declared.algorithm.Algorithm.TheVariants.{Ed25519, Ecdsa, Rsa}
use Rattle.ssh_wire.specs.declared.algorithm.EcdsaCurve.TheVariants.{NistP256, NistP384, NistP521}
use Rattle.ssh_wire.specs.declared.algorithm.HashAlg.{HashAlg}
use Rattle.ssh_wire.specs.declared.algorithm.HashAlg.TheVariants.{Sha256, Sha512}

abbrev pub algorithm_name : Algorithm → List ℕ
algorithm_name Ed25519 = codes "ssh-ed25519"
algorithm_name (Ecdsa NistP256) = codes "ecdsa-sha2-nistp256"
algorithm_name (Ecdsa NistP384) = codes "ecdsa-sha2-nistp384"
algorithm_name (Ecdsa NistP521) = codes "ecdsa-sha2-nistp521"
algorithm_name (Rsa (Some Sha512)) = codes "rsa-sha2-512"
algorithm_name (Rsa (Some Sha256)) = codes "rsa-sha2-256"
algorithm_name (Rsa None) = codes "ssh-rsa"

-- the name of its certificates
abbrev pub certificate_name : Algorithm → List ℕ
certificate_name algorithm = algorithm_name algorithm ++ codes "-cert-v01@openssh.com"

abbrev pub algorithms : List Algorithm
algorithms = Ed25519 ∷ (Ecdsa NistP256) ∷ (Ecdsa NistP384) ∷ (Ecdsa NistP521) ∷ (Rsa (Some Sha512)) ∷ (Rsa (Some Sha256)) ∷ (Rsa None) ∷ []

-- the one algorithm that has the name
abbrev pub algorithm_named : (Algorithm → List ℕ) → List ℕ → Option Algorithm
algorithm_named name text = find (λ a. bytes_eq (name a) text) algorithms

abbrev pub hash_of : Algorithm → Option HashAlg
hash_of Ed25519 = None
hash_of (Ecdsa curve) = None
hash_of (Rsa hash) = hash

abbrev pub with_hash : Option HashAlg → Algorithm → Algorithm
with_hash hash Ed25519 = Ed25519
with_hash hash (Ecdsa curve) = Ecdsa curve
with_hash hash (Rsa old) = Rsa hash

named-example : algorithm_named algorithm_name (codes "rsa-sha2-512") ≡ Some (Rsa (Some Sha512))
named-example = refl

certificate-example : algorithm_named certificate_name (codes "ssh-rsa-cert-v01@openssh.com") ≡ Some (Rsa None)
certificate-example = refl
