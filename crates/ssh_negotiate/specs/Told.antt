-- How long the lists are that a side advertises, told without making them.
use Rattle.std.specs.Prelude.{◌≡◌, ℕ, ◌+◌, min, Bool, List, [], ◌∷◌, length, Some, None}
use Rattle.std.specs.List.{list_any}
use Rattle.std.specs.Str.{bytes_eq}
use Rattle.ssh_wire.specs.Algorithms.{algorithm_name}
use Rattle.ssh_wire.specs.Names.{name_limit}
use Rattle.ssh_wire.specs.declared.algorithm.Algorithm.{Algorithm}
use Rattle.ssh_wire.specs.declared.algorithm.Algorithm.TheVariants.{Ed25519, Ecdsa, Rsa}
use Rattle.ssh_wire.specs.declared.algorithm.EcdsaCurve.TheVariants.{NistP256, NistP384, NistP521}
use Rattle.ssh_wire.specs.declared.algorithm.HashAlg.TheVariants.{Sha256, Sha512}
use Rattle.ssh_negotiate.specs.declared.told.Seen.{Seen}
use Rattle.ssh_negotiate.specs.declared.told.Told.{Told}

-- the bytes of texts, with a comma behind each
abbrev pub bytes_with_commas : List (List ℕ) → ℕ
bytes_with_commas [] = 0
bytes_with_commas (text ∷ texts) = (length text + 1) + bytes_with_commas texts

-- so many of these texts are told, up to one more than may be advertised
pub record Tells (told : Told) (texts : List (List ℕ)) : Type 0 where
  pub names : told.names ≡ min (length texts) (name_limit + 1)
  pub bytes : told.bytes ≡ min (bytes_with_commas texts) 16386

-- whether an algorithm is marked
abbrev pub has_seen : Seen → Algorithm → Bool
has_seen seen Ed25519 = seen.ed25519
has_seen seen (Ecdsa NistP256) = seen.nistp256
has_seen seen (Ecdsa NistP384) = seen.nistp384
has_seen seen (Ecdsa NistP521) = seen.nistp521
has_seen seen (Rsa (Some Sha512)) = seen.rsa_sha512
has_seen seen (Rsa (Some Sha256)) = seen.rsa_sha256
has_seen seen (Rsa None) = seen.rsa

-- those of a list are marked
abbrev pub Knows : Seen → List Algorithm → Type 0
Knows seen list = (a : Algorithm) → has_seen seen a ≡ list_any (λ n. bytes_eq (algorithm_name n) (algorithm_name a)) list
