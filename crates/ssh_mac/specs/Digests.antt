-- The hash functions that SSH names (FIPS 180-4).
use Rattle.std.specs.Prelude.{ℕ, List}
use Rattle.sha1.specs.Sha1.{sha1}
use Rattle.sha2.specs.Sha256.{sha256}
use Rattle.sha2.specs.Sha512.{sha384, sha512}
use Rattle.ssh_mac.specs.declared.digest.DigestKind.{DigestKind}
use Rattle.ssh_mac.specs.declared.digest.DigestKind.TheVariants.{Sha1, Sha256, Sha384, Sha512}

-- the digest of a text
abbrev pub digest_of : DigestKind → List ℕ → List ℕ
digest_of Sha1 text = sha1 text
digest_of Sha256 text = sha256 text
digest_of Sha384 text = sha384 text
digest_of Sha512 text = sha512 text

-- the length of a digest in bytes
abbrev pub digest_length : DigestKind → ℕ
digest_length Sha1 = 20
digest_length Sha256 = 32
digest_length Sha384 = 48
digest_length Sha512 = 64

-- the length of the blocks that a hash function works on, in bytes
abbrev pub block_length : DigestKind → ℕ
block_length Sha1 = 64
block_length Sha256 = 64
block_length Sha384 = 128
block_length Sha512 = 128
