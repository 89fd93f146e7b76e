-- What a hasher holds.
use Rattle.std.specs.Prelude.{◌≡◌, ℕ, List}
use Rattle.sha1.specs.Sha1.{Holds}
use Rattle.sha2.specs.Hashers.{Holds256, Holds384, Holds512}
use Rattle.ssh_mac.specs.declared.digest.DigestKind.{DigestKind}
use Rattle.ssh_mac.specs.declared.digest.DigestKind.TheVariants as K
use Rattle.ssh_mac.specs.declared.digest.State.{State}
use Rattle.ssh_mac.specs.declared.digest.State.TheVariants.{Sha1, Sha256, Sha384, Sha512}
use Rattle.ssh_mac.specs.declared.digest.Hasher.{Hasher}
use Rattle.ssh_mac.specs.Hmac.{block_key, bytes_xor}

-- the hash function of a state
abbrev pub kind_of : State → DigestKind
kind_of (Sha1 hasher) = K.Sha1
kind_of (Sha256 hasher) = K.Sha256
kind_of (Sha384 hasher) = K.Sha384
kind_of (Sha512 hasher) = K.Sha512

-- the state has taken in this text
abbrev pub HasTaken : State → List ℕ → Type 0
HasTaken (Sha1 hasher) text = Holds hasher text
HasTaken (Sha256 hasher) text = Holds256 hasher text
HasTaken (Sha384 hasher) text = Holds384 hasher text
HasTaken (Sha512 hasher) text = Holds512 hasher text

-- the hasher hashes by this function, and this is the text so far
unfoldable pub IsHashing : Hasher → DigestKind → List ℕ → Type 0
IsHashing hasher kind text = (kind_of hasher.state ≡ kind) × HasTaken hasher.state text

-- two hashers have taken in the blocks of a key of HMAC, the inner one and the outer one
pub record AreKeyed (inner outer : Hasher) (kind : DigestKind) (key : List ℕ) : Type 0 where
  pub inner_is : IsHashing inner kind (bytes_xor 0x36 (block_key kind key))
  pub outer_is : IsHashing outer kind (bytes_xor 0x5c (block_key kind key))
