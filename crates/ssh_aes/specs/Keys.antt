-- What the prepared key of AES holds.
use Rattle.std.specs.Prelude.{◌≡◌, ℕ, ◌+◌, ◌*◌, ◌⊎◌, List, take}
use Rattle.ssh_aes.specs.Aes.{expanded_key}
use Rattle.ssh_aes.specs.Columns.{AreUnmixed}

-- a key has 16, 24 or 32 bytes (FIPS 197 section 5)
abbrev pub IsKeyLength : ℕ → Type 0
IsKeyLength n = (n ≡ 16) ⊎ ((n ≡ 24) ⊎ (n ≡ 32))

-- the key of a number of words at the front of its schedule
abbrev pub key_in : ℕ → List ℕ → List ℕ
key_in words keys = take (4 * words) keys

-- the bytes are a schedule, with anything behind it
pub record IsExpanded (words : ℕ) (keys : List ℕ) : Type 0 where
  pub length_is : IsKeyLength (4 * words)
  pub keys_are : take (16 * (words + 7)) keys ≡ expanded_key (key_in words keys)

-- the same, beside the keys of decryption (section 5.3.5)
pub record IsPrepared (words : ℕ) (keys inverse_keys : List ℕ) : Type 0 where
  pub expanded : IsExpanded words keys
  pub unmixed : AreUnmixed 15 keys inverse_keys
