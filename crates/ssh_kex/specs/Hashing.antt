-- A text that is hashed, taken in piece by piece.
use Rattle.std.specs.Prelude.{ℕ, ◌<◌, ◌^◌, List, ◌++◌, length}
use Rattle.ssh_mac.specs.Hashing.{IsHashing}
use Rattle.ssh_mac.specs.declared.digest.DigestKind.{DigestKind}
use Rattle.ssh_mac.specs.declared.digest.Hasher.{Hasher}
use Rattle.ssh_kex.specs.Exchange.{IsShortGex}
use Rattle.ssh_kex.specs.declared.exchange.Exchange.{Exchange}

-- whatever was hashed so far, these bytes were taken in behind it
abbrev pub TakesIn : Hasher → Hasher → List ℕ → Type 0
TakesIn old new bytes = (kind : DigestKind) (text : List ℕ) → IsHashing old kind text
    → IsHashing new kind (text ++ bytes)

-- all that is hashed of an exchange has a length of four bytes
pub record HasShortValues (host : List ℕ) (x : Exchange) : Type 0 where
  pub host_short : length host < 2 ^ 32
  pub client_id : length x.client_id < 2 ^ 32
  pub server_id : length x.server_id < 2 ^ 32
  pub client_kex_init : length x.client_kex_init < 2 ^ 32
  pub server_kex_init : length x.server_kex_init < 2 ^ 32
  pub client_ephemeral : length x.client_ephemeral < 2 ^ 32
  pub server_ephemeral : length x.server_ephemeral < 2 ^ 32
  pub gex : IsShortGex x.gex
