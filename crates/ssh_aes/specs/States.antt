-- What contracts see of the ciphers that run on.
use Rattle.std.specs.Prelude.{ℕ, List}
use Rattle.ssh_aes.specs.Modes.{Running, Ctr, Cbc}

-- counter mode: the key, the first counter block, and the place in bytes
pub record CtrState : Type 0 where
  pub key : List ℕ
  pub iv : List ℕ
  pub place : ℕ

-- chaining mode: the key, and the cipher block before the next
pub record CbcState : Type 0 where
  pub key : List ℕ
  pub last : List ℕ

abbrev pub ctr_running : CtrState → Running
ctr_running s = Ctr s.key s.iv s.place

abbrev pub cbc_running : CbcState → Running
cbc_running s = Cbc s.key s.last
