-- What a side is set up with, by the text of its key's file.
use Rattle.std.specs.Prelude.{◌≡◌, ℕ, List, [], ◌∷◌, Some, None}
use Rattle.ssh_wire.specs.declared.side.Side.{Side}
use Rattle.ssh_wire.specs.declared.side.Side.TheVariants.{Client, Server}
use Rattle.ssh_kex.specs.declared.config.Config.{Config}
use Rattle.ssh_modp.specs.Hosts.{RsaAsked, RsaSecret}
use Rattle.ssh_modp.specs.KeyFiles.{NamesHost, NamesNone, key_in}
use Rattle.ssh_pipe.specs.Setup.{pipe_config}

-- the file of a side is faulty: a client's names no host, a server's has no key
abbrev pub IsFaultyFile : Side → (text : List ℕ) → Type 0
IsFaultyFile Client text = NamesNone text
IsFaultyFile Server text = key_in text ≡ None

-- A client knows the one host that the file names.
pub record IsClientSetUp (text : List ℕ) (limit : ℕ) (config : Config) (hosts : RsaAsked) : Type 0 where
  pub blob : List ℕ
  pub named : NamesHost text blob
  pub known : hosts.known ≡ blob ∷ []
  pub none : hosts.key ≡ None
  pub of_config : config ≡ pipe_config [] limit

-- A server presents the blob of the file's key, with which it signs, and knows no host.
pub record IsServerSetUp (text : List ℕ) (limit : ℕ) (config : Config) (hosts : RsaAsked) : Type 0 where
  pub key : RsaSecret
  pub of_file : key_in text ≡ Some key
  pub signs : hosts.key ≡ Some key
  pub none : hosts.known ≡ []
  pub of_config : config ≡ pipe_config (key.blob ∷ []) limit

-- by the side
abbrev pub IsSetUp : Side → (text : List ℕ) → (limit : ℕ) → Config → RsaAsked → Type 0
IsSetUp Client text limit config hosts = IsClientSetUp text limit config hosts
IsSetUp Server text limit config hosts = IsServerSetUp text limit config hosts
