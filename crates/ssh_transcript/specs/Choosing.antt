-- What two configurations choose.
use Rattle.std.specs.Prelude.{◌≡◌, ℕ, List, length, false, Ok}
use Rattle.ssh_wire.specs.declared.side.Side.TheVariants.{Client, Server}
use Rattle.ssh_negotiate.specs.Advertised.{Offers, kexinit}
use Rattle.ssh_negotiate.specs.Laws.{IsWithin}
use Rattle.ssh_negotiate.specs.Reading.{names_read}
use Rattle.ssh_negotiate.specs.declared.negotiation.Names.{Names}
use Rattle.ssh_kex.specs.Setting.{offers_of}
use Rattle.ssh_kex.specs.declared.config.Config.{Config}
use Rattle.ssh_record.specs.Answers.{HaveNames}
use Rattle.ssh_transcript.specs.declared.setting.Setting.{Setting}

-- Bytes are a KEXINIT of lists that may be sent, with some cookie.
pub record IsKexinitOf (o : Offers) (bytes : List ℕ) : Type 0 where
  pub cookie : List ℕ
  pub sixteen : length cookie ≡ 16
  pub spelled : bytes ≡ kexinit o cookie
  pub within : IsWithin o

-- a client takes these names from the KEXINIT
abbrev pub TakesNames : Config → List ℕ → Names → Type 0
TakesNames client bytes n = names_read Client (offers_of Client client) false bytes ≡ Ok n

-- The configurations pass, and the rest of a setting is what they choose.
pub record IsSettingOf (client server : Config) (s : Setting) : Type 0 where
  pub client_is : s.client.now ≡ client
  pub server_is : s.server.now ≡ server
  pub have_names : HaveNames client server s.names
  pub client_kexinit : IsKexinitOf (offers_of Client client) s.client_kexinit
  pub server_kexinit : IsKexinitOf (offers_of Server server) s.server_kexinit

-- there are no names that both choose, or a configuration is refused
abbrev pub ChooseNone : Config → Config → Type 0
ChooseNone client server = (names : Names) → HaveNames client server names → ⊥
