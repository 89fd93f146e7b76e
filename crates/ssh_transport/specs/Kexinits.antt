-- A KEXINIT that is written.
use Rattle.std.specs.Prelude.{◌≡◌, ℕ, List, length}
use Rattle.ssh_wire.specs.Lines.{id_text}
use Rattle.ssh_wire.specs.declared.side.Side.{Side}
use Rattle.ssh_wire.specs.declared.side.Side.TheVariants.{Client, Server}
use Rattle.ssh_negotiate.specs.Advertised.{kexinit}
use Rattle.ssh_negotiate.specs.declared.kex.KexCause.{KexCause}
use Rattle.ssh_packet.specs.Sealing.{Item, IsAdmissible, IsPadded}
use Rattle.ssh_packet.specs.Writing.{Writer, with_item}
use Rattle.ssh_kex.specs.Setting.{Setting, offers_of}
use Rattle.ssh_kex.specs.declared.config.Config.{Config}

-- between a side and a peer whose version line has this text
abbrev pub setting_between : Side → Config → List ℕ → KexCause → Setting
setting_between Client config peer cause = record {
  side = Client;
  config = config;
  client_id = id_text config.id;
  server_id = peer;
  cause = cause;
}
setting_between Server config peer cause = record {
  side = Server;
  config = config;
  client_id = peer;
  server_id = id_text config.id;
  cause = cause;
}

-- a side's KEXINIT went behind the output, as this packet
pub record SendsKexinit (side : Side) (config : Config) (old : Writer) (item : Item) (new : Writer) : Type 0 where
  pub cookie : List ℕ
  pub cookie_length : length cookie ≡ 16
  pub payload_is : item.payload ≡ kexinit (offers_of side config) cookie
  pub admissible : IsAdmissible old.sealing item
  pub padded : IsPadded old.sealing item
  pub written : new ≡ record (with_item old item) { room = new.room }
