-- Configurations that an exchange can be begun with.
use Rattle.std.specs.Prelude.{◌<◌, ◌^◌, length}
use Rattle.ssh_wire.specs.Lines.{id_text}
use Rattle.ssh_wire.specs.declared.side.Side.{Side}
use Rattle.ssh_negotiate.specs.Laws.{AreShort}
use Rattle.ssh_server_kex.specs.ServerRows.{AreShortBlobs}
use Rattle.ssh_kex.specs.Setting.{offers_of}
use Rattle.ssh_kex.specs.declared.config.Config.{Config}

-- what a side's exchange asks of its configuration
pub record IsUsable (side : Side) (config : Config) : Type 0 where
  pub id : length (id_text config.id) < 2 ^ 31
  pub lists : AreShort (offers_of side config)
  pub blobs : AreShortBlobs config.host
