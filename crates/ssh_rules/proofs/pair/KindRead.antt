-- What both sides read of the other's own KEXINIT has the kind that their configurations choose.
use Rattle.std.proofs.Common.{sym}
use Rattle.ssh_wire.specs.Sides.{other_side}
use Rattle.ssh_wire.specs.declared.side.Side.{Side}
use Rattle.ssh_wire.specs.declared.side.Side.TheVariants.{Client, Server}
use Rattle.ssh_negotiate.specs.Laws.{IsWithin}
use Rattle.ssh_kex.specs.Setting.{offers_of}
use Rattle.ssh_kex.specs.declared.config.Config.{Config}
use Rattle.ssh_rules.specs.Snapshots.{kind_chosen}
use Rattle.ssh_rules.proofs.headline.LinkWire.{kind_is, read_chosen}
use Rattle.ssh_rules.proofs.pair.OneKind.{ReadsKind}

pub reads_kind : (config : Side → Config) → IsWithin (offers_of Client (config Client)) → IsWithin (offers_of Server (config Server)) → (side : Side) → ReadsKind side (config side) (config (other_side side)) (kind_chosen config)
reads_kind config c s side = λ b cookie n l e. sym (kind_is config b n (read_chosen side config b cookie n c s l e))
