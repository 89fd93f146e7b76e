-- The two ends of a connection.
use Rattle.std.specs.Prelude.{Bool, true, false}
use Rattle.ssh_wire.specs.declared.side.Side.{Side}
use Rattle.ssh_wire.specs.declared.side.Side.TheVariants.{Client, Server}

abbrev pub other_side : Side → Side
other_side Client = Server
other_side Server = Client

abbrev pub same_side : Side → Side → Bool
same_side Client Client = true
same_side Client Server = false
same_side Server Client = false
same_side Server Server = true
