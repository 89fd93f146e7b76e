-- The machine of an exchange, of either side.
use Rattle.std.specs.Prelude.{◌≡◌}
use Rattle.ssh_wire.specs.declared.side.Side.TheVariants as sides
use Rattle.ssh_kex.specs.Stages.{Machine}
use Rattle.ssh_transport.specs.declared.machine.SideKex.{SideKex}
use Rattle.ssh_transport.specs.declared.machine.SideKex.TheVariants.{Client, Server}

-- what contracts see of it
abbrev pub machine_in : SideKex → Machine
machine_in (Client machine) = machine
machine_in (Server machine) = machine

-- it belongs to its side
abbrev pub IsOfSide : SideKex → Type 0
IsOfSide (Client machine) = machine.setting.side ≡ sides.Client
IsOfSide (Server machine) = machine.setting.side ≡ sides.Server
