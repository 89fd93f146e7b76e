-- Why the link of a run refuses a step.
use Rattle.std.specs.Prelude.{◌≡◌, ◌⊎◌, Bool}
use Rattle.ssh_wire.specs.declared.error.Error.{Error}
use Rattle.ssh_wire.specs.declared.error.Error.TheVariants.{Memory}
use Rattle.ssh_wire.specs.declared.side.Side.{Side}
use Rattle.ssh_wire.specs.declared.side.Side.TheVariants.{Client, Server}
use Rattle.ssh_negotiate.specs.declared.kex.Name as kexes
use Rattle.ssh_kex.specs.declared.config.Config.{Config}
use Rattle.ssh_kex.specs.declared.group.DhGroup.{DhGroup}
use Rattle.ssh_rules.specs.LinkCauses.{IsCauseOf, Rises}
use Rattle.ssh_run.specs.RefusedCarrying.{IsConfigFault}

-- Where the parts of both sides are lawful: memory is wanting, a configuration is refused, or a side refuses a message
-- for what its parts decide.
abbrev pub IsLinkCause : (Side → Rises) → (Side → Config) → (Side → kexes.Name → Bool) → DhGroup → Error → Type 0
IsLinkCause rises config offered group error = (error ≡ Memory)
    ⊎ (IsConfigFault (config Client) (config Server) error
    ⊎ ((side : Side) × IsCauseOf (rises side) side config (offered side) group error))
