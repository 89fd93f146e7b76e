-- How often the parts may still be asked in an exchange.
use Rattle.std.specs.Prelude.{ℕ, Some, None}
use Rattle.ssh_wire.specs.declared.side.Side.{Side}
use Rattle.ssh_wire.specs.declared.side.Side.TheVariants.{Client, Server}
use Rattle.ssh_kex.specs.Stages.{Stage, Created, AwaitsGroup, AwaitsReply, AwaitsRequest, AwaitsValue, AwaitsNewkeys}

-- a client's agreement twice, a server's once
abbrev pub agreement_left : Side → Stage → ℕ
agreement_left Client (Created own) = 2
agreement_left Server (Created own) = 1
agreement_left side (AwaitsGroup o) = 2
agreement_left side (AwaitsReply o gex local public) = 1
agreement_left side (AwaitsRequest o) = 1
agreement_left side (AwaitsValue o gex) = 1
agreement_left side (AwaitsNewkeys exchange made host) = 0

-- a client's host keys for the reply and at the end, a server's once
abbrev pub hosts_left : Side → Stage → ℕ
hosts_left Client (Created own) = 2
hosts_left Server (Created own) = 1
hosts_left side (AwaitsGroup o) = 2
hosts_left side (AwaitsReply o gex local public) = 2
hosts_left side (AwaitsRequest o) = 1
hosts_left side (AwaitsValue o gex) = 1
hosts_left side (AwaitsNewkeys exchange made None) = 0
hosts_left side (AwaitsNewkeys exchange made (Some host)) = 1

-- a server's lookup at most once, a client's never
abbrev pub lookups_left : Side → Stage → ℕ
lookups_left Client (Created own) = 0
lookups_left Server (Created own) = 1
lookups_left side (AwaitsGroup o) = 0
lookups_left side (AwaitsReply o gex local public) = 0
lookups_left side (AwaitsRequest o) = 1
lookups_left side (AwaitsValue o gex) = 0
lookups_left side (AwaitsNewkeys exchange made host) = 0
