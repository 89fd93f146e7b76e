-- What is judged, and by what.
use Rattle.std.specs.Prelude.{ℕ, List}
use Rattle.ssh_wire.specs.declared.side.Side.{Side}
use Rattle.ssh_wire.specs.declared.side.Side.TheVariants.{Client, Server}
use Rattle.ssh_negotiate.specs.declared.negotiation.Names.{Names}
use Rattle.ssh_kex.specs.declared.config.Config.{Config}
use Rattle.ssh_rules.specs.declared.link.Step.{Step}
use Rattle.ssh_record.specs.declared.recording.SentPair.{SentPair}

-- The record of a link: its steps, how much was sent before the first and behind each, the secret of each exchange, and
-- both wires.
pub record Recording : Type 0 where
  pub steps : List Step
  pub sent : List SentPair
  pub secrets : List (List ℕ)
  pub client : List ℕ
  pub server : List ℕ

-- A record, both configurations, and the names that they choose.
pub record JudgedRecord : Type 0 where
  pub client : Config
  pub server : Config
  pub names : Names
  pub recording : Recording

-- a side's configuration
abbrev pub config_in : Side → JudgedRecord → Config
config_in Client j = j.client
config_in Server j = j.server

-- a side's wire
abbrev pub wire_in : Side → JudgedRecord → List ℕ
wire_in Client j = j.recording.client
wire_in Server j = j.recording.server
