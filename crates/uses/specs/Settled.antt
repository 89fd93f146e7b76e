-- What a run of a link that ends with a settle delivered.
use Rattle.std.specs.Prelude.{◌≡◌, List, [], ◌∷◌, ◌++◌}
use Rattle.ssh_kex.specs.declared.config.Config.{Config}
use Rattle.ssh_rules.specs.Headline.{IsLink, submitted_by}
use Rattle.ssh_rules.specs.Parts.{ClientPairs, Secrets, ServerValues}
use Rattle.ssh_rules.specs.declared.link.LinkReport.{LinkReport}
use Rattle.ssh_rules.specs.declared.link.Step.{Step}
use Rattle.ssh_rules.specs.declared.link.Step.TheVariants.{Settle}
use Rattle.ssh_wire.specs.declared.side.Side.TheVariants.{Client, Server}

-- each side was delivered all that the other one submitted, in order
pub record AllDelivered (steps : List Step) (report : LinkReport) : Type 0 where
  pub to_server : report.server.delivered ≡ submitted_by Client steps
  pub to_client : report.client.delivered ≡ submitted_by Server steps

-- so after a settle, whatever stands before it
abbrev pub SettledDelivers : ClientPairs → ServerValues → Secrets → Type 0
SettledDelivers client_makes server_makes agrees =
    (client server : Config) (steps : List Step) (report : LinkReport)
    → IsLink client_makes server_makes agrees client server (steps ++ Settle ∷ []) report
    → AllDelivered (steps ++ Settle ∷ []) report
