-- The record that is taken of a link.
use Rattle.std.specs.Prelude.{◌≡◌, ℕ, List, length, map, slice_get, Some}
use Rattle.ssh_kex.specs.Setting.{group_of}
use Rattle.ssh_kex.specs.declared.config.Config.{Config}
use Rattle.ssh_kex.specs.declared.exchange.Exchange.{Exchange}
use Rattle.ssh_kex.specs.declared.exchange.FinishedExchange.{FinishedExchange}
use Rattle.ssh_negotiate.specs.declared.negotiation.Names.{Names}
use Rattle.ssh_rules.specs.Headline.{IsLink}
use Rattle.ssh_rules.specs.Parts.{ClientPairs, Secrets, ServerValues}
use Rattle.ssh_rules.specs.Valid.{HasSizes}
use Rattle.ssh_rules.specs.Wire.{HasFront}
use Rattle.ssh_rules.specs.declared.link.LinkReport.{LinkReport}
use Rattle.ssh_rules.specs.declared.link.Step.{Step}
use Rattle.ssh_record.specs.Answers.{HaveNames, IsAcceptedRecord, IsAuditFault, judged_record}
use Rattle.ssh_record.specs.Exchanges.{AreNext, HasBlocks}
use Rattle.ssh_record.specs.Recordings.{JudgedRecord, Recording}
use Rattle.ssh_record.specs.Runs.{sent_at}
use Rattle.ssh_record.specs.declared.report.AuditFault.{AuditFault}
use Rattle.ssh_record.specs.declared.report.AuditReport.{AuditReport}

-- of a link's report, with these secrets
abbrev pub recording_of : List Step → LinkReport → List (List ℕ) → Recording
recording_of steps report secrets = record {
  steps = steps;
  sent = map sent_at report.marks;
  secrets = secrets;
  client = report.client.wire;
  server = report.server.wire;
}

-- the one secret on which both sides agree over these values, which they made
pub record IsSecretOf (client_makes : ClientPairs) (server_makes : ServerValues) (agrees : Secrets) (names : Names) (e : Exchange) (secret : List ℕ) : Type 0 where
  pub one : (local other : List ℕ) → client_makes names.kex (group_of e.gex) local e.client_ephemeral
      → server_makes names.kex (group_of e.gex) e.client_ephemeral e.server_ephemeral
      → agrees names.kex (group_of e.gex) e.client_ephemeral e.server_ephemeral other → other ≡ secret

-- For each block that is whole on both wires, read under the exchanges before it, the record has the secret of its
-- values.
pub record HasSecretsOf (client_makes : ClientPairs) (server_makes : ServerValues) (agrees : Secrets) (j : JudgedRecord) : Type 0 where
  pub given : (before : List FinishedExchange) (e : Exchange) (host : List ℕ) → AreNext j before → HasBlocks j before e host
      → (secret : List ℕ) × (slice_get j.recording.secrets (length before) ≡ Some secret)
      × IsSecretOf client_makes server_makes agrees j.names e secret

-- A record that is taken of a link has no fault, where the configurations pass and choose names.
abbrev pub LinkHasNoFault : ClientPairs → ServerValues → Secrets → Type 0
LinkHasNoFault client_makes server_makes agrees =
    (client server : Config) (steps : List Step) (report : LinkReport) (secrets : List (List ℕ)) (names : Names)
    → HaveNames client server names → HasSizes client
    → IsLink client_makes server_makes agrees client server steps report
    → HasSecretsOf client_makes server_makes agrees (judged_record client server (recording_of steps report secrets) names)
    → (f : AuditFault) → IsAuditFault client server (recording_of steps report secrets) f → ⊥

-- What an audit tells is what the link's report tells: its marks, what was delivered, and all exchanges of either side.
pub record ShowsLink (report : LinkReport) (a : AuditReport) : Type 0 where
  pub marks : a.marks ≡ report.marks
  pub to_client : a.client_delivered ≡ report.client.delivered
  pub to_server : a.server_delivered ≡ report.server.delivered
  pub client_exchanges : HasFront a.exchanges report.client.exchanges
  pub server_exchanges : HasFront a.exchanges report.server.exchanges

-- of a record that is taken of a link
abbrev pub LinkIsShown : ClientPairs → ServerValues → Secrets → Type 0
LinkIsShown client_makes server_makes agrees =
    (client server : Config) (steps : List Step) (report : LinkReport) (secrets : List (List ℕ)) (names : Names)
    → HaveNames client server names → HasSizes client
    → IsLink client_makes server_makes agrees client server steps report
    → HasSecretsOf client_makes server_makes agrees (judged_record client server (recording_of steps report secrets) names)
    → (a : AuditReport) → IsAcceptedRecord client server (recording_of steps report secrets) a → ShowsLink report a
