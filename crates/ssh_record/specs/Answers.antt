-- What an audit answers: the first thing that is wrong with a record, or what the record shows.
use Rattle.std.specs.Prelude.{◌≡◌, ℕ, suc, List, length, slice_get, Ok, Some, None}
use Rattle.ssh_wire.specs.declared.side.Side.{Side}
use Rattle.ssh_wire.specs.declared.side.Side.TheVariants.{Client, Server}
use Rattle.ssh_packet.specs.Sealing.{Item}
use Rattle.ssh_negotiate.specs.declared.negotiation.Names.{Names}
use Rattle.ssh_kex.specs.declared.config.Config.{Config}
use Rattle.ssh_kex.specs.declared.exchange.Exchange.{Exchange}
use Rattle.ssh_kex.specs.declared.exchange.FinishedExchange.{FinishedExchange}
use Rattle.ssh_rules.specs.Headline.{chosen_by}
use Rattle.ssh_rules.specs.Valid.{config_fault, first_config_fault}
use Rattle.ssh_rules.specs.Wire.{LiesWhole, carried_payloads}
use Rattle.ssh_rules.specs.declared.link.Mark.{Mark}
use Rattle.ssh_record.specs.Recordings.{JudgedRecord, Recording, config_in, wire_in}
use Rattle.ssh_record.specs.Exchanges.{AreExchanges, HasBlocks}
use Rattle.ssh_record.specs.Packets.{IsBadBehind, IsGoodWire}
use Rattle.ssh_record.specs.Runs.{BreaksRunAt, RunsBy}
use Rattle.ssh_record.specs.declared.report.AuditFault.{AuditFault}
use Rattle.ssh_record.specs.declared.report.AuditFault.TheVariants as fault
use Rattle.ssh_record.specs.declared.report.AuditEnd.{AuditEnd}
use Rattle.ssh_record.specs.declared.report.AuditEnd.TheVariants as end
use Rattle.ssh_record.specs.declared.report.AuditReport.{AuditReport}

-- Both configurations pass their tests, and these are the names that they choose.
pub record HaveNames (client server : Config) (names : Names) : Type 0 where
  pub valid : first_config_fault (config_fault Client client) (config_fault Server server) ≡ None
  pub chosen : chosen_by client server ≡ Ok names

-- one pair more than steps, and the last pair is the lengths of the wires
pub record FitsSent (r : Recording) : Type 0 where
  pub many : length r.sent ≡ suc (length r.steps)
  pub last : slice_get r.sent (length r.steps) ≡ Some (record { client = length r.client; server = length r.server })

-- a record between two configurations
abbrev pub judged_record : Config → Config → Recording → Names → JudgedRecord
judged_record client server r names = record { client = client; server = server; names = names; recording = r }

-- all exchanges that stand on both wires have a secret
pub record HaveSecrets (j : JudgedRecord) (xs : List FinishedExchange) : Type 0 where
  pub exchanges : AreExchanges j xs
  pub enough : (e : Exchange) (host : List ℕ) → HasBlocks j xs e host → ⊥

-- one exchange more stands on both wires than secrets are given
pub record LacksSecret (j : JudgedRecord) (blocks : ℕ) : Type 0 where
  pub exchanges : List FinishedExchange
  pub are : AreExchanges j exchanges
  pub exchange : Exchange
  pub host : List ℕ
  pub more : HasBlocks j exchanges exchange host
  pub blocks_is : blocks ≡ suc (length exchanges)

-- a packet of one side is bad; the client's come first
pub record HasBadPacket (j : JudgedRecord) (side : Side) (place : ℕ) : Type 0 where
  pub exchanges : List FinishedExchange
  pub secrets : HaveSecrets j exchanges
  pub client_good : side ≡ Server → IsGoodWire Client j exchanges
  pub bad : IsBadBehind side j exchanges place

-- both wires are good, and a mark isn't
pub record HasBadMark (j : JudgedRecord) (place : ℕ) : Type 0 where
  pub exchanges : List FinishedExchange
  pub secrets : HaveSecrets j exchanges
  pub client_good : IsGoodWire Client j exchanges
  pub server_good : IsGoodWire Server j exchanges
  pub breaks : BreaksRunAt j exchanges place

-- The first thing that is wrong with a record.
abbrev pub IsAuditFault : Config → Config → Recording → AuditFault → Type 0
IsAuditFault client server r fault.Config = (names : Names) → HaveNames client server names → ⊥
IsAuditFault client server r fault.Sent = (names : Names) × HaveNames client server names × (FitsSent r → ⊥)
IsAuditFault client server r (fault.Secrets blocks) =
    (names : Names) × HaveNames client server names × FitsSent r × LacksSecret (judged_record client server r names) blocks
IsAuditFault client server r (fault.Packet side place) =
    (names : Names) × HaveNames client server names × FitsSent r × HasBadPacket (judged_record client server r names) side place
IsAuditFault client server r (fault.Mark place) =
    (names : Names) × HaveNames client server names × FitsSent r × HasBadMark (judged_record client server r names) place

-- the payloads that lie whole in what a side took of the other's wire
abbrev pub AreDelivered : Side → JudgedRecord → List FinishedExchange → ℕ → List (List ℕ) → Type 0
AreDelivered other j xs taken delivered =
    (items : List Item) × LiesWhole other (config_in other j) xs (wire_in other j) taken items × (delivered ≡ carried_payloads items)

-- Nothing is wrong, and this is what the record shows: both wires are good, the marks are those of a run of the steps
-- that sent as much, and what was delivered lies whole in what was taken.
pub record IsAcceptedRecord (client server : Config) (r : Recording) (report : AuditReport) : Type 0 where
  pub names : Names
  pub have_names : HaveNames client server names
  pub fits : FitsSent r
  pub secrets : HaveSecrets (judged_record client server r names) report.exchanges
  pub client_good : IsGoodWire Client (judged_record client server r names) report.exchanges
  pub server_good : IsGoodWire Server (judged_record client server r names) report.exchanges
  pub runs : RunsBy (judged_record client server r names) report.exchanges (length r.steps) report.marks
  pub last : Mark
  pub last_is : slice_get report.marks (length r.steps) ≡ Some last
  pub to_client : AreDelivered Server (judged_record client server r names) report.exchanges last.client.taken report.client_delivered
  pub to_server : AreDelivered Client (judged_record client server r names) report.exchanges last.server.taken report.server_delivered

-- what an audit answers where it has no report
abbrev pub IsAuditEnd : Config → Config → Recording → AuditEnd → Type 0
IsAuditEnd client server r (end.Fault f) = IsAuditFault client server r f
IsAuditEnd client server r end.Memory = Unit {0}
