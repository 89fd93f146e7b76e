-- What a report of a link says whatever the handed-in parts are.
use Rattle.std.specs.Prelude.{◌≡◌, ◌≤◌, ℕ, List, length, take, drop, slice_get, true, Some, if◌then◌else◌}
use Rattle.ssh_packet.specs.Sealing.{Item}
use Rattle.ssh_wire.specs.Lines.{id_line}
use Rattle.ssh_wire.specs.declared.side.Side.{Side}
use Rattle.ssh_wire.specs.declared.side.Side.TheVariants.{Client, Server}
use Rattle.ssh_rules.specs.Parts.{Accepting, Trusting}
use Rattle.ssh_kex.specs.Signature.{judged}
use Rattle.ssh_kex.specs.declared.config.Config.{Config}
use Rattle.ssh_kex.specs.declared.exchange.FinishedExchange.{FinishedExchange}
use Rattle.ssh_rules.specs.declared.link.LinkReport.{LinkReport}
use Rattle.ssh_rules.specs.declared.link.SideReport.{SideReport}
use Rattle.ssh_kex.specs.Messages.{host_with, is_gex, reply_message}
use Rattle.ssh_rules.specs.Wire.{HasFront, carried_payloads, exchange_block, epochs_ended}
use Rattle.ssh_rules.specs.Handled.{Handled, AllRead}
use Rattle.ssh_rules.specs.Guess.{BeforeKexinit, without_guesses}

-- The signature of an exchange: what a client's reader of the server's block must have found.
pub record IsSigned (accepts : Accepting) (trusts : Trusting)
    (server_block : List (List ℕ)) (x : FinishedExchange) : Type 0 where
  pub host : List ℕ
  pub value : List ℕ
  pub signature : List ℕ
  pub reply : slice_get server_block (if is_gex x.names.kex then 2 else 1) ≡ Some
      (reply_message (is_gex x.names.kex) host value signature)
  pub accepted : accepts (host_with x.names host) x.hash (judged signature) ≡ true
  pub trusted : trusts (host_with x.names host) ≡ true

-- The other's wire begins with its id line, and the side took no more than stands there. What it delivered is what it
-- opened of the bytes that it took, under the keys that it recorded; and what a client recorded was signed by a host
-- that it trusts. This holds whatever the handed-in parts are.
pub record IsReadSide (accepts : Accepting) (trusts : Trusting) (side : Side)
    (config other : Config) (r other_report : SideReport) : Type 0 where
  pub line : HasFront other_report.wire (id_line other.id)
  pub within : r.taken ≤ length other_report.wire
  pub items : List Item
  pub reads : Handled side config r.exchanges
      (drop (length (id_line other.id)) (take r.taken other_report.wire)) items AllRead
  pub delivered : r.delivered ≡ carried_payloads items
  pub recorded : length r.exchanges ≡ epochs_ended (without_guesses side config BeforeKexinit items)
  pub signed : side ≡ Client → (k : ℕ) (x : FinishedExchange) → slice_get r.exchanges k ≡ Some x
      → IsSigned accepts trusts (exchange_block k (without_guesses side config BeforeKexinit items)) x

-- both sides of such a report
pub record IsReadLink (accepts : Accepting) (trusts : Trusting) (client server : Config)
    (report : LinkReport) : Type 0 where
  pub of_client : IsReadSide accepts trusts Client client server report.client report.server
  pub of_server : IsReadSide accepts trusts Server server client report.server report.client
