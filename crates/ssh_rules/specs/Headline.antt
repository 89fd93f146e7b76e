-- What a report of a link says, where it was answered.
use Rattle.std.specs.Prelude.{◌≡◌, ℕ, ◌+◌, ◌<◌, ◌≤◌, List, [], ◌∷◌, ◌++◌, length, take, map, slice_get, Bool, true, false, Option, Some, None, IfSome, if◌then◌else◌, Result, Ok, Err}
use Rattle.ssh_packet.specs.Sealing.{Item}
use Rattle.ssh_wire.specs.Lines.{id_line, id_text}
use Rattle.ssh_wire.specs.Sides.{same_side}
use Rattle.ssh_wire.specs.declared.side.Side.{Side}
use Rattle.ssh_wire.specs.declared.side.Side.TheVariants.{Client, Server}
use Rattle.ssh_packet.specs.Stream.{Reads, first_place}
use Rattle.ssh_negotiate.specs.declared.negotiation.Names.{Names}
use Rattle.ssh_rules.specs.Parts.{ClientPairs, Secrets, ServerValues}
use Rattle.ssh_kex.specs.declared.config.Config.{Config}
use Rattle.ssh_kex.specs.declared.group.DhGroup.{DhGroup}
use Rattle.ssh_kex.specs.declared.group.GexParams.{GexParams}
use Rattle.ssh_kex.specs.declared.exchange.Exchange.{Exchange}
use Rattle.ssh_kex.specs.declared.exchange.FinishedExchange.{FinishedExchange}
use Rattle.ssh_rules.specs.declared.link.Step.{Step}
use Rattle.ssh_rules.specs.declared.link.Step.TheVariants.{Submit, Deliver, Rekey, Settle}
use Rattle.ssh_rules.specs.declared.link.LinkReport.{LinkReport}
use Rattle.ssh_rules.specs.declared.link.SideReport.{SideReport}
use Rattle.ssh_kex.specs.Messages.{is_gex, presented, Presented, IsCanonical, bit_size, group_message}
use Rattle.ssh_negotiate.specs.Advertised.{kexinit}
use Rattle.ssh_kex.specs.Exchange.{exchange_hash, keys_of, secret_text, outgoing, secret_of}
use Rattle.ssh_rules.specs.Fills.{Fills, messages}
use Rattle.ssh_rules.specs.Wire.{IsWire, LiesWhole, carried_payloads, exchange_block, epochs_ended}
use Rattle.ssh_rules.specs.Marks.{Half, epoch, kexinits}
use Rattle.ssh_rules.specs.declared.link.Mark.{Mark}
use Rattle.ssh_rules.specs.declared.link.SideMark.{SideMark}
use Rattle.ssh_rules.specs.Run.{IsRun, Moment}
use Rattle.ssh_rules.specs.Fresh.{AllApart, packets_of_epoch}
use Rattle.ssh_kex.specs.Setting.{offers_of, group_of}
use Rattle.ssh_kex.specs.declared.exchange.GexChosen.{GexChosen}
use Rattle.ssh_wire.specs.declared.error.AlgorithmKind.{AlgorithmKind}
use Rattle.ssh_negotiate.specs.Chosen.{chosen_names}
use Rattle.ssh_negotiate.specs.Tables.{shape_of}
use Rattle.ssh_kex.specs.declared.exchange.Keys.{Keys}

-- the payloads of a side's submits
abbrev pub submitted_by : Side → List Step → List (List ℕ)
submitted_by side [] = []
submitted_by side (Submit s p ∷ steps) =
    if same_side s side then p ∷ submitted_by side steps else submitted_by side steps
submitted_by side (Deliver s n ∷ steps) = submitted_by side steps
submitted_by side (Rekey s ∷ steps) = submitted_by side steps
submitted_by side (Settle ∷ steps) = submitted_by side steps

-- a side of a report, with what it was handed
abbrev pub half_of : Side → Config → List Step → SideReport → Half
half_of s config steps report =
    record {
      side = s;
      config = config;
      exchanges = report.exchanges;
      wire = report.wire;
      submitted = submitted_by s steps;
    }

-- what two configurations choose
abbrev pub chosen_by : Config → Config → Result Names AlgorithmKind
chosen_by client server = chosen_names (offers_of Client client) (offers_of Server server)

-- the group that both blocks speak of, where there is one
abbrev pub gex_by : Bool → GexParams → DhGroup → Option GexChosen
gex_by true params group = Some (record { params = params; group = group })
gex_by false params group = None

-- what stands in two blocks of messages, and the host's blob
pub record StandsIn (client server : Config) (kind : Bool) (client_block server_block : List (List ℕ)) (e : Exchange)
    (host : List ℕ) : Type 0 where
  pub client_fills : Fills
  pub server_fills : Fills
  pub client_is : client_block ≡ messages Client client kind client_fills
  pub server_is : server_block ≡ messages Server server kind server_fills
  -- what `read_mpint` gives of the group, so that the message determines it
  pub canonical : kind ≡ true → IsCanonical server_fills.group
  pub host_is : host ≡ server_fills.host
  pub exchange_is : e ≡ record {
    client_id = id_text client.id;
    server_id = id_text server.id;
    client_kex_init = kexinit (offers_of Client client) client_fills.cookie;
    server_kex_init = kexinit (offers_of Server server) server_fills.cookie;
    client_ephemeral = client_fills.value;
    server_ephemeral = server_fills.value;
    gex = gex_by kind client.gex server_fills.group;
  }

-- the hash of the first exchange, which is the session id (RFC 4253 section 7.2)
abbrev pub first_hash : List FinishedExchange → List ℕ → List ℕ
first_hash [] hash = hash
first_hash (x ∷ xs) hash = x.hash

-- the six keys of a secret under these names
abbrev pub keys_for : Names → List ℕ → List ℕ → List ℕ → Keys
keys_for n secret hash session =
    keys_of (shape_of n.kex).digest (secret_text (secret_of n.kex (Some secret))) hash session n

-- a group's prime has as many bits as the sizes allow (RFC 4419 section 3)
pub record IsWithinSizes (sizes : GexParams) (g : GexChosen) : Type 0 where
  pub least : sizes.min_group_size ≤ bit_size g.group.prime
  pub most : bit_size g.group.prime ≤ sizes.max_group_size

-- An exchange that was recorded is the one that the two blocks make.
pub record IsMadeOf (client_makes : ClientPairs) (server_makes : ServerValues) (agrees : Secrets)
    (client server : Config) (before : List FinishedExchange) (client_block server_block : List (List ℕ))
    (x : FinishedExchange) : Type 0 where
  pub names : chosen_by client server ≡ Ok x.names
  pub exchange : Exchange
  pub host : List ℕ
  pub stand : StandsIn client server (is_gex x.names.kex) client_block server_block exchange host
  -- the client took its group, so it is within the client's sizes
  pub within : IfSome exchange.gex (IsWithinSizes client.gex)
  pub secret : List ℕ
  pub local : List ℕ
  pub by_client : client_makes x.names.kex (group_of exchange.gex) local exchange.client_ephemeral
  pub by_server : server_makes x.names.kex (group_of exchange.gex) exchange.client_ephemeral exchange.server_ephemeral
  pub agree : agrees x.names.kex (group_of exchange.gex) exchange.client_ephemeral exchange.server_ephemeral secret
  pub hash : x.hash ≡ exchange_hash x.names.kex exchange host (Some secret)
  pub session : x.session_id ≡ first_hash before x.hash
  pub keys : x.keys ≡ keys_for x.names secret x.hash x.session_id

-- whether both configurations give a group exchange, and the blob that the server then presents
abbrev pub kind_by : Result Names AlgorithmKind → Bool
kind_by (Err kind) = false
kind_by (Ok n) = is_gex n.kex

-- the blob that is presented
abbrev pub blob_in : Option Presented → Option (List ℕ)
blob_in None = None
blob_in (Some shown) = Some shown.blob

-- the blob that a server shows under the names
abbrev pub blob_shown : Config → Names → Option (List ℕ)
blob_shown config n = blob_in (presented config.host n.host_key_is_certificate n.key)

-- the blob that a server presents under the names that both choose
abbrev pub host_by : Config → Result Names AlgorithmKind → Option (List ℕ)
host_by server (Err kind) = None
host_by server (Ok n) = blob_shown server n

-- no payload is written before its step, nothing behind an own NEWKEYS before the exchange is finished
pub record IsOnTime (m : SideMark) (own : List Item) : Type 0 where
  pub early : length (carried_payloads own) ≤ m.submitted
  pub silent : m.finished < epochs_ended own → epoch own ≡ []
  pub one_open : kexinits own ≤ m.finished + 1

-- how many exchanges there may be
abbrev pub bound_of : List Step → ℕ
bound_of [] = 1
bound_of (Submit s p ∷ steps) = 2 + bound_of steps
bound_of (Rekey s ∷ steps) = 1 + bound_of steps
bound_of (Deliver s n ∷ steps) = bound_of steps
bound_of (Settle ∷ steps) = bound_of steps

-- within one direction and one epoch of at least 1 no number, no nonce and no counter block is used twice
abbrev pub NeverRepeats : Side → List FinishedExchange → List Item → Type 0
NeverRepeats side exchanges items =
    (k : ℕ) → 1 ≤ k → AllApart (packets_of_epoch k (Some (first_place (map (outgoing side) exchanges))) items)

-- the last mark is what the report says of the side
pub record IsLastMark (r : SideReport) (m : SideMark) : Type 0 where
  pub sent : m.sent ≡ length r.wire
  pub taken_is : m.taken ≡ r.taken
  pub delivered_is : m.delivered ≡ length r.delivered
  pub finished : m.finished ≡ length r.exchanges

-- The headline, of a report that was answered Ok.
pub record IsLink (client_makes : ClientPairs) (server_makes : ServerValues) (agrees : Secrets)
    (client server : Config) (steps : List Step) (report : LinkReport) : Type 0 where
  pub client_items : List Item
  pub server_items : List Item
  pub client_wire : IsWire Client client (λ k. kind_by (chosen_by client server)) (λ k. None)
      (submitted_by Client steps) report.client.exchanges report.client.wire client_items
  pub server_wire : IsWire Server server (λ k. kind_by (chosen_by client server))
      (λ k. host_by server (chosen_by client server))
      (submitted_by Server steps) report.server.exchanges report.server.wire server_items
  pub client_made : (k : ℕ) (x : FinishedExchange) → slice_get report.client.exchanges k ≡ Some x
      → IsMadeOf client_makes server_makes agrees client server (take k report.client.exchanges)
      (exchange_block k client_items) (exchange_block k server_items) x
  pub server_made : (k : ℕ) (x : FinishedExchange) → slice_get report.server.exchanges k ≡ Some x
      → IsMadeOf client_makes server_makes agrees client server (take k report.server.exchanges)
      (exchange_block k client_items) (exchange_block k server_items) x
  pub same : (k : ℕ) (x y : FinishedExchange) → slice_get report.client.exchanges k ≡ Some x
      → slice_get report.server.exchanges k ≡ Some y → x ≡ y
  pub to_server : (items : List Item)
      × LiesWhole Client client report.client.exchanges report.client.wire report.server.taken items
      × (report.server.delivered ≡ carried_payloads items)
  pub to_client : (items : List Item)
      × LiesWhole Server server report.server.exchanges report.server.wire report.client.taken items
      × (report.client.delivered ≡ carried_payloads items)
  pub last : (m : Mark) × (slice_get report.marks (length steps) ≡ Some m) × IsLastMark report.client m.client
      × IsLastMark report.server m.server
  pub run : IsRun (kind_by (chosen_by client server)) (half_of Client client steps report.client)
      (half_of Server server steps report.server) steps report.marks
  pub on_time : (j : ℕ) (m : Moment) → slice_get run.moments j ≡ Some m → IsOnTime m.mark.client m.client_own
      × IsOnTime m.mark.server m.server_own
  pub client_fresh : NeverRepeats Client report.client.exchanges client_items
  pub server_fresh : NeverRepeats Server report.server.exchanges server_items
  pub few : (length report.client.exchanges ≤ bound_of steps) × (length report.server.exchanges ≤ bound_of steps)

-- each group exchange among these has this group in the server's block, behind its KEXINIT (RFC 4419 section 3)
abbrev pub HaveGroup : DhGroup → List FinishedExchange → List Item → Type 0
HaveGroup group exchanges server_items = (k : ℕ) (x : FinishedExchange) → slice_get exchanges k ≡ Some x
    → is_gex x.names.kex ≡ true → slice_get (exchange_block k server_items) 1 ≡ Some (group_message group)

-- So of a report: the packets of the server's wire have it in each group exchange that a side recorded.
pub record IsInGroup (server : Config) (group : DhGroup) (report : LinkReport) : Type 0 where
  pub server_items : List Item
  pub reads : (packets : List ℕ) × (report.server.wire ≡ id_line server.id ++ packets)
      × Reads (Some (first_place (map (outgoing Server) report.server.exchanges))) server_items packets []
  pub of_client : HaveGroup group report.client.exchanges server_items
  pub of_server : HaveGroup group report.server.exchanges server_items
