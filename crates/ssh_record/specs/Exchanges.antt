-- The exchanges of a record: those whose blocks of messages stand whole on both wires.
use Rattle.std.specs.Prelude.{◌≡◌, ℕ, zero, suc, ◌≤◌, List, [], ◌∷◌, ◌++◌, length, take, map, slice_get, Bool, Some, IfSome, is_some, if◌then◌else◌}
use Rattle.ssh_wire.specs.Lines.{id_line, id_text}
use Rattle.ssh_wire.specs.declared.side.Side.{Side}
use Rattle.ssh_wire.specs.declared.side.Side.TheVariants.{Client, Server}
use Rattle.ssh_packet.specs.Sealing.{Item}
use Rattle.ssh_packet.specs.Stream.{Entries, is_newkeys}
use Rattle.ssh_negotiate.specs.declared.negotiation.Names.{Names}
use Rattle.ssh_kex.specs.Exchange.{exchange_hash, outgoing}
use Rattle.ssh_kex.specs.Messages.{is_gex, value_message, reply_message, IsCanonical}
use Rattle.ssh_kex.specs.declared.config.Config.{Config}
use Rattle.ssh_kex.specs.declared.exchange.Exchange.{Exchange}
use Rattle.ssh_kex.specs.declared.exchange.FinishedExchange.{FinishedExchange}
use Rattle.ssh_kex.specs.declared.exchange.GexChosen.{GexChosen}
use Rattle.ssh_rules.specs.ExchangeMessages.{requests, groups}
use Rattle.ssh_rules.specs.Headline.{first_hash, keys_for}
use Rattle.ssh_rules.specs.Made.{HasShortStrings}
use Rattle.ssh_rules.specs.MessageTypes.{type_of, is_kex_type, order}
use Rattle.ssh_record.specs.Recordings.{JudgedRecord}

-- All packets that are whole, from the front of a side's wire, behind its id line, under these exchanges.
pub record ReadsWire (side : Side) (config : Config) (exchanges : List FinishedExchange) (wire : List ℕ) (items : List Item) : Type 0 where
  pub packets : List ℕ
  pub rest : List ℕ
  pub line : wire ≡ id_line config.id ++ packets
  pub entries : Entries (map (outgoing side) exchanges) packets items rest

-- the packets of epoch k, with the one that ends it
abbrev pub epoch_items : ℕ → List Item → List Item
epoch_items k [] = []
epoch_items zero (i ∷ items) = if is_newkeys i then i ∷ [] else i ∷ epoch_items zero items
epoch_items (suc k) (i ∷ items) = if is_newkeys i then epoch_items k items else epoch_items (suc k) items

-- from the first message of key exchange on
abbrev pub from_exchange : List Item → List Item
from_exchange [] = []
from_exchange (i ∷ items) = if is_kex_type (type_of i) then i ∷ items else from_exchange items

-- Where the messages of exchange k, from 0, have to stand: before the first nothing may stand, before a later one
-- payloads.
abbrev pub block_items : ℕ → List Item → List Item
block_items zero items = epoch_items zero items
block_items (suc k) items = from_exchange (epoch_items (suc k) items)

-- their messages
abbrev pub block_messages : ℕ → List Item → List (List ℕ)
block_messages k items = map (λ (i : Item). i.payload) (block_items k items)

-- The block is whole: messages of all its types stand together. Whether each has its form isn't asked.
abbrev pub IsWholeBlock : Side → Bool → ℕ → List Item → Type 0
IsWholeBlock side kind k items = map type_of (block_items k items) ≡ order side kind

-- what stands in a client's block before its last message, and in a server's
abbrev pub client_front : Exchange → List (List ℕ)
client_front e = e.client_kex_init ∷ (requests e.gex ++ value_message (is_some e.gex) e.client_ephemeral ∷ [])

abbrev pub server_front : Exchange → List ℕ → List ℕ → List (List ℕ)
server_front e host signature =
    e.server_kex_init ∷ (groups e.gex ++ reply_message (is_some e.gex) host e.server_ephemeral signature ∷ [])

-- a group as it is read, so that the message determines it
abbrev pub IsReadGroup : GexChosen → Type 0
IsReadGroup g = IsCanonical g.group

-- The values that two blocks hold, and the blob of the host. Of a message of type 20 or 21 nothing is read.
pub record BlocksHold (client server : Config) (kind : Bool) (client_block server_block : List (List ℕ)) (e : Exchange) (host : List ℕ) : Type 0 where
  pub client_id : e.client_id ≡ id_text client.id
  pub server_id : e.server_id ≡ id_text server.id
  pub kind_is : is_some e.gex ≡ kind
  pub signature : List ℕ
  pub client_end : List ℕ
  pub server_end : List ℕ
  pub client_is : client_block ≡ client_front e ++ client_end ∷ []
  pub server_is : server_block ≡ server_front e host signature ++ server_end ∷ []
  pub short : HasShortStrings e host signature
  pub group : IfSome e.gex IsReadGroup

-- Behind these exchanges, and read under them, one block more is whole on both wires, and its values can be read.
pub record HasBlocks (j : JudgedRecord) (before : List FinishedExchange) (e : Exchange) (host : List ℕ) : Type 0 where
  pub client_items : List Item
  pub server_items : List Item
  pub client_reads : ReadsWire Client j.client before j.recording.client client_items
  pub server_reads : ReadsWire Server j.server before j.recording.server server_items
  pub client_whole : IsWholeBlock Client (is_gex j.names.kex) (length before) client_items
  pub server_whole : IsWholeBlock Server (is_gex j.names.kex) (length before) server_items
  pub hold : BlocksHold j.client j.server (is_gex j.names.kex) (block_messages (length before) client_items)
      (block_messages (length before) server_items) e host

-- what is kept of an exchange with this hash
abbrev pub kept_with : Names → List FinishedExchange → List ℕ → List ℕ → FinishedExchange
kept_with n before secret hash = record {
  names = n;
  hash = hash;
  session_id = first_hash before hash;
  keys = keys_for n secret hash (first_hash before hash);
}

-- what is kept of an exchange of these values (RFC 4253 sections 7.2 and 8)
abbrev pub kept_of_values : Names → List FinishedExchange → Exchange → List ℕ → List ℕ → FinishedExchange
kept_of_values n before e host secret = kept_with n before secret (exchange_hash n.kex e host (Some secret))

-- the exchange behind these, of the blocks and the secret that come next
pub record IsNext (j : JudgedRecord) (before : List FinishedExchange) (x : FinishedExchange) : Type 0 where
  pub exchange : Exchange
  pub host : List ℕ
  pub secret : List ℕ
  pub blocks : HasBlocks j before exchange host
  pub given : slice_get j.recording.secrets (length before) ≡ Some secret
  pub kept : x ≡ kept_of_values j.names before exchange host secret

-- each exchange is the one behind those before it
abbrev pub AreNext : JudgedRecord → List FinishedExchange → Type 0
AreNext j xs = (k : ℕ) (x : FinishedExchange) → slice_get xs k ≡ Some x → IsNext j (take k xs) x

-- All exchanges of a record: as many as blocks are whole on both wires and secrets given.
pub record AreExchanges (j : JudgedRecord) (xs : List FinishedExchange) : Type 0 where
  pub each : AreNext j xs
  pub all : (e : Exchange) (host : List ℕ) → HasBlocks j xs e host → length j.recording.secrets ≤ length xs
