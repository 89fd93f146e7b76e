-- The block of an open epoch, and the exchange that two blocks make.
use Rattle.std.specs.Prelude.{◌≡◌, ℕ, ◌<◌, ◌^◌, List, [], ◌∷◌, ◌++◌, length, drop, map, Bool, true, false}
use Rattle.std.specs.Option.{option_map}
use Rattle.ssh_wire.specs.Lines.{id_text}
use Rattle.ssh_wire.specs.declared.side.Side.{Side}
use Rattle.ssh_packet.specs.Sealing.{Item}
use Rattle.ssh_kex.specs.declared.config.Config.{Config}
use Rattle.ssh_kex.specs.declared.exchange.Exchange.{Exchange}
use Rattle.ssh_kex.specs.declared.exchange.GexChosen.{GexChosen}
use Rattle.ssh_rules.specs.MessageTypes.{is_kex_type, order, type_of}
use Rattle.ssh_record.specs.Exchanges.{from_exchange}
use Rattle.ssh_blocks.specs.declared.block.OpenBlock.{OpenBlock}
use Rattle.ssh_blocks.specs.declared.values.BlockValues.{BlockValues}
use Rattle.ssh_blocks.specs.declared.values.GroupValues.{GroupValues}

-- the packets of an open epoch that may belong to its block: all of the first epoch, of a later one those from the
-- first message of key exchange on
abbrev pub block_in : Bool → List Item → List Item
block_in false items = items
block_in true items = from_exchange items

-- the payloads of packets
abbrev pub payloads_of : List Item → List (List ℕ)
payloads_of items = map (λ (i : Item). i.payload) items

-- An open block has taken these packets of its epoch. Unless it is broken, it keeps the messages, which are the first
-- of the order; it is broken where they aren't.
pub record HasSeen (side : Side) (kind is_later : Bool) (items : List Item) (b : OpenBlock) : Type 0 where
  pub order_is : b.order.now ≡ order side kind
  pub later_is : b.is_later ≡ is_later
  pub kept : b.is_broken ≡ false → b.messages.items ≡ payloads_of (block_in is_later items)
  pub first : b.is_broken ≡ false → map type_of (block_in is_later items) ++ drop (length b.messages.items) (order side kind) ≡ order side kind
  pub broken : b.is_broken ≡ true → (rest : List ℕ) → map type_of (block_in is_later items) ++ rest ≡ order side kind → ⊥

-- a packet of the type belongs to no block: it stands before the first message of a later one
pub record IsBefore (b : OpenBlock) (t : ℕ) : Type 0 where
  pub later : b.is_later ≡ true
  pub empty : b.messages.items ≡ []
  pub other : is_kex_type t ≡ false

-- each message is shorter than 2^31 bytes, as each packet's is
abbrev pub AreShort : List (List ℕ) → Type 0
AreShort [] = Unit {0}
AreShort (m ∷ ms) = (length m < 2 ^ 31) × AreShort ms

-- the group that both blocks speak of
abbrev pub group_in : GroupValues → GexChosen
group_in g = record {
  params = g.sizes;
  group = record { prime = g.numbers.prime.now; generator = g.numbers.generator.now };
}

-- the exchange of these values
abbrev pub exchange_in : Config → Config → BlockValues → Exchange
exchange_in client server v = record {
  client_id = id_text client.id;
  server_id = id_text server.id;
  client_kex_init = v.client_kexinit.now;
  server_kex_init = v.server_kexinit.now;
  client_ephemeral = v.client_value.now;
  server_ephemeral = v.reply.value.now;
  gex = option_map group_in v.group;
}
