-- What a side puts on its wire.
use Rattle.std.specs.Prelude.{◌≡◌, ℕ, zero, suc, ◌+◌, ◌<◌, List, [], ◌∷◌, ◌++◌, length, take, drop, map, filter, Bool, true, Option, Some, None, if◌then◌else◌, ◌⊎◌}
use Rattle.ssh_rules.specs.MessageTypes.{type_of, is_kex_type, is_payload_type, order}
use Rattle.ssh_packet.specs.Sealing.{IsPadded, Item}
use Rattle.ssh_packet.specs.Stream.{Place, first_place, place_after, is_newkeys, Reads, Entries}
use Rattle.ssh_wire.specs.Lines.{id_line}
use Rattle.ssh_wire.specs.declared.side.Side.{Side}
use Rattle.ssh_wire.specs.declared.side.Side.TheVariants.{Server}
use Rattle.ssh_kex.specs.declared.config.Config.{Config}
use Rattle.ssh_kex.specs.declared.exchange.FinishedExchange.{FinishedExchange}
use Rattle.ssh_kex.specs.Exchange.{outgoing}
use Rattle.ssh_rules.specs.Fills.{Fills, messages}

-- each packet is padded as a writer pads it there (RFC 4253 section 6)
abbrev pub ArePadded : Option Place → List Item → Type 0
ArePadded at [] = Unit {0}
ArePadded None (i ∷ items) = ⊥
ArePadded (Some at) (i ∷ items) = IsPadded at.sealing i × ArePadded (place_after at i) items

-- The packets stand in blocks: no other packet within a block, payloads alone between two (RFC 4253 section 7.1). `due`
-- are the types that the open block still has to bring, `k` is the number of the next block, and `kind` says of each
-- whether it is a group exchange.
abbrev pub InBlocks : Side → (ℕ → Bool) → ℕ → List ℕ → List Item → Type 0
InBlocks side kind k due [] = Unit {0}
InBlocks side kind k (t ∷ due) (i ∷ items) = (type_of i ≡ t) × InBlocks side kind k due items
InBlocks side kind k [] (i ∷ items) = ((is_payload_type (type_of i) ≡ true) × InBlocks side kind k [] items)
    ⊎ ((type_of i ≡ 20) × InBlocks side kind (suc k) (drop 1 (order side (kind k))) items)

-- a list begins with another
abbrev pub HasFront : {A : Type 0} → List A → List A → Type 0
HasFront {A} whole front = (more : List A) × (front ++ more ≡ whole)

-- the messages of exchange k, from 0, among some packets
abbrev pub exchange_block : ℕ → List Item → List (List ℕ)
exchange_block k [] = []
exchange_block zero (i ∷ items) =
    if is_newkeys i then i.payload ∷ [] else if is_kex_type (type_of i) then i.payload ∷ exchange_block zero items
    else exchange_block zero items
exchange_block (suc k) (i ∷ items) = if is_newkeys i then exchange_block k items else exchange_block (suc k) items

-- how many packets end an epoch
abbrev pub epochs_ended : List Item → ℕ
epochs_ended [] = 0
epochs_ended (i ∷ items) = if is_newkeys i then 1 + epochs_ended items else epochs_ended items

-- the payloads that are handed up
abbrev pub carried_payloads : List Item → List (List ℕ)
carried_payloads items = map (λ (i : Item). i.payload) (filter (λ i. is_payload_type (type_of i)) items)

-- The messages of a block have their form. `host` is the blob that the configuration presents there.
pub record HasForm (side : Side) (config : Config) (kind : Bool) (host : Option (List ℕ))
    (own : List (List ℕ)) : Type 0 where
  pub fills : Fills
  pub front : HasFront (messages side config kind fills) own
  pub cookie : length fills.cookie ≡ 16
  pub presents : side ≡ Server → (if kind then 2 else 1) < length own → host ≡ Some fills.host

-- The wire of a side. Of each block, `kind` says whether it is a group exchange and `host` what its reply presents.
pub record IsWire (side : Side) (config : Config) (kind : ℕ → Bool) (host : ℕ → Option (List ℕ))
    (submitted : List (List ℕ)) (exchanges : List FinishedExchange) (wire : List ℕ) (items : List Item) : Type 0 where
  pub reads : (packets : List ℕ) × (wire ≡ id_line config.id ++ packets)
      × Reads (Some (first_place (map (outgoing side) exchanges))) items packets []
  pub padded : ArePadded (Some (first_place (map (outgoing side) exchanges))) items
  pub payloads : HasFront submitted (carried_payloads items)
  pub blocks : InBlocks side kind 1 (order side (kind 0)) items
  pub forms : (k : ℕ) → HasForm side config (kind k) (host k) (exchange_block k items)

-- the packets that lie whole in the first n bytes of a wire
abbrev pub LiesWhole : (side : Side) (config : Config) (exchanges : List FinishedExchange) (wire : List ℕ) (n : ℕ)
    (items : List Item) → Type 0
LiesWhole side config exchanges wire n items =
    (rest : List ℕ) × Entries (map (outgoing side) exchanges)
    (drop (length (id_line config.id)) (take n wire)) items rest
