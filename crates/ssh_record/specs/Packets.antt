-- How many packets of a side are good.
use Rattle.std.specs.Prelude.{◌≡◌, ◌⊎◌, ℕ, suc, ◌<◌, List, length, Option, None}
use Rattle.ssh_wire.specs.declared.side.Side.{Side}
use Rattle.ssh_wire.specs.declared.side.Side.TheVariants.{Client, Server}
use Rattle.ssh_packet.specs.Sealing.{Item}
use Rattle.ssh_kex.specs.Messages.{is_gex}
use Rattle.ssh_kex.specs.declared.exchange.FinishedExchange.{FinishedExchange}
use Rattle.ssh_rules.specs.Headline.{submitted_by, blob_shown}
use Rattle.ssh_rules.specs.Wire.{HasFront, IsWire}
use Rattle.ssh_record.specs.Recordings.{JudgedRecord, config_in, wire_in}

-- the blob that a side's reply has to present
abbrev pub host_recorded : Side → JudgedRecord → Option (List ℕ)
host_recorded Client j = None
host_recorded Server j = blob_shown j.server j.names

-- these bytes are a whole wire of the side, of these packets
abbrev pub IsWireOf : Side → JudgedRecord → List FinishedExchange → List ℕ → List Item → Type 0
IsWireOf side j xs bytes items =
    IsWire side (config_in side j) (λ k. is_gex j.names.kex) (λ k. host_recorded side j) (submitted_by side j.recording.steps) xs bytes items

-- The side's first so many packets are good: up to their end the wire is a whole one.
pub record AreGoodPackets (side : Side) (j : JudgedRecord) (xs : List FinishedExchange) (count : ℕ) : Type 0 where
  pub bytes : List ℕ
  pub items : List Item
  pub front : HasFront (wire_in side j) bytes
  pub many : length items ≡ count
  pub good : IsWireOf side j xs bytes items

-- So many are good, bytes follow them, and one packet more isn't good.
pub record EndsGood (side : Side) (j : JudgedRecord) (xs : List FinishedExchange) (place : ℕ) : Type 0 where
  pub good : AreGoodPackets side j xs place
  pub follow : length good.bytes < length (wire_in side j)
  pub no_more : AreGoodPackets side j xs (suc place) → ⊥

-- the side's first bad packet stands behind so many; a wire that doesn't begin with the id line has none that is good
abbrev pub IsBadBehind : Side → JudgedRecord → List FinishedExchange → ℕ → Type 0
IsBadBehind side j xs place = ((AreGoodPackets side j xs 0 → ⊥) × (place ≡ 0)) ⊎ EndsGood side j xs place

-- all of the side's wire is good
abbrev pub IsGoodWire : Side → JudgedRecord → List FinishedExchange → Type 0
IsGoodWire side j xs = (items : List Item) × IsWireOf side j xs (wire_in side j) items
