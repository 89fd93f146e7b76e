-- What the joint theorem uses of a side, and what it says of two.
use Rattle.std.specs.Prelude.{◌≡◌, ℕ, ◌≤◌, List, [], length, map, take, slice_get, Some}
use Rattle.ssh_wire.specs.declared.side.Side.{Side}
use Rattle.ssh_wire.specs.declared.side.Side.TheVariants.{Client, Server}
use Rattle.ssh_packet.specs.Sealing.{Item}
use Rattle.ssh_packet.specs.Stream.{first_place, Reads}
use Rattle.ssh_kex.specs.declared.exchange.FinishedExchange.{FinishedExchange}
use Rattle.ssh_kex.specs.Exchange.{outgoing}
use Rattle.ssh_wire.specs.Sides.{other_side}
use Rattle.ssh_rules.specs.Wire.{exchange_block, epochs_ended, HasFront}

-- what an exchange is made of: a side's own block of messages, the other's, and the exchanges before
abbrev pub MadeFrom : Type 1
MadeFrom = Side → List (List ℕ) → List (List ℕ) → List FinishedExchange → FinishedExchange → Type 0

-- What the joint theorem uses of a side, however it came about: its wire and what it read are packets under the
-- exchanges that it recorded, and each of these was made of its two blocks.
pub record SideFacts (made : MadeFrom) (side : Side) (written read : List Item) (records : List FinishedExchange) (sent fed unfinished : List ℕ) : Type 0 where
  pub writes : Reads (Some (first_place (map (outgoing side) records))) written sent []
  pub reads : Reads (Some (first_place (map (outgoing (other_side side)) records))) read fed unfinished
  pub each : (k : ℕ) (x : FinishedExchange) → slice_get records k ≡ Some x → made side (exchange_block k written) (exchange_block k read) (take k records) x
  pub ended : length records ≤ epochs_ended read

-- from the same two blocks and after the same exchanges both sides make the same record
abbrev pub MakesOne : MadeFrom → Type 0
MakesOne made = (a b : List (List ℕ)) (before : List FinishedExchange) (x y : FinishedExchange) → made Client a b before x → made Server b a before y → x ≡ y

-- what both sides have in common
pub record InStep (client_written client_read server_written server_read : List Item) (client_records server_records : List FinishedExchange) : Type 0 where
  pub records : (k : ℕ) (x y : FinishedExchange) → slice_get client_records k ≡ Some x → slice_get server_records k ≡ Some y → x ≡ y
  pub to_server : HasFront client_written server_read
  pub to_client : HasFront server_written client_read

abbrev pub HonestCarrier : MadeFrom → Type 0
HonestCarrier made = MakesOne made → (cw cr sw sr : List Item) (cx sx : List FinishedExchange) (csent cfed crest ssent sfed srest : List ℕ) →
    SideFacts made Client cw cr cx csent cfed crest → SideFacts made Server sw sr sx ssent sfed srest →
    HasFront csent sfed → HasFront ssent cfed → InStep cw cr sw sr cx sx
