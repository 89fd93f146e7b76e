-- A channel between two sides over an honest carrier, and what was written to it and read from it at each end.
use Rattle.std.specs.Prelude.{◌≡◌, ℕ, ◌≤◌, Bool, true, false, List, [], ◌∷◌, ◌++◌, length, map, slice_get, Some, ◌⊎◌}
use Rattle.ssh_wire.specs.Sides.{other_side}
use Rattle.ssh_wire.specs.declared.side.Side.{Side}
use Rattle.ssh_channels.specs.Asking.{MuxState, ReceivesAll}
use Rattle.ssh_channels.specs.Formats.{packet_text}
use Rattle.ssh_channels.specs.Muxes.{Channel, Mux, Packet}
use Rattle.ssh_channels.specs.Laws.{AreSettings}
use Rattle.ssh_channels.specs.Phases.{Message, Open, Confirmation, Failure, Adjust, Data, Eof, Close, is_refused}
use Rattle.ssh_channels.specs.declared.config.MuxConfig.{MuxConfig}
use Rattle.ssh_channels.specs.declared.end.End.{End}
use Rattle.ssh_talks.specs.Talks.{HappensOn, MuxPair, both_new, mux_of, way_to}

-- a side whose messages were taken
abbrev pub emptied : MuxState → MuxState
emptied s = record { side = s.side; made = [] }

-- what the reader made comes to the writer, then what the writer made to the reader, and what that made to the writer
pub record Settles (writer reader new_writer new_reader : MuxState) : Type 0 where
  pub asked : MuxState
  pub answered : MuxState
  pub to_writer : ReceivesAll reader.made writer asked
  pub to_reader : ReceivesAll asked.made (emptied reader) answered
  pub back : ReceivesAll answered.made (emptied asked) new_writer
  pub reader_is : new_reader ≡ emptied answered

-- Both sides are those of a moment that requests and packets lead to, with these texts on the way to each.
pub record IsMoment (client server : MuxConfig) (side : Side) (own other : Mux) (to_own to_other : List (List ℕ)) : Type 0 where
  pub mids : List MuxPair
  pub pair : MuxPair
  pub happens : HappensOn mids (both_new client.window client.largest server.window server.largest) pair
  pub own_is : mux_of side pair ≡ own
  pub other_is : mux_of (other_side side) pair ≡ other
  pub to_own_is : map (λ p. packet_text p) (way_to side pair) ≡ to_own
  pub to_other_is : map (λ p. packet_text p) (way_to (other_side side) pair) ≡ to_other

-- an end of a channel: the channel's number, what was written to it, and what was read from it
pub record Place : Type 0 where
  pub number : ℕ
  pub written : List ℕ
  pub read : List ℕ

-- the channel of a side that stands so
pub record StandsAt (mux : Mux) (place : Place) : Type 0 where
  pub channel : Channel
  pub at : slice_get mux.channels place.number ≡ Some channel
  pub written : channel.end.written ≡ place.written
  pub unread : List ℕ
  pub received : channel.end.received ≡ place.read ++ unread
  pub read : channel.end.read ≡ length place.read

-- one of both was granted for the other
abbrev pub Joins : (own : Channel) (own_number : ℕ) (other : Channel) (other_number : ℕ) → Type 0
Joins own own_number other other_number =
    ((own.started ≡ false) × (own.peer ≡ other_number)) ⊎ ((other.started ≡ false) × (other.peer ≡ own_number))

-- a channel between both sides; what they made is on the way
pub record IsChannel (client server : MuxConfig) (side : Side) (own other : MuxState) (own_place other_place : Place) : Type 0 where
  pub moment : IsMoment client server side own.side other.side other.made own.made
  pub own_end : StandsAt own.side own_place
  pub other_end : StandsAt other.side other_place
  pub joins : Joins own_end.channel own_place.number other_end.channel other_place.number

-- the end at this number, of which so much more was read
abbrev pub place_at : (number : ℕ) (written read : List ℕ) → Place
place_at number written read = record { number = number; written = written; read = read }

-- bytes, or a grant of bytes
abbrev pub flows : Message → Bool
flows (Open w m) = false
flows (Confirmation w m) = true
flows Failure = false
flows (Adjust n) = true
flows (Data bytes) = true
flows Eof = false
flows Close = false

-- bytes
abbrev pub brings : Message → Bool
brings (Open w m) = false
brings (Confirmation w m) = false
brings Failure = false
brings (Adjust n) = false
brings (Data bytes) = true
brings Eof = false
brings Close = false

abbrev pub never : Message → Bool
never m = false

-- each of these is such a message for a channel
abbrev pub AreAll : (Message → Bool) → List Packet → Type 0
AreAll f [] = Unit {0}
AreAll f (p ∷ packets) = (f p.message ≡ true) × ((n : ℕ) × (p.to ≡ Some n)) × AreAll f packets

-- an end that nobody ended or closed
pub record StaysOpen (e : End) : Type 0 where
  pub window : 1 ≤ e.window
  pub eof : e.eof_called ≡ false
  pub close : e.close_called ≡ false
  pub heard : is_refused e.heard ≡ false

-- each channel of a side is such
pub record IsOpenSide (mux : Mux) : Type 0 where
  pub window : 1 ≤ mux.window
  pub each : (n : ℕ) (c : Channel) → slice_get mux.channels n ≡ Some c → StaysOpen c.end

-- a channel over which bytes flow; these messages are on the way to each side
pub record IsFlow (client server : MuxConfig) (side : Side) (own other : MuxState) (own_place other_place : Place) (to_own to_other : Message → Bool) : Type 0 where
  pub channel : IsChannel client server side own other own_place other_place
  pub to_own_are : AreAll to_own (way_to side channel.moment.pair)
  pub to_other_are : AreAll to_other (way_to (other_side side) channel.moment.pair)
  pub own_open : IsOpenSide own.side
  pub other_open : IsOpenSide other.side

-- so many bytes were written to this channel of the reader
pub record IsRead (writer reader : MuxState) (channel count : ℕ) : Type 0 where
  pub client : MuxConfig
  pub server : MuxConfig
  pub side : Side
  pub number : ℕ
  pub written : List ℕ
  pub read : List ℕ
  pub back : List ℕ
  pub within : AreSettings client.window client.largest server.window server.largest
  pub flow : IsFlow client server side writer reader (place_at number written read) (place_at channel back []) flows flows
  pub many : length written ≡ count
