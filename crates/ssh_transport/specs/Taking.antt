-- What a connection reads and does, packet by packet.
use Rattle.std.specs.Prelude.{◌≡◌, ◌⊎◌, ℕ, ◌<◌, Bool, true, false, List, [], ◌∷◌, ◌++◌, length, Option, Some, None}
use Rattle.ssh_wire.specs.Lines.{id_text}
use Rattle.ssh_packet.specs.Front.{Whole, front_of}
use Rattle.ssh_packet.specs.Keys.{opening_of}
use Rattle.ssh_packet.specs.Sealing.{Item, Sealing, moved_on, next_number, sealed_packet}
use Rattle.ssh_packet.specs.Writing.{count_after}
use Rattle.ssh_kex.specs.Setting.{Says}
use Rattle.ssh_rules.specs.Log.{delivered_in, handled, read_bytes, sent_bytes}
use Rattle.ssh_rules.specs.Machine.{Event, Spot, Steps, spot_renumbered}
use Rattle.ssh_rules.specs.MessageTypes.{is_kex_type, type_of}
use Rattle.ssh_rules.specs.Standing.{HearsNone, IsInput, ReadsLineFrom, WaitsInPart, nothing_said}
use Rattle.ssh_transport.specs.Handling.{Handles, IsHeard, IsReadAt, delivered_by, outcome_of}
use Rattle.ssh_transport.specs.States.{emptied, reading_spot, state_at}
use Rattle.ssh_transport.specs.declared.connection.Connection.{Connection}
use Rattle.ssh_transport.specs.declared.connection.PacketRead.{PacketRead}
use Rattle.ssh_transport.specs.declared.connection.PacketRead.TheVariants.{Nothing, Packet, Payload}
use Rattle.ssh_transport.specs.declared.session.Disposition.{Disposition}
use Rattle.ssh_transport.specs.declared.session.Disposition.TheVariants.{Delivers, Done, Rekeys}

-- These events lead from a connection to another: what they write was written, and what they read was read.
pub record Goes (says : Says) (c : Connection) (events : List Event) (c' : Connection) : Type 0 where
  pub side : c'.session.side ≡ c.session.side
  pub config : c'.session.config ≡ c.session.config
  pub line : c'.session.line ≡ c.session.line
  pub steps : Steps says c.session.side c.session.config.now (id_text c.session.config.now.id)
      (state_at c.session (reading_spot c) c.reader.count) events
      (state_at c'.session (reading_spot c') c'.reader.count)
  pub output : c'.session.writer.output ≡ c.session.writer.output
      ++ sent_bytes c.session.side (record { sealing = c.session.writer.sealing; number = c.session.writer.number })
      events
  pub bytes : c.reader.waiting ≡ read_bytes c.session.side (reading_spot c) events ++ c'.reader.waiting
  pub input : IsInput events
  pub silent : HearsNone events

-- Some packets that waited were read, and all that they ask for was done.
pub record Reads (says : Says) (c c' : Connection) : Type 0 where
  pub events : List Event
  pub side : c'.session.side ≡ c.session.side
  pub config : c'.session.config ≡ c.session.config
  pub line : c'.session.line ≡ c.session.line
  pub steps : Steps says c.session.side c.session.config.now (id_text c.session.config.now.id)
      (state_at c.session (reading_spot c) c.reader.count) events
      (state_at c'.session (reading_spot c') c'.reader.count)
  pub output : c'.session.writer.output ≡ c.session.writer.output
      ++ sent_bytes c.session.side (record { sealing = c.session.writer.sealing; number = c.session.writer.number })
      events
  pub bytes : c.reader.waiting ≡ read_bytes c.session.side (reading_spot c) events ++ c'.reader.waiting
  pub delivered : c'.delivered.items ≡ c.delivered.items ++ delivered_in events
  pub input : IsInput events
  pub silent : HearsNone events

-- the key's state moved over a packet, unless that brought another key
abbrev pub MovesKey : Disposition → Sealing → Item → Sealing → Type 0
MovesKey Delivers old item new = new ≡ moved_on old item
MovesKey Done old item new = new ≡ moved_on old item
MovesKey (Rekeys again) old item new = Unit {0}

-- A packet was opened, and done with what it asks for by itself: its payload is lent. If it ended an exchange, what
-- follows is opened with another key, and the counts aren't begun anew yet.
pub record HandlesOne (says : Says) (c : Connection) (answer : Disposition) (c' : Connection) : Type 0 where
  pub seqn : ℕ
  pub item : Item
  pub at : IsReadAt (reading_spot c) seqn item.payload item
  pub handles : Handles says c.session seqn item.payload (outcome_of answer c'.opening) c'.session
  pub number : c'.reader.number ≡ next_number c.reader.number
  pub count : c'.reader.count ≡ count_after c.reader.count (length item.payload)
  pub sealing : MovesKey answer (opening_of c.opening) item (opening_of c'.opening)
  pub front : front_of (opening_of c.opening) c.reader.number c.reader.waiting ≡ Whole item c'.reader.waiting
  pub bytes : c.reader.waiting ≡ sealed_packet (opening_of c.opening) c.reader.number item ++ c'.reader.waiting
  pub shorter : length c'.reader.waiting < length c.reader.waiting
  pub unbroken : c'.reader.failed ≡ false
  pub handed : c'.reader.handed ≡ item.payload
  pub window : c'.reader.window ≡ c.reader.window
  pub delivered : c'.delivered ≡ c.delivered
  pub still : answer ≡ Delivers → c'.session ≡ c.session
  pub others : is_kex_type (type_of item) ≡ false → c'.session ≡ c.session

-- and its payload was queued, where it is delivered
pub record Took (says : Says) (c : Connection) (answer : Disposition) (c' : Connection) : Type 0 where
  pub seqn : ℕ
  pub item : Item
  pub at : IsReadAt (reading_spot c) seqn item.payload item
  pub handles : Handles says c.session seqn item.payload (outcome_of answer c'.opening) c'.session
  pub number : c'.reader.number ≡ next_number c.reader.number
  pub count : c'.reader.count ≡ count_after c.reader.count (length item.payload)
  pub sealing : MovesKey answer (opening_of c.opening) item (opening_of c'.opening)
  pub bytes : c.reader.waiting ≡ sealed_packet (opening_of c.opening) c.reader.number item ++ c'.reader.waiting
  pub shorter : length c'.reader.waiting < length c.reader.waiting
  pub unbroken : c'.reader.failed ≡ false
  pub window : c'.reader.window ≡ c.reader.window
  pub delivered : c'.delivered.items ≡ c.delivered.items ++ delivered_by (outcome_of answer c'.opening) item

-- a payload that is delivered is kept
abbrev pub kept_by : Disposition → List ℕ → List (List ℕ)
kept_by Delivers payload = payload ∷ []
kept_by Done payload = []
kept_by (Rekeys again) payload = []

-- the next packet's spot, once an ended exchange is taken up
abbrev pub spot_up : Disposition → Spot → Spot
spot_up Delivers at = at
spot_up Done at = at
spot_up (Rekeys again) at = spot_renumbered again at

abbrev pub count_up : Disposition → ℕ → ℕ
count_up Delivers n = n
count_up Done n = n
count_up (Rekeys again) n = 0

-- the counts of what is read were begun anew after an ended exchange
pub record TakesUp (answer : Disposition) (c c' : Connection) : Type 0 where
  pub reading : reading_spot c' ≡ spot_up answer (reading_spot c)
  pub count : c'.reader.count ≡ count_up answer c.reader.count
  pub waiting : c'.reader.waiting ≡ c.reader.waiting
  pub failed : c'.reader.failed ≡ c.reader.failed
  pub window : c'.reader.window ≡ c.reader.window
  pub still : answer ≡ Delivers → c' ≡ c
  pub rest : c' ≡ record c { reader = c'.reader }

-- A piece of the peer's version line was heard, and what it begins was done; what stands behind the line waits.
pub record Hears (c : Connection) (piece : List ℕ) (c' : Connection) : Type 0 where
  pub events : List Event
  pub side : c'.session.side ≡ c.session.side
  pub config : c'.session.config ≡ c.session.config
  pub steps : Steps nothing_said c.session.side c.session.config.now (id_text c.session.config.now.id)
      (state_at c.session (reading_spot c) c.reader.count) events
      (state_at c'.session (reading_spot c') c'.reader.count)
  pub output : c'.session.writer.output ≡ c.session.writer.output
      ++ sent_bytes c.session.side (record { sealing = c.session.writer.sealing; number = c.session.writer.number })
      events
  pub unread : handled events ≡ []
  pub bytes : (at : Spot) → read_bytes c.session.side at events ≡ []
  pub delivered : c'.delivered.items ≡ c.delivered.items ++ delivered_in events
  pub input : IsInput events
  pub line : ReadsLineFrom c.session.side c.session.line c.reader.waiting piece events c'.session.line c'.reader.waiting

-- A piece was heard, and of what waits behind the version line all that is whole was read.
pub record Takes (says : Says) (c : Connection) (piece : List ℕ) (c' : Connection) : Type 0 where
  pub mid : Connection
  pub heard : Hears c piece mid
  pub reads : Reads says mid c'
  pub line : IsHeard mid.session.line ⊎ (reads.events ≡ [])
  pub part : WaitsInPart (reading_spot c') c'.reader.waiting

-- What waits was handled up to and with a packet that is delivered, and all that it asks for was done: its payload is
-- lent, and not queued.
pub record Lends (says : Says) (c : Connection) (payload : List ℕ) (c' : Connection) : Type 0 where
  pub events : List Event
  pub goes : Goes says c events c'
  pub unqueued : c'.delivered ≡ c.delivered
  pub lent : delivered_in events ≡ payload ∷ []
  pub before : List Item
  pub item : Item
  pub last : handled events ≡ before ++ item ∷ []
  pub payload_is : item.payload ≡ payload

-- what was made of a packet
abbrev pub read_as : Disposition → PacketRead
read_as Delivers = Payload
read_as Done = Packet
read_as (Rekeys again) = Packet

-- of all of them
abbrev pub read_by : Bool → PacketRead
read_by true = Payload
read_by false = Nothing

abbrev pub lent_by : Bool → List ℕ → Option (List ℕ)
lent_by true payload = Some payload
lent_by false payload = None

-- where a packet was handled, and more may come
abbrev pub IfPacket : PacketRead → Type 0 → Type 0
IfPacket Nothing P = Unit {0}
IfPacket Packet P = P
IfPacket Payload P = P

-- by what one packet was: there was none that is whole, it was handled, or it is delivered
abbrev pub PollsOne : Says → Connection → PacketRead → Connection → Type 0
PollsOne says c Nothing c' = Reads says c c' × (c'.delivered ≡ c.delivered)
    × WaitsInPart (reading_spot c') c'.reader.waiting
PollsOne says c Packet c' = Reads says c c' × (c'.delivered ≡ c.delivered)
PollsOne says c Payload c' = Lends says c c'.reader.handed c'

-- What waits was heard, and behind the line a payload was come to, which is lent.
pub record LendsBehind (says : Says) (c : Connection) (payload : List ℕ) (c' : Connection) : Type 0 where
  pub mid : Connection
  pub heard : Hears (emptied c) c.reader.waiting mid
  pub line : IsHeard mid.session.line
  pub unqueued : mid.delivered ≡ c.delivered
  pub lends : Lends says mid payload c'

-- by whether a payload is lent; else all that waits was taken, and nothing of it is delivered
abbrev pub TakesPayload : Says → Connection → Bool → Connection → Type 0
TakesPayload says c false c' = Takes says (emptied c) c.reader.waiting c' × (c'.delivered ≡ c.delivered)
TakesPayload says c true c' = LendsBehind says c c'.reader.handed c'
