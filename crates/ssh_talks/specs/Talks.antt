-- Two sides with their channels over an honest carrier: what may happen, and what each channel is at every moment.
use Rattle.std.specs.Prelude.{◌≡◌, ℕ, ◌+◌, ◌≤◌, ◌==◌, ◌&&◌, ◌⊎◌, min, Bool, true, false, if◌then◌else◌, List, [], ◌∷◌, ◌++◌, length, take, slice_get, Option, Some, None, Ok}
use Rattle.ssh_wire.specs.Sides.{other_side}
use Rattle.ssh_wire.specs.declared.side.Side.{Side}
use Rattle.ssh_wire.specs.declared.side.Side.TheVariants.{Client, Server}
use Rattle.ssh_channels.specs.Phases.{Message}
use Rattle.ssh_channels.specs.Ends.{fresh}
use Rattle.ssh_channels.specs.declared.end.End.{End}
use Rattle.ssh_channels.specs.declared.end.Phase.TheVariants.{Failed, Shut, Silent}
use Rattle.ssh_channels.specs.Conversation.{Talk, opened}
use Rattle.ssh_channels.specs.Asking.{packet_fault_to, payload_fault}
use Rattle.ssh_channels.specs.Formats.{packet_of, packet_text}
use Rattle.ssh_channels.specs.Laws.{AreSettings, Finishes, IsPrefixOf, Reached}
use Rattle.ssh_channels.specs.Muxes.{Asks, Channel, Mux, Packet, Request, Takes}

-- both sides, and the packets that are on the way to each
pub record MuxPair : Type 0 where
  pub client : Mux
  pub server : Mux
  pub to_client : List Packet
  pub to_server : List Packet

abbrev pub mux_of : Side → MuxPair → Mux
mux_of Client b = b.client
mux_of Server b = b.server

abbrev pub way_to : Side → MuxPair → List Packet
way_to Client b = b.to_client
way_to Server b = b.to_server

-- a side, what is on the way to it, and what is on the way from it, in place of what they were
abbrev pub with_mux : Side → Mux → (to_it from_it : List Packet) → MuxPair → MuxPair
with_mux Client mux to_it from_it b = record { client = mux; server = b.server; to_client = to_it; to_server = from_it }
with_mux Server mux to_it from_it b = record { client = b.client; server = mux; to_client = from_it; to_server = to_it }

-- what may happen: a side is asked for something, or the next packet comes to it
pub data Happens (old new : MuxPair) : Type 0 where
  Asked : (side : Side) (request : Request) (packets : List Packet) (mux : Mux) → Asks request (mux_of side old) packets mux
      → new ≡ with_mux side mux (way_to side old) (way_to (other_side side) old ++ packets) old → Happens old new
  Came : (side : Side) (p : Packet) (rest packets : List Packet) (mux : Mux) → way_to side old ≡ p ∷ rest → Takes p (mux_of side old) packets mux
      → new ≡ with_mux side mux rest (way_to (other_side side) old ++ packets) old → Happens old new

-- some of it, each from a moment to the next
abbrev pub HappensOn : List MuxPair → MuxPair → MuxPair → Type 0
HappensOn [] old new = new ≡ old
HappensOn (mid ∷ mids) old new = Happens old mid × HappensOn mids mid new

-- two sides that did nothing
abbrev pub both_new : (client_window client_most server_window server_most : ℕ) → MuxPair
both_new w m v k = record {
  client = record { window = w; most = m; channels = [] };
  server = record { window = v; most = k; channels = [] };
  to_client = [];
  to_server = [];
}

-- whether a packet is for the channel with this number
abbrev pub is_to : ℕ → Option ℕ → Bool
is_to n None = false
is_to n (Some k) = k == n

-- the messages for that channel
abbrev pub for_channel : ℕ → List Packet → List Message
for_channel n [] = []
for_channel n (p ∷ packets) = if is_to n p.to then p.message ∷ for_channel n packets else for_channel n packets

-- whether it opens a channel
abbrev pub is_opening : Option ℕ → Bool
is_opening None = true
is_opening (Some k) = false

-- whether it opens that with this number of its sender
abbrev pub opens_as : ℕ → Packet → Bool
opens_as n p = is_opening p.to && (p.from == n)

-- the openings of that channel
abbrev pub opening_of : ℕ → List Packet → List Message
opening_of n [] = []
opening_of n (p ∷ packets) = if opens_as n p then p.message ∷ opening_of n packets else opening_of n packets

-- The other side has not answered the opening of a channel, has accepted it under a number, or has refused it.
pub data Answer : Type 0 where
  NotYet : Answer
  As : (number : ℕ) → Answer
  Refused : Answer

-- The other end of a channel that a side opened, and what is on the way to it.
abbrev pub OtherEnd : (n : ℕ) → (other : Mux) → (way : List Packet) → Answer → End → List Message → Type 0
OtherEnd n other way NotYet e messages = (e ≡ fresh other.window other.most Silent) × (messages ≡ opening_of n way)
OtherEnd n other way (As k) e messages =
    ((c : Channel) × (slice_get other.channels k ≡ Some c) × (c.started ≡ false) × (c.peer ≡ n) × (e ≡ c.end)) × (messages ≡ for_channel k way)
OtherEnd n other way Refused e messages = (e.said ≡ Failed) × (messages ≡ [])

-- A channel that a side opened is a talk of two ends that may have come of its opening, and this was answered.
pub record IsTalk (own other : Mux) (to_own to_other : List Packet) (n : ℕ) (c : Channel) (answer : Answer) : Type 0 where
  pub talk : Talk
  pub reached : Reached (opened own.window own.most other.window other.most) talk
  pub own_is : talk.opener ≡ c.end
  pub to_own_is : talk.to_opener ≡ for_channel n to_own
  pub other_is : OtherEnd n other to_other answer talk.other talk.to_other

-- a channel with this number of a side is one
abbrev pub IsTalkOf : Side → MuxPair → ℕ → Channel → Answer → Type 0
IsTalkOf side b n c answer =
    IsTalk (mux_of side b) (mux_of (other_side side) b) (way_to side b) (way_to (other_side side) b) n c answer

-- What a channel of a side is: a talk where the side opened it, and else the other end of one that the other side
-- opened.
abbrev pub IsOfTalk : Side → MuxPair → ℕ → Channel → Bool → Type 0
IsOfTalk side b n c true = (answer : Answer) × IsTalkOf side b n c answer
IsOfTalk side b n c false =
    (d : Channel) × (slice_get (mux_of (other_side side) b).channels c.peer ≡ Some d) × (d.started ≡ true) × IsTalkOf (other_side side) b c.peer d (As n)

-- Every channel is.
abbrev pub ChannelsAreTalks : Type 0
ChannelsAreTalks = (w m v k : ℕ) (mids : List MuxPair) (b : MuxPair) → HappensOn mids (both_new w m v k) b
    → (side : Side) (n : ℕ) (c : Channel) → slice_get (mux_of side b).channels n ≡ Some c → IsOfTalk side b n c c.started

-- What holds between two ends, of which `s` is one and `r` the other: what came is a front of what was written, and no
-- more bytes went out than the window allows.
pub record FlowsWell (s r : End) : Type 0 where
  pub in_order : IsPrefixOf r.received s.written
  pub passed : s.gone ≤ s.granted
  pub granted : s.granted ≤ r.window + r.told
  pub told : r.told ≤ r.read

-- Each channel that was accepted flows well both ways.
abbrev pub ChannelsFlow : Type 0
ChannelsFlow = (w m v k : ℕ) (mids : List MuxPair) (b : MuxPair) → HappensOn mids (both_new w m v k) b
    → (side : Side) (n : ℕ) (c : Channel) → slice_get (mux_of side b).channels n ≡ Some c → c.started ≡ false
    → (d : Channel) × (slice_get (mux_of (other_side side) b).channels c.peer ≡ Some d) × (d.started ≡ true)
    × FlowsWell d.end c.end × FlowsWell c.end d.end

-- No packet is refused that comes.
abbrev pub NoPacketRefused : Type 0
NoPacketRefused = (w m v k : ℕ) → AreSettings w m v k → (mids : List MuxPair) (b : MuxPair) → HappensOn mids (both_new w m v k) b
    → (side : Side) (p : Packet) (rest : List Packet) → way_to side b ≡ p ∷ rest → packet_fault_to p.to p.message (mux_of side b) ≡ None

-- nothing is on the way
abbrev pub IsQuietPair : MuxPair → Type 0
IsQuietPair b = (b.to_client ≡ []) × (b.to_server ≡ [])

-- Then all that was written on a channel that nobody closed came, as far as the reader's window and reads allow.
abbrev pub CameAll : (s r : End) → Type 0
CameAll s r = r.received ≡ take (min (length s.written) (r.window + r.read)) s.written

abbrev pub ChannelsCome : Type 0
ChannelsCome = (w m v k : ℕ) → AreSettings w m v k → (mids : List MuxPair) (b : MuxPair) → HappensOn mids (both_new w m v k) b → IsQuietPair b
    → (side : Side) (n : ℕ) (c : Channel) → slice_get (mux_of side b).channels n ≡ Some c → c.started ≡ false → c.end.close_called ≡ false
    → (d : Channel) × (slice_get (mux_of (other_side side) b).channels c.peer ≡ Some d) × (d.started ≡ true)
    × (d.end.close_called ≡ false → CameAll d.end c.end × CameAll c.end d.end)

-- What holds between two ends of what their callers asked for: an end of data came only where the other end's caller
-- ended it, and both ends said close only where one of both callers closed the channel.
pub record EndsAsCalled (s r : End) : Type 0 where
  pub ended : r.ended ≡ true → s.eof_called ≡ true
  pub ended_back : s.ended ≡ true → r.eof_called ≡ true
  pub closed : s.said ≡ Shut → r.said ≡ Shut → (s.close_called ≡ true) ⊎ (r.close_called ≡ true)

-- Each channel that was accepted ends only so.
abbrev pub ChannelsEnd : Type 0
ChannelsEnd = (w m v k : ℕ) (mids : List MuxPair) (b : MuxPair) → HappensOn mids (both_new w m v k) b
    → (side : Side) (n : ℕ) (c : Channel) → slice_get (mux_of side b).channels n ≡ Some c → c.started ≡ false
    → (d : Channel) × (slice_get (mux_of (other_side side) b).channels c.peer ≡ Some d) × (d.started ≡ true)
    × EndsAsCalled d.end c.end

-- Where nothing is on the way, and all that an end wrote came, its close closed the channel at both ends. Its end of
-- data came, where neither end was closed.
abbrev pub ChannelsFinish : Type 0
ChannelsFinish = (w m v k : ℕ) (mids : List MuxPair) (b : MuxPair) → HappensOn mids (both_new w m v k) b → IsQuietPair b
    → (side : Side) (n : ℕ) (c : Channel) → slice_get (mux_of side b).channels n ≡ Some c → c.started ≡ false
    → (d : Channel) × (slice_get (mux_of (other_side side) b).channels c.peer ≡ Some d) × (d.started ≡ true)
    × Finishes d.end c.end × Finishes c.end d.end

-- No payload is refused that comes, and each is read as the packet that was written.
pub record PassesPayload (side : Mux) (p : Packet) : Type 0 where
  pub read : packet_of (packet_text p) ≡ Ok p
  pub passes : payload_fault (packet_text p) side ≡ None

abbrev pub NoPayloadRefused : Type 0
NoPayloadRefused = (w m v k : ℕ) → AreSettings w m v k → (mids : List MuxPair) (b : MuxPair) → HappensOn mids (both_new w m v k) b
    → (side : Side) (p : Packet) (rest : List Packet) → way_to side b ≡ p ∷ rest → PassesPayload (mux_of side b) p
