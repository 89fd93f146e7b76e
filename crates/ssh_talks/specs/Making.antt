-- How many messages both sides still make where they only hear, over all channels at once.
use Rattle.std.specs.Prelude.{◌≡◌, ℕ, ◌+◌, ◌*◌, ◌≤◌, if◌then◌else◌, List, [], ◌∷◌, ◌++◌, length}
use Rattle.ssh_wire.specs.Sides.{other_side}
use Rattle.ssh_wire.specs.declared.side.Side.{Side}
use Rattle.ssh_channels.specs.Ends.{CallClose, CallEof, Read, Write}
use Rattle.ssh_channels.specs.Laws.{left_of}
use Rattle.ssh_channels.specs.Muxes.{Asks, Channel, Mux, On, Packet, Request, Start, Takes}
use Rattle.ssh_talks.specs.Talks.{HappensOn, MuxPair, both_new, is_opening, mux_of, way_to, with_mux}

-- how many messages of their own these channels' ends can still send, where they only hear
abbrev pub left_in : List Channel → ℕ
left_in [] = 0
left_in (c ∷ channels) = left_of c.end + left_in channels

-- how many packets open a channel
abbrev pub openings_in : List Packet → ℕ
openings_in [] = 0
openings_in (p ∷ packets) = (if is_opening p.to then 1 else 0) + openings_in packets

-- a bound on how many messages both sides still make, where they only hear: the other end of an opening on its way can
-- send three
abbrev pub still_made : MuxPair → ℕ
still_made b = (left_in b.client.channels + left_in b.server.channels) + 3 * (openings_in b.to_client + openings_in b.to_server)

-- what a request adds to it at most
abbrev pub added_by : Request → ℕ
added_by Start = 8
added_by (On channel (Write bytes)) = length bytes
added_by (On channel (Read n)) = 0
added_by (On channel CallEof) = 0
added_by (On channel CallClose) = 0

-- A side that hears the next packet can send as many messages less as it makes.
abbrev pub HearingLowers : Type 0
HearingLowers = (w m v k : ℕ) (mids : List MuxPair) (b new : MuxPair) → HappensOn mids (both_new w m v k) b
    → (side : Side) (p : Packet) (rest packets : List Packet) (mux : Mux) → way_to side b ≡ p ∷ rest → Takes p (mux_of side b) packets mux
    → new ≡ with_mux side mux rest (way_to (other_side side) b ++ packets) b
    → still_made new + length packets ≤ still_made b

-- A request adds no more than this.
abbrev pub AskingAdds : Type 0
AskingAdds = (w m v k : ℕ) (mids : List MuxPair) (b new : MuxPair) → HappensOn mids (both_new w m v k) b
    → (side : Side) (request : Request) (packets : List Packet) (mux : Mux) → Asks request (mux_of side b) packets mux
    → new ≡ with_mux side mux (way_to side b) (way_to (other_side side) b ++ packets) b
    → still_made new ≤ still_made b + added_by request
