-- All channels of two sides: how they are numbered, and what goes over the link.
use Rattle.std.specs.Prelude.{◌≡◌, ℕ, ◌<◌, ◌≤◌, ◌==◌, nat_lt, nat_le, ◌^◌, ◌&&◌, not, Bool, true, false, if◌then◌else◌, List, [], ◌∷◌, ◌++◌, length, map, slice_get, slice_set, Option, Some, None, ◌⊎◌, refl}
use Rattle.ssh_channels.specs.Phases.{Message, Open, Confirmation, Failure, Adjust, Data, Eof, Close, Phase, Silent, Talking, Ended, Shut, Failed}
use Rattle.ssh_channels.specs.Ends.{Call, Calls, End, Receives, fresh}

-- the numbers that a side may tell of itself
abbrev pub is_within : (window most : ℕ) → Bool
is_within window most = nat_le 1 window && (nat_le window (2 ^ 30) && (nat_le 1 most && nat_le most 32768))

-- how many channels a side may have
abbrev pub most_channels : ℕ
most_channels = 1024

-- a message with its numbers: the recipient's channel but for an opening, and the sender's where it is told
pub record Packet : Type 0 where
  pub to : Option ℕ
  pub from : ℕ
  pub message : Message

-- the packet of a message on the channel with this number, where the other side's is the second
abbrev pub addressed : ℕ → ℕ → Message → Packet
addressed own peer (Open w m) = record { to = None; from = own; message = Open w m }
addressed own peer (Confirmation w m) = record { to = Some peer; from = own; message = Confirmation w m }
addressed own peer Failure = record { to = Some peer; from = 0; message = Failure }
addressed own peer (Adjust n) = record { to = Some peer; from = 0; message = Adjust n }
addressed own peer (Data bytes) = record { to = Some peer; from = 0; message = Data bytes }
addressed own peer Eof = record { to = Some peer; from = 0; message = Eof }
addressed own peer Close = record { to = Some peer; from = 0; message = Close }

-- a channel of a side: whether the side opened it, its number on the other side once that is known, and what the side
-- knows
pub record Channel : Type 0 where
  pub started : Bool
  pub peer : ℕ
  pub end : End

-- one side; its channels are numbered from 0 in the order in which it opened or accepted them
pub record Mux : Type 0 where
  pub window : ℕ
  pub most : ℕ
  pub channels : List Channel

-- what a side can be asked
pub data Request : Type 0 where
  Start : Request
  On : (channel : ℕ) (call : Call) → Request

-- what a request does where it isn't refused
abbrev pub Asks : Request → Mux → List Packet → Mux → Type 0
Asks Start old packets new =
    (length old.channels < most_channels)
    × (packets ≡ addressed (length old.channels) 0 (Open old.window old.most) ∷ [])
    × (new ≡ record old { channels = old.channels ++ record { started = true; peer = 0; end = fresh old.window old.most Talking } ∷ [] })
Asks (On channel call) old packets new =
    (c : Channel) × (messages : List Message) × (e : End)
    × (slice_get old.channels channel ≡ Some c) × Calls call c.end messages e
    × (packets ≡ map (addressed channel c.peer) messages)
    × (new ≡ record old { channels = slice_set old.channels channel (record c { end = e }) })

-- the number that a message tells of the other side's channel
abbrev pub told_number : Packet → ℕ → Message → ℕ
told_number p known (Open w m) = known
told_number p known (Confirmation w m) = p.from
told_number p known Failure = known
told_number p known (Adjust n) = known
told_number p known (Data bytes) = known
told_number p known Eof = known
told_number p known Close = known

-- an opening: it is accepted, or refused where there is no room
abbrev pub Accepts : Packet → Mux → List Packet → Mux → Type 0
Accepts p old packets new =
    (e : End) × (messages : List Message)
    × (length old.channels < most_channels) × Receives p.message (fresh old.window old.most Silent) messages e × (e.said ≡ Talking)
    × (packets ≡ map (addressed (length old.channels) p.from) messages)
    × (new ≡ record old { channels = old.channels ++ record { started = false; peer = p.from; end = e } ∷ [] })

abbrev pub Refuses : Packet → Mux → List Packet → Mux → Type 0
Refuses p old packets new =
    (most_channels ≤ length old.channels) × (packets ≡ addressed 0 p.from Failure ∷ []) × (new ≡ old)

-- what a packet does where it isn't refused
abbrev pub TakesAt : Option ℕ → Packet → Mux → List Packet → Mux → Type 0
TakesAt None p old packets new = Accepts p old packets new ⊎ Refuses p old packets new
TakesAt (Some channel) p old packets new =
    (c : Channel) × (messages : List Message) × (e : End)
    × (slice_get old.channels channel ≡ Some c) × Receives p.message c.end messages e
    × (packets ≡ map (addressed channel (told_number p c.peer p.message)) messages)
    × (new ≡ record old { channels = slice_set old.channels channel (record c { peer = told_number p c.peer p.message; end = e }) })

abbrev pub Takes : Packet → Mux → List Packet → Mux → Type 0
Takes p old packets new = TakesAt p.to p old packets new
