-- A writer, as contracts see it, and what a payload makes of it.
use Rattle.std.specs.Prelude.{◌≡◌, ℕ, ◌+◌, ◌-◌, ◌*◌, ◌^◌, ◌<◌, ◌≤◌, min, List, [], ◌∷◌, ◌++◌, length, take, drop, Option, Result, Ok, Err, IsOk, OnOk, IfOk, OnErr, IfErr, ◌⊎◌, vec_len, vec_capacity}
use Rattle.std.specs.Global.{Vec}
use Rattle.rand_core.specs.Stream.{Stream}
use Rattle.ssh_wire.specs.Outside.{Appends}
use Rattle.ssh_wire.specs.declared.error.Error.{Error}
use Rattle.ssh_wire.specs.declared.error.Error.TheVariants.{PacketSize, Memory}
use Rattle.ssh_packet.specs.Sealing.{Item, Sealing, IsAdmissible, IsPadded, sealed_packet, moved_on, next_number, item_of, stream_after, head_length, longest_padding, longest_payload, room_beside, tag_size}

-- the buffer that a writer fills: `count` is the payload bytes, `number` that of the next packet, `room` how many
-- bytes it takes without more memory
pub record Buffer : Type 0 where
  pub output : List ℕ
  pub len : ℕ
  pub count : ℕ
  pub number : ℕ
  pub room : ℕ

pub record Writer : Type 0 where
  pub output : List ℕ
  pub len : ℕ
  pub count : ℕ
  pub number : ℕ
  pub sealing : Sealing
  pub room : ℕ

-- nothing changed, but maybe the room
abbrev pub SameButRoom : Writer → Writer → Type 0
SameButRoom old new = new ≡ record old { room = new.room }

-- a count of bytes stands still at its end
abbrev pub count_after : ℕ → ℕ → ℕ
count_after count n = min (count + n) (2 ^ 64 - 1)

-- a packet goes behind the output, and moves state, number and count
abbrev pub with_item : Writer → Item → Writer
with_item w item = record w {
  output = w.output ++ sealed_packet w.sealing w.number item;
  count = count_after w.count (length item.payload);
  number = next_number w.number;
  sealing = moved_on w.sealing item;
}

-- a payload of no bytes sends nothing
abbrev pub writer_after : Writer → List ℕ → Stream → Writer
writer_after w [] stream = w
writer_after w (b ∷ rest) stream = with_item w (item_of w.sealing (b ∷ rest) stream)

-- a payload was sent; nothing is said of the room
abbrev pub Sends : Writer → List ℕ → Stream → Writer → Type 0
Sends old payload stream new = new ≡ record (writer_after old payload stream) { room = new.room }

-- room for the packets of so many payloads that have so many bytes together: `room_beside` and a tag each are more than
-- packet length, padding length and padding
abbrev pub room_for : Sealing → ℕ → ℕ → ℕ
room_for sealing payload_bytes packet_count = payload_bytes + packet_count * (room_beside + tag_size sealing)

-- refused for its size of n bytes, or for want of memory
abbrev pub IsSizeOrMemory : ℕ → Error → Type 0
IsSizeOrMemory n error = ((longest_payload < n) × (error ≡ PacketSize n)) ⊎ (error ≡ Memory)

-- the first n bytes of the output went behind what a sink held, and nothing else happened
abbrev pub Flushes : ℕ → Writer → Option (List ℕ) → Option (List ℕ) → Writer → Type 0
Flushes n old held held' new = (n ≤ length old.output) × Appends (take n old.output) held held'
    × (new ≡ record old { output = drop n old.output; room = old.room + n })

-- ---- payloads that a closure makes

-- what a call that seals this payload answers, and what it leaves of writer and generator
pub record Seals {T : Type 0} (old : Writer) (payload : List ℕ) (before after : Stream) (result : Result T Error) (new : Writer) : Type 0 where
  pub sent : OnOk result (Sends old payload before new)
  pub stream : OnOk result (after ≡ stream_after old.sealing payload before)
  pub admissible : OnOk result (0 < length payload → IsAdmissible old.sealing (item_of old.sealing payload before))
  pub padded : OnOk result (0 < length payload → IsPadded old.sealing (item_of old.sealing payload before))
  pub unchanged : OnErr result (SameButRoom old new)
  pub causes : IfErr result (IsSizeOrMemory (length payload))
  pub too_long : longest_payload < length payload → result ≡ Err (PacketSize (length payload))
  pub undrawn : longest_payload < length payload → after ≡ before

-- the error is the answer, and writer and generator are as they were
pub record RefusesPayload {T : Type 0} (old : Writer) (before after : Stream) (error : Error) (result : Result T Error) (new : Writer) : Type 0 where
  pub answer : result ≡ Err error
  pub unchanged : SameButRoom old new
  pub undrawn : after ≡ before

-- a closure's own error is the answer; where it has none, its payload is sealed
abbrev pub Follows : {T : Type 0} → Result (Unit {0}) Error → List ℕ → Writer → Stream → Stream → Result T Error
    → Writer → Type 0
Follows (Err error) payload old before after result new = RefusesPayload old before after error result new
Follows (Ok u) payload old before after result new = Seals old payload before after result new

-- The closure ran, answered and left a payload, of which the rest follows. `Leaves` says which answers and payloads it
-- may give.
abbrev pub SealsWith : {T : Type 0} → (Result (Unit {0}) Error → List ℕ → Type 0) → (List ℕ → T) → Writer → Stream
    → Stream → Result T Error → Writer → Type 0
SealsWith Leaves answer_of old before after result new =
    (answer : Result (Unit {0}) Error) × (payload : List ℕ) × Leaves answer payload
    × Follows answer payload old before after result new × IfOk result (λ x. x ≡ answer_of payload)

-- the room before a payload, for packet length and padding length
abbrev pub head_room : List ℕ
head_room = 0 ∷ 0 ∷ 0 ∷ 0 ∷ 0 ∷ []

-- what a closure may do: from the first vector to the second, with an answer
abbrev pub ClosureCall : Type 1
ClosureCall = Vec ℕ → Result (Unit {0}) Error → Vec ℕ → Type 0

-- it only appends
abbrev pub OnlyAppends : ClosureCall → Type 0
OnlyAppends runs = (v v' : Vec ℕ) (answer : Result (Unit {0}) Error) → runs v answer v' → (payload : List ℕ)
    × (v'.items ≡ v.items ++ payload)

-- a payload that it may leave in a vector that was empty
abbrev pub LeavesPayload : ClosureCall → Result (Unit {0}) Error → List ℕ → Type 0
LeavesPayload runs answer payload = (v : Vec ℕ) × (v' : Vec ℕ) × (v.items ≡ []) × runs v answer v'
    × (v'.items ≡ payload)

-- a payload that it may append to these bytes, and the room that it may leave behind it
abbrev pub AppendsPayload : ClosureCall → List ℕ → Result (Unit {0}) Error → List ℕ → ℕ → Type 0
AppendsPayload runs bytes answer payload room = (v : Vec ℕ) × (v' : Vec ℕ) × (v.items ≡ bytes) × runs v answer v'
    × (v'.items ≡ bytes ++ payload) × (room ≡ vec_capacity v' - vec_len v')

-- behind a payload that a closure left with room for padding and tag, no memory is wanted
abbrev pub IsReady : Writer → Result (Unit {0}) Error → List ℕ → ℕ → Result (Unit {0}) Error → Type 0
IsReady old answer payload room result = OnOk answer (length payload ≤ longest_payload → longest_padding + tag_size old.sealing ≤ room → IsOk result)

-- The closure ran on the output and the room before a payload, and the rest follows; or there was no memory for that
-- room, which there is where the writer has five bytes of it.
abbrev pub SealsInPlace : ClosureCall → Writer → Stream → Stream → Result (Unit {0}) Error → Writer → Type 0
SealsInPlace runs old before after result new =
    ((old.room < head_length) × RefusesPayload old before after Memory result new)
    ⊎ ((answer : Result (Unit {0}) Error) × (payload : List ℕ) × (room : ℕ) × AppendsPayload runs (old.output ++ head_room) answer payload room
    × Follows answer payload old before after result new × IsReady old answer payload room result)
