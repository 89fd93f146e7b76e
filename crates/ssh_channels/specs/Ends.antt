-- One end of a channel: what it knows, and what its calls and the messages that it receives do.
use Rattle.std.specs.Prelude.{◌≡◌, ℕ, ◌+◌, ◌-◌, ◌≤◌, ◌<◌, min, nat_le, nat_lt, ◌&&◌, ◌||◌, ◌⊎◌, ◌^◌, not, Bool, true, false, if◌then◌else◌, List, [], ◌∷◌, ◌++◌, length, map, take, drop, Option, Some, None}
use Rattle.ssh_channels.specs.Phases.{Message, Open, Confirmation, Failure, Adjust, Data, Eof, Close, Phase, Silent, Talking, Ended, Shut, Failed, is_live, is_refused, may_send}
pub use Rattle.ssh_channels.specs.declared.end.End.{End}

-- What holds of an end between two calls: no byte goes out that wasn't written or isn't allowed, less than 2^32 more
-- are allowed, none is told of that wasn't read, none is read that didn't come, and none comes beyond the window.
pub record IsSound (e : End) : Type 0 where
  pub within : e.gone ≤ length e.written
  pub passed : e.gone ≤ e.granted
  pub near : e.granted < e.gone + 2 ^ 32
  pub small : e.gone < 2 ^ 63
  pub told : e.told ≤ e.read
  pub read : e.read ≤ length e.received
  pub came : length e.received ≤ e.window + e.told
  pub silent : e.heard ≡ Silent → e.granted ≡ 0

-- an end of which nothing is known
abbrev pub fresh : (window most : ℕ) → Phase → End
fresh window most said = record {
  window = window;
  most = most;
  said = said;
  heard = Silent;
  written = [];
  gone = 0;
  granted = 0;
  largest = 0;
  eof_called = false;
  close_called = false;
  received = [];
  read = 0;
  told = 0;
  ended = false;
}

-- both ends speak of the channel
abbrev pub is_open : End → Bool
is_open e = is_live e.said && is_live e.heard

abbrev pub all_gone : End → Bool
all_gone e = nat_le (length e.written) e.gone

-- the joined pieces
abbrev pub joined : List (List ℕ) → List ℕ
joined [] = []
joined (piece ∷ pieces) = piece ++ joined pieces

-- each piece has at least one byte and at most so many
abbrev pub ArePieces : ℕ → List (List ℕ) → Type 0
ArePieces most [] = Unit {0}
ArePieces most (piece ∷ pieces) = (0 < length piece) × (length piece ≤ most) × ArePieces most pieces

abbrev pub data_messages : List (List ℕ) → List Message
data_messages pieces = map (λ piece. Data piece) pieces

-- whether data may go out
abbrev pub can_send : End → Bool
can_send e = may_send e.said && is_live e.heard

-- how many bytes went out when all that may did
abbrev pub goes : End → ℕ
goes e = if can_send e && nat_lt 0 e.largest then min (length e.written) e.granted else e.gone

-- Data goes out, until the window or the bytes are used up. Where no byte may, none does.
pub record SendsData (old : End) (pieces : List (List ℕ)) (new : End) : Type 0 where
  pub new_is : new ≡ record old { gone = goes old }
  pub each : ArePieces (min old.largest 32768) pieces
  pub bytes : joined pieces ≡ take (goes old - old.gone) (drop old.gone old.written)

-- the end of data goes out behind all that was written
abbrev pub ends_now : End → Bool
ends_now e = can_send e && (e.eof_called && all_gone e)

-- and so does the close
abbrev pub closes_now : End → Bool
closes_now e = is_open e && (e.close_called && all_gone e)

abbrev pub after_eof : End → End
after_eof e = if ends_now e then record e { said = Ended } else e

abbrev pub after_close : End → End
after_close e = if closes_now e then record e { said = Shut } else e

abbrev pub eof_messages : End → List Message
eof_messages e = if ends_now e then Eof ∷ [] else []

abbrev pub close_messages : End → List Message
close_messages e = if closes_now e then Close ∷ [] else []

-- What waits goes out, as far as it may.
pub record Sends (old : End) (messages : List Message) (new : End) : Type 0 where
  pub pieces : List (List ℕ)
  pub mid : End
  pub sent : SendsData old pieces mid
  pub messages_are : messages ≡ data_messages pieces ++ (eof_messages mid ++ close_messages (after_eof mid))
  pub new_is : new ≡ after_close (after_eof mid)

-- whether an end was heard of by its own side: it opened the channel or accepted it
abbrev pub is_there : Phase → Bool
is_there Silent = false
is_there Talking = true
is_there Ended = true
is_there Shut = true
is_there Failed = false

-- no more may be written
abbrev pub has_ended : End → Bool
has_ended e = e.eof_called || (e.close_called || is_refused e.heard)

-- a call on a channel that is there
pub data Call : Type 0 where
  Write : (bytes : List ℕ) → Call
  Read : (n : ℕ) → Call
  CallEof : Call
  CallClose : Call

-- how many bytes a read takes
abbrev pub taken : End → ℕ → ℕ
taken e n = min n (length e.received - e.read)

-- whether it is told
abbrev pub tells : End → ℕ → Bool
tells e n = is_live e.said && nat_lt 0 (taken e n)

-- what a call does where it isn't refused
abbrev pub Calls : Call → End → List Message → End → Type 0
Calls (Write bytes) old messages new =
    (has_ended old ≡ false) × Sends (record old { written = old.written ++ bytes }) messages new
Calls CallEof old messages new = (has_ended old ≡ false) × Sends (record old { eof_called = true }) messages new
Calls CallClose old messages new = (old.close_called ≡ false) × (is_refused old.heard ≡ false) × Sends (record old { close_called = true }) messages new
Calls (Read n) old messages new =
    (messages ≡ (if tells old n then Adjust (taken old n) ∷ [] else []))
    × (new ≡ record old { read = old.read + taken old n; told = if tells old n then old.told + taken old n else old.told })

-- what a message does where it isn't refused
abbrev pub Receives : Message → End → List Message → End → Type 0
Receives (Open w m) old messages new =
    ((messages ≡ Confirmation old.window old.most ∷ []) × (new ≡ record old { heard = Talking; said = Talking; granted = w; largest = m }))
    ⊎ ((messages ≡ Failure ∷ []) × (new ≡ record old { heard = Talking; said = Failed; granted = w; largest = m }))
Receives (Confirmation w m) old messages new = Sends (record old { heard = Talking; granted = w; largest = m }) messages new
Receives Failure old messages new = (messages ≡ []) × (new ≡ record old { heard = Failed })
Receives (Adjust n) old messages new = Sends (record old { granted = old.granted + n }) messages new
Receives (Data bytes) old messages new = (messages ≡ []) × (new ≡ record old { received = old.received ++ bytes })
Receives Eof old messages new = (messages ≡ []) × (new ≡ record old { heard = Ended; ended = true })
Receives Close old messages new =
    (messages ≡ (if is_live old.said then Close ∷ [] else []))
    × (new ≡ record old { heard = Shut; said = if is_live old.said then Shut else old.said })

-- A message is out of place, or brings more data than may come.
abbrev pub IsTooMuch : Message → End → Type 0
IsTooMuch (Open w m) e = ⊥
IsTooMuch (Confirmation w m) e = ⊥
IsTooMuch Failure e = ⊥
IsTooMuch (Adjust n) e = 2 ^ 32 ≤ (e.granted - e.gone) + n
IsTooMuch (Data bytes) e = (e.most < length bytes) ⊎ ((e.window + e.told) - length e.received < length bytes)
IsTooMuch Eof e = ⊥
IsTooMuch Close e = ⊥
