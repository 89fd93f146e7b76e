-- What is said of one channel, and how far each side has come in saying it (RFC 4254 sections 5.1 to 5.3).
use Rattle.std.specs.Prelude.{◌≡◌, ℕ, ◌+◌, ◌≤◌, Bool, true, false, List, [], ◌∷◌, ◌++◌, length, Option, Some, None, refl}
pub use Rattle.ssh_channels.specs.declared.end.Phase.{Phase}
pub use Rattle.ssh_channels.specs.declared.end.Phase.TheVariants.{Silent, Talking, Ended, Shut, Failed}

-- a message of a channel, without the numbers that name the channel
pub data Message : Type 0 where
  -- a channel is asked for; the asking side takes so many bytes, and at most so many in a message
  Open : (window most : ℕ) → Message
  -- it is granted; the granting side takes so many bytes, and at most so many in a message
  Confirmation : (window most : ℕ) → Message
  -- it is refused
  Failure : Message
  -- so many bytes more may be sent
  Adjust : (count : ℕ) → Message
  Data : (bytes : List ℕ) → Message
  -- no data follows
  Eof : Message
  -- nothing follows
  Close : Message

-- the first message: that of the opener, or the answer to it
abbrev pub first : (answers : Bool) → Message → Option Phase
first true (Open w m) = None
first true (Confirmation w m) = Some Talking
first true Failure = Some Failed
first true (Adjust n) = None
first true (Data bytes) = None
first true Eof = None
first true Close = None
first false (Open w m) = Some Talking
first false (Confirmation w m) = None
first false Failure = None
first false (Adjust n) = None
first false (Data bytes) = None
first false Eof = None
first false Close = None

abbrev pub while_talking : Message → Option Phase
while_talking (Open w m) = None
while_talking (Confirmation w m) = None
while_talking Failure = None
while_talking (Adjust n) = Some Talking
while_talking (Data bytes) = Some Talking
while_talking Eof = Some Ended
while_talking Close = Some Shut

abbrev pub when_ended : Message → Option Phase
when_ended (Open w m) = None
when_ended (Confirmation w m) = None
when_ended Failure = None
when_ended (Adjust n) = Some Ended
when_ended (Data bytes) = None
when_ended Eof = None
when_ended Close = Some Shut

-- what a message leads to; none where it is out of place. `answers`: whether the side answers an opening
abbrev pub next : (answers : Bool) → Phase → Message → Option Phase
next answers Silent m = first answers m
next answers Talking m = while_talking m
next answers Ended m = when_ended m
next answers Shut m = None
next answers Failed m = None

abbrev pub next_of : (answers : Bool) → Option Phase → Message → Option Phase
next_of answers None m = None
next_of answers (Some p) m = next answers p m

-- what messages lead to, one after the other
abbrev pub behind : (answers : Bool) → Option Phase → List Message → Option Phase
behind answers p [] = p
behind answers p (m ∷ ms) = behind answers (next_of answers p m) ms

-- the bytes in them
abbrev pub data_of : Message → List ℕ
data_of (Open w m) = []
data_of (Confirmation w m) = []
data_of Failure = []
data_of (Adjust n) = []
data_of (Data bytes) = bytes
data_of Eof = []
data_of Close = []

abbrev pub data_in : List Message → List ℕ
data_in [] = []
data_in (m ∷ ms) = data_of m ++ data_in ms

-- how many bytes they allow
abbrev pub grant_of : Message → ℕ
grant_of (Open w m) = w
grant_of (Confirmation w m) = w
grant_of Failure = 0
grant_of (Adjust n) = n
grant_of (Data bytes) = 0
grant_of Eof = 0
grant_of Close = 0

abbrev pub grants_in : List Message → ℕ
grants_in [] = 0
grants_in (m ∷ ms) = grant_of m + grants_in ms

-- whether a side that has come so far still speaks of the channel
abbrev pub is_live : Phase → Bool
is_live Silent = false
is_live Talking = true
is_live Ended = true
is_live Shut = false
is_live Failed = false

abbrev pub may_send : Phase → Bool
may_send Silent = false
may_send Talking = true
may_send Ended = false
may_send Shut = false
may_send Failed = false

-- whether it has told its window
abbrev pub has_told : Phase → Bool
has_told Silent = false
has_told Talking = true
has_told Ended = true
has_told Shut = true
has_told Failed = false

-- whether a side that has come so far closed the channel or refused it
abbrev pub is_refused : Phase → Bool
is_refused Silent = false
is_refused Talking = false
is_refused Ended = false
is_refused Shut = true
is_refused Failed = true

talk-example : behind false (Some Silent) (Open 5 7 ∷ Data (1 ∷ 2 ∷ []) ∷ Adjust 2 ∷ Eof ∷ Adjust 1 ∷ Close ∷ []) ≡ Some Shut
talk-example = refl

late-example : behind false (Some Silent) (Open 5 7 ∷ Eof ∷ Data (1 ∷ []) ∷ []) ≡ None
late-example = refl
