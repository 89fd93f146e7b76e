-- What is true of every packet and of every stream of packets.
use Rattle.std.specs.Prelude.{◌≡◌, ℕ, ◌+◌, ◌%◌, ◌≤◌, if◌then◌else◌, Bool, Option, Some, List, [], ◌++◌, length}
use Rattle.ssh_mac.specs.Tags.{is_encrypt_then_mac}
use Rattle.ssh_wire.specs.Forms.{AreBytes}
use Rattle.ssh_packet.specs.Sealing.{Item, Sealing, Clear, Block, Gcm, IsAdmissible, sealed_text, moved_past, moved_on, sealed_packet, head_length, longest_padding, padding_length}
use Rattle.ssh_packet.specs.Stream.{Opening, Place, Entries, EntriesBy, IsPlain, Reads, ReadsBy, by_type, first_place}
use Rattle.ssh_packet.specs.Carried.{AgreeFor, SameFor}
use Rattle.ssh_packet.specs.Front.{Whole, Fault, Refused, front_of, tag_for, text_in, opened_past, key_behind}
use Rattle.ssh_packet.specs.Errors.{error_of}
use Rattle.ssh_packet.specs.declared.error.OpenError.{OpenError}
use Rattle.ssh_wire.specs.declared.error.Error.TheVariants.{Memory}

-- state, number and bytes determine the packet, whatever follows it
abbrev pub OnePacket : Type 0
OnePacket = (sealing : Sealing) (number : ℕ) (a b : Item) (x y : List ℕ) → IsAdmissible sealing a
    → IsAdmissible sealing b → sealed_packet sealing number a ++ x ≡ sealed_packet sealing number b ++ y → (a ≡ b)
    × (x ≡ y)

-- opening undoes sealing: a packet at the front is what the reader finds
abbrev pub FrontWhole : Type 0
FrontWhole = (sealing : Sealing) (number : ℕ) (item : Item) (rest : List ℕ) → IsAdmissible sealing item
    → front_of sealing number (sealed_packet sealing number item ++ rest) ≡ Whole item rest

-- and what the reader finds in bytes is an admissible packet that stands there sealed
abbrev pub FrontSound : Type 0
FrontSound = (sealing : Sealing) (number : ℕ) (bytes rest : List ℕ) (item : Item) → AreBytes bytes
    → front_of sealing number bytes ≡ Whole item rest → IsAdmissible sealing item
    × (bytes ≡ sealed_packet sealing number item ++ rest)

-- A packet and its tag that a framed text was sealed to open to the text, and leave what sealing left.
abbrev pub OpensAgain : Type 0
OpensAgain = (sealing : Sealing) (number : ℕ) (text packet tag : List ℕ) → AreBytes text → 4 ≤ length text
    → length packet ≡ length text → packet ++ tag ≡ sealed_text sealing number text
    → (tag ≡ tag_for sealing number packet) × (text_in sealing packet ≡ text)
    × (opened_past sealing packet ≡ moved_past sealing text)

-- so does a pair of keys at one state, whatever their types: what one seals the other opens, and both are at one state
-- again
abbrev pub PairOpens : {S O : Type 0} → (S → Sealing) → (O → Sealing) → Type 0
PairOpens {S} {O} sealing opening = (s : S) (o : O) (number : ℕ) (text packet tag : List ℕ) → sealing s ≡ opening o
    → AreBytes text → 4 ≤ length text → length packet ≡ length text
    → packet ++ tag ≡ sealed_text (sealing s) number text → (tag ≡ tag_for (opening o) number packet)
    × (text_in (opening o) packet ≡ text) × (opened_past (opening o) packet ≡ moved_past (sealing s) text)

-- behind a packet that was sealed, what a reader opens with is what the writer seals under
abbrev pub StatesAgree : Type 0
StatesAgree = (sealing : Sealing) (number : ℕ) (item : Item) (rest : List ℕ)
    → key_behind sealing (sealed_packet sealing number item ++ rest) rest ≡ moved_on sealing item

-- what the reader finds doesn't change when bytes come behind
abbrev pub FrontStays : Type 0
FrontStays = ((sealing : Sealing) (number : ℕ) (bytes more rest : List ℕ) (item : Item) → front_of sealing number bytes ≡ Whole item rest → front_of sealing number (bytes ++ more) ≡ Whole item (rest ++ more))
    × ((sealing : Sealing) (number : ℕ) (bytes more : List ℕ) (fault : Fault) → front_of sealing number bytes ≡ Refused fault → front_of sealing number (bytes ++ more) ≡ Refused fault)

-- two readings of the same bytes are one, wherever a test says that epochs end
abbrev pub OneReading : Type 0
OneReading = (ends_by : List Item → Item → Bool) (openings : List Opening) (bytes x y : List ℕ) (a b : List Item)
    → EntriesBy ends_by openings bytes a x → EntriesBy ends_by openings bytes b y → (a ≡ b) × (x ≡ y)

-- where the test says of each packet what its type says, this is the reading by types
abbrev pub PlainReading : Type 0
PlainReading = (ends_by : List Item → Item → Bool) (openings : List Opening) (bytes x : List ℕ) (a : List Item)
    → IsPlain ends_by [] a → EntriesBy ends_by openings bytes a x → Entries openings bytes a x

-- conversely, a reading by types is one by the test of types
abbrev pub ReadsByType : Type 0
ReadsByType = (before : List Item) (at : Option Place) (items : List Item) (bytes rest : List ℕ)
    → Reads at items bytes rest → ReadsBy by_type before at items bytes rest

-- What a reader takes off a front of what was written is what was written, through the epochs whose openings
-- agree. The reader tells ends of epochs by a test that is plain on what was written.
abbrev pub ReadsWhatWasWritten : Type 0
ReadsWhatWasWritten = (ends_by : List Item → Item → Bool) (k : ℕ) (read written : List Opening) (a b : List Item) (fed rest wire more : List ℕ)
    → IsPlain ends_by [] b → AgreeFor k read written → ReadsBy ends_by [] (Some (first_place read)) a fed rest
    → Reads (Some (first_place written)) b wire [] → fed ++ more ≡ wire → SameFor (Some k) a b

-- what of a packet is filled up: all of a packet in clear, all that is encrypted of the others
abbrev pub filled_length : Sealing → ℕ → ℕ → ℕ
filled_length Clear n padding = head_length + n + padding
filled_length (Block running mac) n padding = if is_encrypt_then_mac mac then 1 + n + padding else head_length + n + padding
filled_length (Gcm key nonce) n padding = 1 + n + padding

-- of how many bytes it is a multiple
abbrev pub unit_of : Sealing → ℕ
unit_of Clear = 8
unit_of (Block running mac) = 16
unit_of (Gcm key nonce) = 16

-- padding is 4 to 19 bytes, and fills up to whole units
abbrev pub IsPadding : ℕ → ℕ → ℕ → Type 0
IsPadding padding filled_length unit = (4 ≤ padding) × (padding ≤ longest_padding) × (filled_length % unit ≡ 0)

abbrev pub PaddingFills : Type 0
PaddingFills = (sealing : Sealing) (n : ℕ)
    → IsPadding (padding_length sealing n) (filled_length sealing n (padding_length sealing n)) (unit_of sealing)

-- whatever a reader refuses, it is never for want of memory
abbrev pub NeverMemory : Type 0
NeverMemory = (error : OpenError) → error_of error ≡ Memory → ⊥
