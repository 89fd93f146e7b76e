-- The packets of one direction, over whole bytes: in one epoch, and over the epochs that exchanges end
-- (RFC 4253 section 7.3).
use Rattle.std.specs.Prelude.{◌≡◌, ℕ, ◌==◌, Bool, true, false, if◌then◌else◌, List, [], ◌∷◌, ◌++◌, Option, Some, None, slice_index}
use Rattle.ssh_packet.specs.Sealing.{Item, Sealing, Clear, sealed_packet, moved_on, next_number, IsAdmissible}

-- ---- one epoch

-- the bytes of these packets, one after the other
abbrev pub packets : Sealing → ℕ → List Item → List ℕ
packets sealing number [] = []
packets sealing number (item ∷ items) = sealed_packet sealing number item ++ packets (moved_on sealing item) (next_number number) items

-- the number of the packet that comes behind packets
abbrev pub number_after : ℕ → List Item → ℕ
number_after number [] = number
number_after number (item ∷ items) = number_after (next_number number) items

-- ---- epochs

-- What a direction takes up where an exchange ends: the start state, and whether the numbers begin again.
pub record Opening : Type 0 where
  pub sealing : Sealing
  pub strict : Bool

-- Where a direction stands, and what it takes up at the ends of epochs to come.
pub record Place : Type 0 where
  pub sealing : Sealing
  pub number : ℕ
  pub openings : List Opening

abbrev pub first_place : List Opening → Place
first_place openings = record { sealing = Clear; number = 0; openings = openings }

-- the first byte of a message is its type; NEWKEYS is 21 (RFC 4253 section 7.3)
abbrev pub message_type : List ℕ → ℕ
message_type payload = slice_index payload 0

abbrev pub is_newkeys : Item → Bool
is_newkeys i = message_type i.payload == 21

-- under strict key exchange the numbers begin again
abbrev pub kept_number : Bool → ℕ → ℕ
kept_number true n = 0
kept_number false n = n

-- what an epoch's end leads to: nothing, where no exchange is there for it
abbrev pub next_place : List Opening → ℕ → Option Place
next_place [] n = None
next_place (o ∷ openings) n = Some (record { sealing = o.sealing; number = kept_number o.strict n; openings = openings })

-- where a direction stands behind a packet: only the type of the message matters beside what it is sealed under
abbrev pub place_after : Place → Item → Option Place
place_after at i =
    if is_newkeys i then next_place at.openings (next_number at.number)
    else Some (record { sealing = moved_on at.sealing i; number = next_number at.number; openings = at.openings })

abbrev pub packet_at : Place → Item → List ℕ
packet_at at i = sealed_packet at.sealing at.number i

-- The bytes are these packets, from this place on, and then the rest.
abbrev pub Reads : Option Place → List Item → List ℕ → List ℕ → Type 0
Reads at [] bytes rest = bytes ≡ rest
Reads None (i ∷ items) bytes rest = ⊥
Reads (Some at) (i ∷ items) bytes rest = (more : List ℕ) × IsAdmissible at.sealing i
    × (bytes ≡ packet_at at i ++ more) × Reads (place_after at i) items more rest

-- the place behind packets
abbrev pub place_behind : Option Place → List Item → Option Place
place_behind at [] = at
place_behind None (i ∷ items) = None
place_behind (Some at) (i ∷ items) = place_behind (place_after at i) items

-- no further packet stands whole at the front
abbrev pub IsEnd : Option Place → List ℕ → Type 0
IsEnd None rest = Unit {0}
IsEnd (Some at) rest = (i : Item) (more : List ℕ) → IsAdmissible at.sealing i → rest ≡ packet_at at i ++ more → ⊥

-- the packets read from the front of the bytes, all that are whole
pub record Entries (openings : List Opening) (bytes : List ℕ) (items : List Item) (rest : List ℕ) : Type 0 where
  pub reads : Reads (Some (first_place openings)) items bytes rest
  pub no_more : IsEnd (place_behind (Some (first_place openings)) items) rest

-- ---- ends of epochs by a test

-- The same where a packet of type 21 doesn't always end an epoch: `ends_by` says of a packet, after those before it,
-- whether it does.
abbrev pub place_by : Bool → Place → Item → Option Place
place_by true at i = next_place at.openings (next_number at.number)
place_by false at i = Some (record { sealing = moved_on at.sealing i; number = next_number at.number; openings = at.openings })

abbrev pub ReadsBy : (List Item → Item → Bool) → List Item → Option Place → List Item → List ℕ → List ℕ → Type 0
ReadsBy ends_by before at [] bytes rest = bytes ≡ rest
ReadsBy ends_by before None (i ∷ items) bytes rest = ⊥
ReadsBy ends_by before (Some at) (i ∷ items) bytes rest = (more : List ℕ) × IsAdmissible at.sealing i
    × (bytes ≡ packet_at at i ++ more)
    × ReadsBy ends_by (before ++ i ∷ []) (place_by (ends_by before i) at i) items more rest

abbrev pub place_behind_by : (List Item → Item → Bool) → List Item → Option Place → List Item → Option Place
place_behind_by ends_by before at [] = at
place_behind_by ends_by before None (i ∷ items) = None
place_behind_by ends_by before (Some at) (i ∷ items) = place_behind_by ends_by (before ++ i ∷ []) (place_by (ends_by before i) at i) items

pub record EntriesBy (ends_by : List Item → Item → Bool) (openings : List Opening) (bytes : List ℕ) (items : List Item) (rest : List ℕ) : Type 0 where
  pub reads : ReadsBy ends_by [] (Some (first_place openings)) items bytes rest
  pub no_more : IsEnd (place_behind_by ends_by [] (Some (first_place openings)) items) rest

-- the test says of each packet what its type says
abbrev pub IsPlain : (List Item → Item → Bool) → List Item → List Item → Type 0
IsPlain ends_by before [] = Unit {0}
IsPlain ends_by before (i ∷ items) = (ends_by before i ≡ is_newkeys i) × IsPlain ends_by (before ++ i ∷ []) items

-- the test by type
abbrev pub by_type : List Item → Item → Bool
by_type before i = is_newkeys i
