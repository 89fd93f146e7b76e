-- A reader, as contracts see it, and what `next` makes of it.
use Rattle.std.specs.Prelude.{◌≡◌, ◌+◌, ◌-◌, ◌<◌, ◌++◌, ℕ, Bool, true, false, List, [], length, min, Option, Some, None, Result, Ok, Err}
use Rattle.ssh_packet.specs.Front.{PacketSize, IndexOutOfBounds, PacketAuth, DecryptionError, Whole, Unfinished, Refused, front_of, front_packet, is_bad_length, opened_past, refused_past}
use Rattle.ssh_packet.specs.Sealing.{Item, Sealing, IsAdmissible, longest_packet, longest_tag, sealed_packet, moved_on, next_number}
use Rattle.ssh_packet.specs.Writing.{count_after}
use Rattle.ssh_packet.specs.declared.error.OpenError.{OpenError}
use Rattle.ssh_packet.specs.declared.error.OpenError.TheVariants as errors
use Rattle.ssh_packet.specs.declared.reader.Incoming.{Incoming}

-- bytes that wait, the number of the next packet, the payload bytes handed out, whether a `next` was refused, the
-- payload that is still lent, how many bytes may wait of what is taken, and how many bytes that were handed out are
-- still kept before those that wait
pub record Reader : Type 0 where
  pub waiting : List ℕ
  pub number : ℕ
  pub count : ℕ
  pub failed : Bool
  pub handed : List ℕ
  pub window : ℕ
  pub spent : ℕ

-- how many bytes a window holds: a packet length, the longest packet, the longest tag
abbrev pub window_length : ℕ
window_length = 4 + longest_packet + longest_tag

-- how many bytes of a piece a window has room for
abbrev pub room_in : Reader → ℕ → ℕ
room_in r n = min n (r.window - length r.waiting)

-- A packet was handed out, whose bytes stood at the front: its payload is lent, `seqn` is its number plus one.
pub record HandsOut (old : Reader) (key : Sealing) (item : Item) (incoming : Incoming) (new : Reader) (key' : Sealing) : Type 0 where
  pub live : old.failed ≡ false
  pub front : front_of key old.number old.waiting ≡ Whole item new.waiting
  pub payload : incoming.payload.now ≡ item.payload
  pub seqn : incoming.seqn ≡ next_number old.number
  pub number : new.number ≡ next_number old.number
  pub count : new.count ≡ count_after old.count (length item.payload)
  pub failed : new.failed ≡ false
  pub handed : new.handed ≡ item.payload
  pub window : new.window ≡ old.window
  pub spent : new.spent ≡ old.spent + length (sealed_packet key old.number item)
  pub shorter : length new.waiting < length old.waiting
  pub admissible : IsAdmissible key item
  pub bytes : old.waiting ≡ sealed_packet key old.number item ++ new.waiting
  pub moved : key' ≡ moved_on key item

-- why `next` was refused
abbrev pub RefusesNext : Reader → Sealing → OpenError → Type 0
RefusesNext old key (errors.PacketSize n) = (old.failed ≡ false)
    × (front_of key old.number old.waiting ≡ Refused (PacketSize n))
RefusesNext old key errors.IndexOutOfBounds = (old.failed ≡ false)
    × (front_of key old.number old.waiting ≡ Refused IndexOutOfBounds)
RefusesNext old key errors.PacketAuth = (old.failed ≡ false)
    × (front_of key old.number old.waiting ≡ Refused PacketAuth)
RefusesNext old key errors.DecryptionError = (old.failed ≡ false)
    × (front_of key old.number old.waiting ≡ Refused DecryptionError)
RefusesNext old key errors.Disconnect = old.failed ≡ true

-- A refusal is the end of a reader. Some of the bytes that wait may have been decrypted before it.
pub record IsOver (old new : Reader) : Type 0 where
  pub failed : new.failed ≡ true
  pub number : new.number ≡ old.number
  pub count : new.count ≡ old.count
  pub waiting : length new.waiting ≡ length old.waiting
  pub handed : new.handed ≡ []
  pub window : new.window ≡ old.window
  pub spent : new.spent ≡ old.spent

-- What a refusal leaves. A packet length that isn't read is refused before anything is opened. A packet whose padding
-- length is bad had the right tag, and its key has moved on past it; of a wrong tag `refused_past` says what it leaves.
abbrev pub EndsAt : Reader → Sealing → Sealing → OpenError → Reader → Type 0
EndsAt old key key' (errors.PacketSize n) new = IsOver old new
    × (is_bad_length key n ≡ true → (new ≡ record old { failed = true; handed = [] }) × (key' ≡ key))
    × (is_bad_length key n ≡ false → key' ≡ opened_past key (front_packet key old.waiting))
EndsAt old key key' errors.IndexOutOfBounds new = IsOver old new
    × (key' ≡ opened_past key (front_packet key old.waiting))
EndsAt old key key' errors.PacketAuth new = IsOver old new × (key' ≡ refused_past key (front_packet key old.waiting))
EndsAt old key key' errors.DecryptionError new = IsOver old new
    × (key' ≡ refused_past key (front_packet key old.waiting))
EndsAt old key key' errors.Disconnect new = (new ≡ record old { handed = [] }) × (key' ≡ key)

-- what `next` leaves
abbrev pub LeavesNext : Reader → Sealing → Sealing → Result (Option Incoming) OpenError → Reader → Type 0
LeavesNext old key key' (Ok (Some incoming)) new = (item : Item) × HandsOut old key item incoming new key'
LeavesNext old key key' (Ok None) new = (old.failed ≡ false) × (front_of key old.number old.waiting ≡ Unfinished)
    × (new ≡ record old { handed = [] }) × (key' ≡ key)
LeavesNext old key key' (Err error) new = RefusesNext old key error × EndsAt old key key' error new
