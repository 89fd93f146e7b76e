-- What the code says of the front of some bytes.
use Rattle.std.specs.Prelude.{◌≡◌, ◌⊎◌, ℕ, ◌+◌, ◌≤◌, true, false, List, length, take, drop, Option, Some, None, Result, Ok, Err}
use Rattle.ssh_packet.specs.Errors.{open_error}
use Rattle.ssh_packet.specs.Front.{Front, Fault, Whole, Unfinished, Refused, front_of, front_if_tagged, front_parts, is_bad_length, key_behind, length_in, front_packet, opened_past, refused_past}
use Rattle.ssh_packet.specs.Sealing.{Sealing, head_length, tag_size, longest_packet}
use Rattle.ssh_packet.specs.declared.error.OpenError.{OpenError}
use Rattle.ssh_packet.specs.declared.error.OpenError.TheVariants.{PacketSize, IndexOutOfBounds, PacketAuth, DecryptionError, Disconnect}
use Rattle.ssh_packet.specs.declared.front.Part.{Part}

-- the error of a fault that is found there
abbrev pub RefusesBy : Front → OpenError → Type 0
RefusesBy front error = (fault : Fault) × (error ≡ open_error fault) × (front ≡ Refused fault)

-- a length that isn't read
abbrev pub IsBadLength : Sealing → OpenError → Type 0
IsBadLength sealing error = (n : ℕ) × (error ≡ PacketSize n) × (is_bad_length sealing n ≡ true)

-- a packet of length n stands whole at the front
pub record StandsWhole (sealing : Sealing) (number : ℕ) (bytes : List ℕ) (n : ℕ) : Type 0 where
  pub front : front_of sealing number bytes ≡ front_if_tagged sealing number n (take (4 + n) bytes) (drop (4 + n) bytes)
  pub shown : n ≡ length_in sealing bytes
  pub good : is_bad_length sealing n ≡ false
  pub short : n ≤ longest_packet
  pub there : 4 + n + tag_size sealing ≤ length bytes

abbrev pub Measures : Sealing → ℕ → List ℕ → Result (Option ℕ) OpenError → Type 0
Measures sealing number bytes (Ok (Some n)) = StandsWhole sealing number bytes n
Measures sealing number bytes (Ok None) = front_of sealing number bytes ≡ Unfinished
Measures sealing number bytes (Err error) = RefusesBy (front_of sealing number bytes) error
    × IsBadLength sealing error

-- What a refused packet without its tag leaves of a key: where its padding length was bad, what opening it leaves;
-- where its tag was wrong, what a wrong tag does.
abbrev pub LeavesKey : Sealing → List ℕ → OpenError → Sealing → Type 0
LeavesKey sealing packet (PacketSize n) sealing' = sealing' ≡ opened_past sealing packet
LeavesKey sealing packet IndexOutOfBounds sealing' = sealing' ≡ opened_past sealing packet
LeavesKey sealing packet PacketAuth sealing' = sealing' ≡ refused_past sealing packet
LeavesKey sealing packet DecryptionError sealing' = sealing' ≡ refused_past sealing packet
LeavesKey sealing packet Disconnect sealing' = ⊥

-- a refusal of a size is one of this packet length
abbrev pub IsSizeOnly : ℕ → OpenError → Type 0
IsSizeOnly n error = (m : ℕ) → error ≡ PacketSize m → m ≡ n

-- a framed text of packet length n has so many bytes of payload, or none
abbrev pub Parts : ℕ → List ℕ → Result ℕ OpenError → Type 0
Parts n text (Ok payload) = (1 + payload ≤ n)
    × ((rest : List ℕ) → front_parts n text rest ≡ Whole (record { payload = take payload (drop head_length text); padding = drop payload (drop head_length text) }) rest)
Parts n text (Err error) = ((error ≡ IndexOutOfBounds) ⊎ (error ≡ PacketSize n))
    × ((rest : List ℕ) → RefusesBy (front_parts n text rest) error)

-- A packet was opened where it stood: its payload is behind the first five bytes, and what is behind it is as it was.
pub record OpensPart (front : Front) (old new : List ℕ) (part : Part) : Type 0 where
  pub padding : List ℕ
  pub found : front ≡ Whole (record { payload = take part.payload (drop head_length new); padding = padding }) (drop part.end old)
  pub rest : drop part.end new ≡ drop part.end old
  pub within : head_length + part.payload ≤ part.end
  pub fits : part.end ≤ length old

abbrev pub OpensChecked : Sealing → ℕ → ℕ → List ℕ → List ℕ → Result Part OpenError → Sealing → Type 0
OpensChecked sealing number n old new (Ok part) sealing' = OpensPart (front_if_tagged sealing number n (take (4 + n) old) (drop (4 + n) old)) old new part
    × (sealing' ≡ key_behind sealing old (drop part.end old))
OpensChecked sealing number n old new (Err error) sealing' = RefusesBy (front_if_tagged sealing number n (take (4 + n) old) (drop (4 + n) old)) error
    × IsSizeOnly n error × LeavesKey sealing (take (4 + n) old) error sealing'

-- A length that isn't read leaves all as it was, and any other refusal is one of the packet at the front.
abbrev pub LeavesFront : Sealing → List ℕ → List ℕ → OpenError → Sealing → Type 0
LeavesFront sealing old new error sealing' =
    (IsBadLength sealing error × (new ≡ old) × (sealing' ≡ sealing))
    ⊎ (((n : ℕ) → error ≡ PacketSize n → is_bad_length sealing n ≡ false) × LeavesKey sealing (front_packet sealing old) error sealing')

-- What is found at the front was opened. Less than a packet leaves all as it was.
abbrev pub Opens : Sealing → ℕ → List ℕ → List ℕ → Result (Option Part) OpenError → Sealing → Type 0
Opens sealing number old new (Ok (Some part)) sealing' = OpensPart (front_of sealing number old) old new part
    × (sealing' ≡ key_behind sealing old (drop part.end old))
Opens sealing number old new (Ok None) sealing' = (front_of sealing number old ≡ Unfinished) × (new ≡ old)
    × (sealing' ≡ sealing)
Opens sealing number old new (Err error) sealing' = RefusesBy (front_of sealing number old) error
    × LeavesFront sealing old new error sealing'
