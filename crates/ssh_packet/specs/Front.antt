-- What a reader finds at the front of the bytes that wait.
use Rattle.std.specs.Prelude.{◌≡◌, ℕ, ◌+◌, ◌-◌, nat_lt, ◌||◌, Bool, true, false, if◌then◌else◌, List, [], ◌∷◌, ◌++◌, length, take, drop, slice_index, replicate, refl}
use Rattle.std.specs.Int.{w32, from_be_bytes}
use Rattle.std.specs.Str.{bytes_eq}
use Rattle.ssh_aes.specs.Gcm.{gcm_plain, cipher_tag}
use Rattle.ssh_aes.specs.Modes.{Running, unmasked_text, running_past}
use Rattle.ssh_mac.specs.Tags.{tag_of, is_encrypt_then_mac}
use Rattle.ssh_packet.specs.Sealing.{Item, Sealing, Clear, Block, Gcm, encrypted_part, next_nonce, tag_size, probe_length, shortest_packet, head_length, longest_packet}

pub data Fault : Type 0 where
  PacketSize : (n : ℕ) → Fault
  PacketAuth : Fault
  DecryptionError : Fault
  IndexOutOfBounds : Fault

pub data Front : Type 0 where
  Whole : (item : Item) (rest : List ℕ) → Front
  Unfinished : Front
  Refused : (fault : Fault) → Front

-- the first bytes, decrypted where the packet length is encrypted
abbrev pub probe_text : Bool → Running → List ℕ → List ℕ
probe_text true running bytes = bytes
probe_text false running bytes = unmasked_text running (take 16 bytes)

-- the packet length that they show
abbrev pub length_in : Sealing → List ℕ → ℕ
length_in Clear bytes = from_be_bytes w32 (take 4 bytes)
length_in (Block running mac) bytes = from_be_bytes w32 (take 4 (probe_text (is_encrypt_then_mac mac) running bytes))
length_in (Gcm key nonce) bytes = from_be_bytes w32 (take 4 bytes)

abbrev pub is_bad_length : Sealing → ℕ → Bool
is_bad_length sealing n = nat_lt longest_packet n || (nat_lt (n + 4 + tag_size sealing) (probe_length sealing) || nat_lt (n + 4) (shortest_packet sealing))

-- the framed text of a packet without its tag
abbrev pub decrypted_text : Bool → Running → List ℕ → List ℕ
decrypted_text true running packet = take 4 packet ++ unmasked_text running (drop 4 packet)
decrypted_text false running packet = unmasked_text running packet

abbrev pub text_in : Sealing → List ℕ → List ℕ
text_in Clear packet = packet
text_in (Block running mac) packet = decrypted_text (is_encrypt_then_mac mac) running packet
text_in (Gcm key nonce) packet = take 4 packet ++ gcm_plain key nonce (take 4 packet) (drop 4 packet)

-- what a direction is opened with after a packet without its tag
abbrev pub opened_past : Sealing → List ℕ → Sealing
opened_past Clear packet = Clear
opened_past (Block running mac) packet = Block (running_past running (encrypted_part (is_encrypt_then_mac mac) packet)) mac
opened_past (Gcm key nonce) packet = Gcm key (next_nonce nonce)

-- what the tag of a packet is over
abbrev pub tagged_text : Bool → Running → List ℕ → List ℕ
tagged_text true running packet = packet
tagged_text false running packet = unmasked_text running packet

-- the tag that belongs to a packet without its tag
abbrev pub tag_for : Sealing → ℕ → List ℕ → List ℕ
tag_for Clear number packet = []
tag_for (Block running mac) number packet = tag_of mac number (tagged_text (is_encrypt_then_mac mac) running packet)
tag_for (Gcm key nonce) number packet = cipher_tag key nonce (take 4 packet) (drop 4 packet)

-- a packet and its tag, parted
abbrev pub packet_of : Sealing → List ℕ → List ℕ
packet_of sealing bytes = take (length bytes - tag_size sealing) bytes

abbrev pub tag_behind : Sealing → List ℕ → List ℕ
tag_behind sealing bytes = drop (length bytes - tag_size sealing) bytes

-- what a direction is opened with behind the packet that stands before the rest
abbrev pub key_behind : Sealing → List ℕ → List ℕ → Sealing
key_behind sealing bytes rest = opened_past sealing (packet_of sealing (take (length bytes - length rest) bytes))

-- the packet at the front, without its tag, as long as its packet length says
abbrev pub front_packet : Sealing → List ℕ → List ℕ
front_packet sealing bytes = take (4 + length_in sealing bytes) bytes

-- what a packet without its tag is, and what its direction is opened with, where the tag was wrong: under a MAC over
-- the packet in clear it was decrypted before, else both are as they were
abbrev pub refused_text : Sealing → List ℕ → List ℕ
refused_text Clear packet = packet
refused_text (Block running mac) packet = if is_encrypt_then_mac mac then packet else unmasked_text running packet
refused_text (Gcm key nonce) packet = packet

abbrev pub refused_past : Sealing → List ℕ → Sealing
refused_past Clear packet = Clear
refused_past (Block running mac) packet = if is_encrypt_then_mac mac then Block running mac else Block (running_past running packet) mac
refused_past (Gcm key nonce) packet = Gcm key nonce

-- what a wrong tag is called
abbrev pub tag_fault : Sealing → Fault
tag_fault Clear = PacketAuth
tag_fault (Block running mac) = PacketAuth
tag_fault (Gcm key nonce) = DecryptionError

-- a framed text of packet length n, taken apart by its padding length
abbrev pub front_parts_by : ℕ → ℕ → List ℕ → List ℕ → Front
front_parts_by padding n behind rest =
    if nat_lt n padding then Refused IndexOutOfBounds
    else if nat_lt n (padding + 2) then Refused (PacketSize n)
    else Whole (record { payload = take (n - 1 - padding) behind; padding = drop (n - 1 - padding) behind }) rest

abbrev pub front_parts : ℕ → List ℕ → List ℕ → Front
front_parts n text rest = front_parts_by (slice_index text 4) n (drop head_length text) rest

-- a packet of length n without its tag, and what is behind: the tag first
abbrev pub front_if_tagged : Sealing → ℕ → ℕ → List ℕ → List ℕ → Front
front_if_tagged sealing number n packet behind =
    if bytes_eq (tag_for sealing number packet) (take (tag_size sealing) behind)
    then front_parts n (text_in sealing packet) (drop (tag_size sealing) behind)
    else Refused (tag_fault sealing)

-- a packet of length n, where it stands whole
abbrev pub front_if_whole : Sealing → ℕ → ℕ → List ℕ → Front
front_if_whole sealing number n bytes =
    if nat_lt (length bytes) (4 + n + tag_size sealing) then Unfinished
    else front_if_tagged sealing number n (take (4 + n) bytes) (drop (4 + n) bytes)

abbrev pub front_by_length : Sealing → ℕ → ℕ → List ℕ → Front
front_by_length sealing number n bytes =
    if is_bad_length sealing n then Refused (PacketSize n) else front_if_whole sealing number n bytes

unfoldable pub front_of : Sealing → ℕ → List ℕ → Front
front_of sealing number bytes =
    if nat_lt (length bytes) (probe_length sealing) then Unfinished
    else front_by_length sealing number (length_in sealing bytes) bytes

-- eleven bytes of payload, no padding
whole-example : front_of Clear 0 (0 ∷ 0 ∷ 0 ∷ 12 ∷ 0 ∷ replicate 11 97) ≡ Whole (record { payload = replicate 11 97; padding = [] }) []
unfolding front_of
whole-example = refl

unfinished-example : front_of Clear 0 (0 ∷ 0 ∷ 0 ∷ []) ≡ Unfinished
unfolding front_of
unfinished-example = refl

empty-example : front_of Clear 0 (0 ∷ 0 ∷ 0 ∷ 0 ∷ []) ≡ Refused (PacketSize 0)
unfolding front_of
empty-example = refl

-- a padding of the packet's length leaves no payload, and a longer one doesn't fit
padding-example : front_of Clear 0 (0 ∷ 0 ∷ 0 ∷ 12 ∷ 12 ∷ replicate 11 0) ≡ Refused (PacketSize 12)
unfolding front_of
padding-example = refl

long_padding-example : front_of Clear 0 (0 ∷ 0 ∷ 0 ∷ 12 ∷ 13 ∷ replicate 11 0) ≡ Refused IndexOutOfBounds
unfolding front_of
long_padding-example = refl

long-example : front_of Clear 0 (0 ∷ 4 ∷ 0 ∷ 34 ∷ []) ≡ Refused (PacketSize 262178)
unfolding front_of
long-example = refl
