-- One binary packet: what a direction is sealed under, the bytes of a packet, and what comes after it
-- (RFC 4253 section 6).
use Rattle.std.specs.Prelude.{◌≡◌, ℕ, ◌+◌, ◌-◌, ◌%◌, ◌^◌, ◌<◌, ◌≤◌, Bool, true, false, nat_lt, if◌then◌else◌, List, [], ◌∷◌, ◌++◌, length, take, drop, replicate, refl}
use Rattle.std.specs.Int.{w128, from_be_bytes, to_be_bytes}
use Rattle.rand_core.specs.Stream.{Stream, fill_bytes}
use Rattle.ssh_aes.specs.Gcm.{gcm_text, gcm_tag}
use Rattle.ssh_aes.specs.Modes.{Running, masked_text, running_after, shortest_text}
use Rattle.ssh_mac.specs.Tags.{MacOf, tag_of, tag_length, is_encrypt_then_mac}
use Rattle.ssh_wire.specs.Forms.{AreBytes, u32be}

-- a payload, and the padding behind it
pub record Item : Type 0 where
  pub payload : List ℕ
  pub padding : List ℕ

-- What a direction is sealed under: nothing, a block cipher with a MAC, or Galois counter mode.
pub data Sealing : Type 0 where
  Clear : Sealing
  Block : (running : Running) (mac : MacOf) → Sealing
  Gcm : (key nonce : List ℕ) → Sealing

-- ---- the bytes of a packet

-- the packet length: the padding length's byte, payload and padding
abbrev pub packet_length : Item → ℕ
packet_length item = 1 + length item.payload + length item.padding

-- packet length, padding length, payload, padding
unfoldable pub framed_text : Item → List ℕ
framed_text item = u32be (packet_length item) ++ length item.padding ∷ (item.payload ++ item.padding)

-- a text encrypted, its tag behind it: a tag over what was encrypted, the packet length before it in clear
-- (encrypt-then-MAC), or over the text (RFC 4253 section 6.4)
abbrev pub text_with_tag : Bool → (List ℕ → List ℕ) → (List ℕ → List ℕ) → List ℕ → List ℕ
text_with_tag true mask tag text = take 4 text ++ (mask (drop 4 text) ++ tag (take 4 text ++ mask (drop 4 text)))
text_with_tag false mask tag text = mask text ++ tag text

-- a framed text as it is sealed, with its tag. In Galois counter mode the packet length is the additional
-- text (RFC 5647 section 7.3).
abbrev pub sealed_text : Sealing → ℕ → List ℕ → List ℕ
sealed_text Clear number text = text
sealed_text (Block running mac) number text = text_with_tag (is_encrypt_then_mac mac) (masked_text running) (tag_of mac number) text
sealed_text (Gcm key nonce) number text =
    take 4 text ++ (gcm_text key nonce (take 4 text) (drop 4 text) ++ gcm_tag key nonce (take 4 text) (drop 4 text))

-- the bytes of a packet
abbrev pub sealed_packet : Sealing → ℕ → Item → List ℕ
sealed_packet sealing number item = sealed_text sealing number (framed_text item)

-- ---- what comes after it

-- what of a text is encrypted
abbrev pub encrypted_part : Bool → List ℕ → List ℕ
encrypted_part true text = drop 4 text
encrypted_part false text = text

-- the next nonce: one more, as a number of 12 bytes, the highest first
unfoldable pub next_nonce : List ℕ → List ℕ
next_nonce nonce = drop 4 (to_be_bytes w128 ((from_be_bytes w128 (replicate 4 0 ++ nonce) + 1) % 2 ^ 96))

-- what the direction is sealed under after a framed text: block ciphers run on over all packets (RFC 4253
-- section 6.3)
abbrev pub moved_past : Sealing → List ℕ → Sealing
moved_past Clear text = Clear
moved_past (Block running mac) text = Block (running_after running (encrypted_part (is_encrypt_then_mac mac) text)) mac
moved_past (Gcm key nonce) text = Gcm key (next_nonce nonce)

-- what it is sealed under after a packet
abbrev pub moved_on : Sealing → Item → Sealing
moved_on sealing item = moved_past sealing (framed_text item)

-- the number of the next packet (RFC 4253 section 6.4)
abbrev pub next_number : ℕ → ℕ
next_number number = (number + 1) % 2 ^ 32

-- ---- sizes, in bytes

abbrev pub tag_size : Sealing → ℕ
tag_size Clear = 0
tag_size (Block running mac) = tag_length mac
tag_size (Gcm key nonce) = 16

-- how many bytes a reader asks for before it looks at the packet length
abbrev pub probe_length : Sealing → ℕ
probe_length Clear = 4
probe_length (Block running mac) = 16
probe_length (Gcm key nonce) = 4

-- how many bytes of an encrypted packet, without its tag, show the packet length
abbrev pub shortest_encrypted : Bool → Running → ℕ
shortest_encrypted true running = 4
shortest_encrypted false running = shortest_text running

abbrev pub shortest_packet : Sealing → ℕ
shortest_packet Clear = 4
shortest_packet (Block running mac) = shortest_encrypted (is_encrypt_then_mac mac) running
shortest_packet (Gcm key nonce) = 4

-- what stands before a payload: the packet length, and the padding length's byte
abbrev pub head_length : ℕ
head_length = 5

-- the longest padding that is written
abbrev pub longest_padding : ℕ
longest_padding = 19

-- the longest tag
abbrev pub longest_tag : ℕ
longest_tag = 64

-- what a packet has at most beside its payload and its tag, rounded up
abbrev pub room_beside : ℕ
room_beside = 37

-- the longest packet length that is read, and the longest payload that is sent
abbrev pub longest_packet : ℕ
longest_packet = 262177

abbrev pub longest_payload : ℕ
longest_payload = 262157

-- what may stand in a stream: a payload, and a length within the limits
pub record IsAdmissible (sealing : Sealing) (item : Item) : Type 0 where
  pub payload : 0 < length item.payload
  pub padding : length item.padding < 256
  pub short : packet_length item ≤ longest_packet
  pub probed : probe_length sealing ≤ packet_length item + 4 + tag_size sealing
  pub shown : shortest_packet sealing ≤ packet_length item + 4
  pub payload_bytes : AreBytes item.payload
  pub padding_bytes : AreBytes item.padding

-- ---- padding

-- padding is at least four bytes
abbrev pub at_least_four : ℕ → ℕ → ℕ
at_least_four unit size = if nat_lt size 4 then size + unit else size

-- so much that what is encrypted is a multiple of 16 bytes
abbrev pub block_padding : Bool → ℕ → ℕ
block_padding true n = at_least_four 16 (16 - (1 + n) % 16)
block_padding false n = at_least_four 16 (16 - (head_length + n) % 16)

-- so much that the packet of a payload of n bytes is a multiple of 8 bytes, and what is encrypted of 16
abbrev pub padding_length : Sealing → ℕ → ℕ
padding_length Clear n = at_least_four 8 (8 - (head_length + n) % 8)
padding_length (Block running mac) n = block_padding (is_encrypt_then_mac mac) n
padding_length (Gcm key nonce) n = block_padding true n

-- n bytes of padding, and what is left of the stream that they are drawn from: a packet in clear is padded
-- with zeros and draws nothing
abbrev pub padding_drawn : Sealing → ℕ → Stream → List ℕ × Stream
padding_drawn Clear n stream = (replicate n 0, stream)
padding_drawn (Block running mac) n stream = fill_bytes n stream
padding_drawn (Gcm key nonce) n stream = fill_bytes n stream

-- the padding of a payload of n bytes, and what is left of the stream
abbrev pub padding_of_payload : Sealing → ℕ → Stream → List ℕ × Stream
padding_of_payload sealing n stream = padding_drawn sealing (padding_length sealing n) stream

-- a payload with so many bytes of padding
abbrev pub item_padded_by : Sealing → ℕ → List ℕ → Stream → Item
item_padded_by sealing padding payload stream = record { payload = payload; padding = (padding_drawn sealing padding stream).0 }

-- the packet of a payload
abbrev pub item_of : Sealing → List ℕ → Stream → Item
item_of sealing payload stream = record { payload = payload; padding = (padding_of_payload sealing (length payload) stream).0 }

-- A packet is padded as a writer pads it: with zeros in clear, else with drawn bytes, as many as the payload's length
-- asks for.
abbrev pub IsPadded : Sealing → Item → Type 0
IsPadded Clear item = item.padding ≡ replicate (padding_length Clear (length item.payload)) 0
IsPadded (Block running mac) item = length item.padding ≡ padding_length (Block running mac) (length item.payload)
IsPadded (Gcm key nonce) item = length item.padding ≡ padding_length (Gcm key nonce) (length item.payload)

-- what is left of the stream behind a payload: one of no bytes sends nothing
abbrev pub stream_after : Sealing → List ℕ → Stream → Stream
stream_after sealing [] stream = stream
stream_after sealing (b ∷ rest) stream = (padding_of_payload sealing (1 + length rest) stream).1

-- ---- examples

-- three bytes of payload, eight of padding
framed-example : framed_text (record { payload = 97 ∷ 98 ∷ 99 ∷ []; padding = replicate 8 0 }) ≡ 0 ∷ 0 ∷ 0 ∷ 12 ∷ 8 ∷ 97 ∷ 98 ∷ 99 ∷ 0 ∷ 0 ∷ 0 ∷ 0 ∷ 0 ∷ 0 ∷ 0 ∷ 0 ∷ []
unfolding framed_text
framed-example = refl

padding-example : padding_length Clear 3 ≡ 8
padding-example = refl

-- one byte less than four is a unit more
short-example : padding_length Clear 8 ≡ 11
short-example = refl

block_padding-example : (block_padding true 3 ≡ 12) × (block_padding false 3 ≡ 8)
block_padding-example = (refl, refl)

-- the nonce carries over all its bytes
nonce-example : next_nonce (0 ∷ 0 ∷ 0 ∷ 0 ∷ replicate 8 255) ≡ 0 ∷ 0 ∷ 0 ∷ 1 ∷ replicate 8 0
unfolding next_nonce
nonce-example = refl

last_nonce-example : next_nonce (replicate 12 255) ≡ replicate 12 0
unfolding next_nonce
last_nonce-example = refl
