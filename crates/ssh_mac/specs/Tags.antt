-- The tag of a packet: HMAC over its number and its text (RFC 4253 section 6.4).
use Rattle.std.specs.Prelude.{ℕ, Bool, true, false, List, [], ◌++◌}
use Rattle.std.specs.Int.{w32, to_be_bytes}
use Rattle.std.specs.Str.{bytes_eq}
use Rattle.ssh_mac.specs.declared.digest.DigestKind.{DigestKind}
use Rattle.ssh_mac.specs.Digests.{digest_length}
use Rattle.ssh_mac.specs.Hmac.{hmac}

-- a hash function, and the key that HMAC takes
pub record Keyed : Type 0 where
  pub digest : DigestKind
  pub key : List ℕ

-- What packets are authenticated under: nothing, HMAC over the packet in clear, or HMAC over the encrypted packet.
pub data MacOf : Type 0 where
  NoMac : MacOf
  Plain : (digest : DigestKind) (key : List ℕ) → MacOf
  Etm : (digest : DigestKind) (key : List ℕ) → MacOf

-- the tag of a packet number, as a uint32, and a text
abbrev pub tag_of : MacOf → ℕ → List ℕ → List ℕ
tag_of NoMac number text = []
tag_of (Plain digest key) number text = hmac digest key (to_be_bytes w32 number ++ text)
tag_of (Etm digest key) number text = hmac digest key (to_be_bytes w32 number ++ text)

-- the length of a tag in bytes
abbrev pub tag_length : MacOf → ℕ
tag_length NoMac = 0
tag_length (Plain digest key) = digest_length digest
tag_length (Etm digest key) = digest_length digest

-- whether the tag is over the encrypted packet
abbrev pub is_encrypt_then_mac : MacOf → Bool
is_encrypt_then_mac NoMac = false
is_encrypt_then_mac (Plain digest key) = false
is_encrypt_then_mac (Etm digest key) = true

-- whether a tag is taken for that of a packet number and a text: the whole tag, or anything where there is no MAC
abbrev pub takes_tag : MacOf → ℕ → List ℕ → List ℕ → Bool
takes_tag NoMac number text tag = true
takes_tag (Plain digest key) number text tag = bytes_eq (tag_of (Plain digest key) number text) tag
takes_tag (Etm digest key) number text tag = bytes_eq (tag_of (Etm digest key) number text) tag
