-- Two states of one direction's keys.
use Rattle.std.specs.Prelude.{◌≡◌, ◌==◌, ◌+◌, ℕ, Bool, true, List, length, drop}
use Rattle.std.specs.List.{list_all}
use Rattle.ssh_packet.specs.Sealing.{Sealing, Clear, Block, Gcm, padding_length, tag_size}

-- packets are padded and tagged alike under both
abbrev pub AreAlike : Sealing → Sealing → Type 0
AreAlike Clear Clear = Unit {0}
AreAlike (Block running mac) (Block other code) = mac ≡ code
AreAlike (Gcm key nonce) (Gcm other more) = Unit {0}
AreAlike Clear (Block running mac) = ⊥
AreAlike Clear (Gcm key nonce) = ⊥
AreAlike (Block running mac) Clear = ⊥
AreAlike (Block running mac) (Gcm key nonce) = ⊥
AreAlike (Gcm key nonce) Clear = ⊥
AreAlike (Gcm key nonce) (Block running mac) = ⊥

-- a packet is as long as one that is padded so
abbrev pub HasSize : Sealing → List ℕ → List ℕ → Type 0
HasSize s packet payload = length packet ≡ length payload + (5 + padding_length s (length payload) + tag_size s)

abbrev pub is_zero : ℕ → Bool
is_zero b = b == 0

-- what stands behind a place of a packet in clear is zeros; of a packet that was sealed nothing is asked
abbrev pub HasZeros : Sealing → ℕ → List ℕ → Type 0
HasZeros Clear place packet = list_all is_zero (drop place packet) ≡ true
HasZeros (Block running mac) place packet = Unit {0}
HasZeros (Gcm key nonce) place packet = Unit {0}
