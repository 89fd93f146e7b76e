-- Nothing that keeps packets apart is used twice within an epoch: no number (RFC 4344 section 3.1), no nonce, no
-- counter block.
use Rattle.std.specs.Prelude.{◌≡◌, ◌≢◌, ℕ, zero, suc, ◌+◌, ◌/◌, ◌%◌, ◌^◌, ◌<◌, if◌then◌else◌, List, [], ◌∷◌, length, Option, Some, None}
use Rattle.ssh_aes.specs.Modes.{Ctr, Cbc, counter_block}
use Rattle.ssh_mac.specs.Tags.{is_encrypt_then_mac}
use Rattle.ssh_packet.specs.Sealing.{Item, Sealing, Clear, Block, Gcm, framed_text, encrypted_part}
use Rattle.ssh_packet.specs.Stream.{Place, place_after, is_newkeys}

-- how many packets stand in epoch k
abbrev pub packets_at : ℕ → List Item → ℕ
packets_at k [] = 0
packets_at zero (i ∷ items) = if is_newkeys i then 1 else 1 + packets_at zero items
packets_at (suc k) (i ∷ items) = if is_newkeys i then packets_at k items else packets_at (suc k) items

-- a packet and where it stands
pub record PacketAtPlace : Type 0 where
  pub at : Place
  pub item : Item

-- the packets of epoch k, with where each stands
abbrev pub packets_of_epoch : ℕ → Option Place → List Item → List PacketAtPlace
packets_of_epoch k at [] = []
packets_of_epoch k None (i ∷ items) = []
packets_of_epoch zero (Some at) (i ∷ items) =
    record { at = at; item = i } ∷ (if is_newkeys i then [] else packets_of_epoch zero (place_after at i) items)
packets_of_epoch (suc k) (Some at) (i ∷ items) =
    if is_newkeys i then packets_of_epoch k (place_after at i) items
    else packets_of_epoch (suc k) (place_after at i) items

-- counter blocks that a packet is encrypted with, as numbers from the first counter block on (SP 800-38A section 6.5)
abbrev pub UsesCounterBlock : Sealing → Item → ℕ → Type 0
UsesCounterBlock (Block (Ctr key iv place) mac) item b =
    (i : ℕ) × (i < length (encrypted_part (is_encrypt_then_mac mac) (framed_text item)))
    × (b ≡ ((place + i) % 2 ^ 64) / 16)
UsesCounterBlock (Block (Cbc key last) mac) item b = ⊥
UsesCounterBlock Clear item b = ⊥
UsesCounterBlock (Gcm key nonce) item b = ⊥

-- of two packets under Galois counter mode (RFC 5647 section 7.1)
abbrev pub DifferentNonces : Sealing → Sealing → Type 0
DifferentNonces (Gcm key nonce) (Gcm key' nonce') = nonce ≢ nonce'
DifferentNonces s s' = Unit {0}

-- the first counter block of a key in counter mode
abbrev pub first_counter_block : Sealing → List ℕ
first_counter_block (Block (Ctr key iv place) mac) = iv
first_counter_block s = []

-- different numbers, nonces and counter blocks
pub record AreApart (a b : PacketAtPlace) : Type 0 where
  pub numbers : a.at.number ≢ b.at.number
  pub nonces : DifferentNonces a.at.sealing b.at.sealing
  pub blocks : (x y : ℕ) → UsesCounterBlock a.at.sealing a.item x → UsesCounterBlock b.at.sealing b.item y
      → counter_block (first_counter_block a.at.sealing) x ≢ counter_block (first_counter_block b.at.sealing) y

-- each from each later one
abbrev pub ApartFrom : PacketAtPlace → List PacketAtPlace → Type 0
ApartFrom a [] = Unit {0}
ApartFrom a (b ∷ bs) = AreApart a b × ApartFrom a bs

-- each packet from each other
abbrev pub AllApart : List PacketAtPlace → Type 0
AllApart [] = Unit {0}
AllApart (a ∷ as') = ApartFrom a as' × AllApart as'
