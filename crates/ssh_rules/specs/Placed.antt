-- Packets with their epochs and numbers.
use Rattle.std.specs.Prelude.{◌≡◌, ℕ, suc, ◌≤◌, Bool, true, false, List, [], ◌∷◌, ◌++◌, Option, Some, None, ◌⊎◌}
use Rattle.ssh_packet.specs.Sealing.{Item}
use Rattle.ssh_packet.specs.Stream.{Place, place_by}

-- a packet by its epoch, its number and its payload
pub record PlacedPacket : Type 0 where
  pub epoch : ℕ
  pub number : ℕ
  pub payload : List ℕ

-- the epoch behind a packet
abbrev pub epoch_after : Bool → ℕ → ℕ
epoch_after true k = suc k
epoch_after false k = k

-- the packets from a place on, in epoch k, where a test says which of them end an epoch
abbrev pub placed_by : (List Item → Item → Bool) → List Item → ℕ → Option Place → List Item → List PlacedPacket
placed_by ends_by before k at [] = []
placed_by ends_by before k None (i ∷ items) = []
placed_by ends_by before k (Some at) (i ∷ items) =
    record { epoch = k; number = at.number; payload = i.payload }
    ∷ placed_by ends_by (before ++ i ∷ []) (epoch_after (ends_by before i) k)
    (place_by (ends_by before i) at i) items

-- it stands among them
abbrev pub IsAmong : List PlacedPacket → PlacedPacket → Type 0
IsAmong [] p = ⊥
IsAmong (q ∷ qs) p = (p ≡ q) ⊎ IsAmong qs p

-- each packet of epoch 1 or later that was opened is one that the other wrote, in epoch, number and payload
abbrev pub AreWritten : (opened written : List PlacedPacket) → Type 0
AreWritten opened written = (p : PlacedPacket) → IsAmong opened p → 1 ≤ p.epoch → IsAmong written p
