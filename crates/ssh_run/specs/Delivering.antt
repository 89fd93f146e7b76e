-- Packets that a reader finds and delivers.
use Rattle.std.specs.Prelude.{◌≡◌, ℕ, ◌<◌, true, false, List, [], ◌∷◌, ◌++◌, length, map, ◌⊎◌}
use Rattle.ssh_packet.specs.Sealing.{Item, Clear, next_number}
use Rattle.ssh_packet.specs.Front.{Front, Whole, Unfinished, Fault, Refused, front_of}
use Rattle.ssh_packet.specs.Reading.{Reader}

-- the reader finds these packets at the front of the bytes, one after the other, and then it finds `end` before the
-- rest
abbrev pub FindsPackets : ℕ → List ℕ → List Item → List ℕ → Front → Type 0
FindsPackets number bytes [] rest end = (bytes ≡ rest) × (front_of Clear number bytes ≡ end)
FindsPackets number bytes (item ∷ items) rest end = (more : List ℕ) × (front_of Clear number bytes ≡ Whole item more)
    × FindsPackets (next_number number) more items rest end

abbrev pub payloads_of : List Item → List (List ℕ)
payloads_of items = map (λ item. item.payload) items

-- the next packet was delivered
pub record DeliversOne (old new : Reader) (delivered delivered' : List (List ℕ)) (item : Item) : Type 0 where
  pub front : front_of Clear old.number old.waiting ≡ Whole item new.waiting
  pub number : new.number ≡ next_number old.number
  pub live : old.failed ≡ false
  pub stays_live : new.failed ≡ false
  pub shorter : length new.waiting < length old.waiting
  pub delivers : delivered' ≡ delivered ++ item.payload ∷ []

-- no packet stands whole
pub record DeliversNone (old new : Reader) (delivered delivered' : List (List ℕ)) : Type 0 where
  pub front : front_of Clear old.number old.waiting ≡ Unfinished
  pub live : old.failed ≡ false
  pub same : new ≡ record old { handed = [] }
  pub delivers : delivered' ≡ delivered

-- the reader has failed, or refuses what stands at the front
abbrev pub RefusesFront : Reader → Type 0
RefusesFront old = (old.failed ≡ true) ⊎ ((fault : Fault) × (front_of Clear old.number old.waiting ≡ Refused fault))
