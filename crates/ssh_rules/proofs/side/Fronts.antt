-- Blocks of a front.
use Rattle.std.proofs.Common.{◌≡◌, ℕ, zero, suc, ◌+◌, ◌<◌, ◌≤◌, List, [], ◌∷◌, ◌++◌, refl, ap, arith, Bool, true, false, if◌then◌else◌}
use Rattle.ssh_packet.specs.Sealing.{Item}
use Rattle.ssh_packet.specs.Stream.{is_newkeys}
use Rattle.ssh_rules.specs.MessageTypes.{type_of, is_kex_type}
use Rattle.ssh_rules.specs.Wire.{HasFront, exchange_block, epochs_ended}
use Rattle.ssh_rules.proofs.side.Blocks.{both, ends_true, ends_false}

-- a block that has ended stays
pub block_front : (k : ℕ) (a more : List Item) → k < epochs_ended a → exchange_block k (a ++ more) ≡ exchange_block k a
block_front k [] more h = absurd (omega (arith, h))
block_front zero (i ∷ a) more h = step (is_newkeys i) (is_kex_type (type_of i)) (λ e. block_front zero a more (omega (arith, h, ends_false i a e))) where
  step : (b c : Bool) → (b ≡ false → exchange_block zero (a ++ more) ≡ exchange_block zero a) → (if b then i.payload ∷ [] else if c then i.payload ∷ exchange_block zero (a ++ more) else exchange_block zero (a ++ more)) ≡ (if b then i.payload ∷ [] else if c then i.payload ∷ exchange_block zero a else exchange_block zero a)
  step true c r = refl
  step false true r = ap (λ t. i.payload ∷ t) (r refl)
  step false false r = r refl
block_front (suc k) (i ∷ a) more h = both (is_newkeys i) _ _ _ _ (λ e. block_front k a more (omega (arith, h, ends_true i a e))) (λ e. block_front (suc k) a more (omega (arith, h, ends_false i a e)))

-- any other grows
pub block_grows : (k : ℕ) (a more : List Item) → HasFront (exchange_block k (a ++ more)) (exchange_block k a)
block_grows k [] more = (exchange_block k more, refl)
block_grows zero (i ∷ a) more = step (is_newkeys i) (is_kex_type (type_of i)) (block_grows zero a more) where
  step : (b c : Bool) → HasFront (exchange_block zero (a ++ more)) (exchange_block zero a) → HasFront (if b then i.payload ∷ [] else if c then i.payload ∷ exchange_block zero (a ++ more) else exchange_block zero (a ++ more)) (if b then i.payload ∷ [] else if c then i.payload ∷ exchange_block zero a else exchange_block zero a)
  step true c r = ([], refl)
  step false true r = (r.0, ap (λ t. i.payload ∷ t) r.1)
  step false false r = r
block_grows (suc k) (i ∷ a) more = step (is_newkeys i) (block_grows k a more) (block_grows (suc k) a more) where
  step : (b : Bool) → HasFront (exchange_block k (a ++ more)) (exchange_block k a) → HasFront (exchange_block (suc k) (a ++ more)) (exchange_block (suc k) a) → HasFront (if b then exchange_block k (a ++ more) else exchange_block (suc k) (a ++ more)) (if b then exchange_block k a else exchange_block (suc k) a)
  step true r s = r
  step false r s = s

pub ends_front : (a more : List Item) → epochs_ended a ≤ epochs_ended (a ++ more)
ends_front [] more = omega arith
ends_front (i ∷ a) more = step (is_newkeys i) (ends_front a more) where
  step : (b : Bool) → epochs_ended a ≤ epochs_ended (a ++ more) → (if b then 1 + epochs_ended a else epochs_ended a) ≤ (if b then 1 + epochs_ended (a ++ more) else epochs_ended (a ++ more))
  step true h = omega (arith, h)
  step false h = h
