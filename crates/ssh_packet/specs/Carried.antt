-- What two ends of an honest carrier have in common.
use Rattle.std.specs.Prelude.{◌≡◌, ℕ, zero, suc, List, [], ◌∷◌, Bool, true, false, Option, Some, None}
use Rattle.ssh_packet.specs.Sealing.{Item}
use Rattle.ssh_packet.specs.Stream.{Opening, Place, is_newkeys}

-- the first k openings are the same, as far as both are there
abbrev pub AgreeFor : ℕ → List Opening → List Opening → Type 0
AgreeFor zero r w = Unit {0}
AgreeFor (suc k) [] w = Unit {0}
AgreeFor (suc k) (a ∷ r) [] = Unit {0}
AgreeFor (suc k) (a ∷ r) (b ∷ w) = (a ≡ b) × AgreeFor k r w

pub record SamePlace (k : ℕ) (p q : Place) : Type 0 where
  pub sealing : p.sealing ≡ q.sealing
  pub number : p.number ≡ q.number
  pub openings : AgreeFor k p.openings q.openings

abbrev pub PlacesAgree : Option ℕ → Option Place → Option Place → Type 0
PlacesAgree None p q = Unit {0}
PlacesAgree (Some k) None q = Unit {0}
PlacesAgree (Some k) (Some p) None = Unit {0}
PlacesAgree (Some k) (Some p) (Some q) = SamePlace k p q

-- how many ends of epochs are still looked behind
abbrev pub ends_left : Bool → ℕ → Option ℕ
ends_left false k = Some k
ends_left true zero = None
ends_left true (suc k) = Some k

-- the first packets are the same, through k + 1 ends of epochs
abbrev pub SameFor : Option ℕ → List Item → List Item → Type 0
SameFor None a b = Unit {0}
SameFor (Some k) [] b = Unit {0}
SameFor (Some k) (i ∷ a) [] = ⊥
SameFor (Some k) (i ∷ a) (j ∷ b) = (i ≡ j) × SameFor (ends_left (is_newkeys i) k) a b
