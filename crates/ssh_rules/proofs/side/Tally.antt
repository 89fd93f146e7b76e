-- The KEXINITs on both wires and the bytes since the last end of an epoch, beside a side's state.
use Rattle.std.proofs.Common.{◌≡◌, ℕ, zero, suc, ◌+◌, List, [], ◌∷◌, ◌++◌, length, refl, sym, ◌∙◌, ap, arith, Bool, true, false, if◌then◌else◌, ◌==◌, ◌⊎◌, inl, inr}
use Rattle.std.proofs.lemmas.List.Sums.{fold_push, sum_by_push}
use Rattle.ssh_packet.specs.Sealing.{Item}
use Rattle.ssh_packet.specs.Stream.{is_newkeys}
use Rattle.ssh_rules.specs.MessageTypes.{type_of}
use Rattle.ssh_rules.specs.Wire.{epochs_ended}
use Rattle.ssh_rules.specs.Marks.{epoch, behind_ends, payload_bytes, kexinits}
use Rattle.ssh_rules.proofs.side.Blocks.{ends_true, ends_false, ends_snoc_newkeys, ends_snoc_plain}

-- ---- lists of packets that grow

pub kexinits_one : (w : List Item) (i : Item) → (type_of i == 20) ≡ true → kexinits (w ++ i ∷ []) ≡ kexinits w + 1
kexinits_one w i e = fold_push _ 0 w i ∙ ap (λ b. kexinits w + (if b then 1 else 0)) e

pub kexinits_none : (w : List Item) (i : Item) → (type_of i == 20) ≡ false → kexinits (w ++ i ∷ []) ≡ kexinits w
kexinits_none w i e = fold_push _ 0 w i ∙ (ap (λ b. kexinits w + (if b then 1 else 0)) e ∙ (let z : kexinits w + 0 ≡ kexinits w = omega arith in z))

choice : (b : Bool) → (b ≡ true) ⊎ (b ≡ false)
choice true = inl refl
choice false = inr refl

-- behind all ends of packets that go on
behind_end : (n : ℕ) (w : List Item) (i : Item) → n ≡ epochs_ended w → is_newkeys i ≡ true → behind_ends (suc n) (w ++ i ∷ []) ≡ []
behind_end n [] i e h = ap (λ b. if b then behind_ends n [] else behind_ends (suc n) []) h ∙ nothing n where
  nothing : (n : ℕ) → behind_ends n [] ≡ []
  nothing zero = refl
  nothing (suc n) = refl
behind_end zero (j ∷ w) i e h = elim (choice (is_newkeys j)) [
  | inl t ↦ absurd (omega (arith, e, ends_true j w t))
  | inr f ↦ ap (λ b. if b then behind_ends zero (w ++ i ∷ []) else behind_ends (suc zero) (w ++ i ∷ [])) f ∙ behind_end zero w i (e ∙ ends_false j w f) h
]
behind_end (suc n) (j ∷ w) i e h = elim (choice (is_newkeys j)) [
  | inl t ↦ ap (λ b. if b then behind_ends (suc n) (w ++ i ∷ []) else behind_ends (suc (suc n)) (w ++ i ∷ [])) t ∙ behind_end n w i (omega (arith, e, ends_true j w t)) h
  | inr f ↦ ap (λ b. if b then behind_ends (suc n) (w ++ i ∷ []) else behind_ends (suc (suc n)) (w ++ i ∷ [])) f ∙ behind_end (suc n) w i (e ∙ ends_false j w f) h
]

behind_more : (n : ℕ) (w : List Item) (i : Item) → n ≡ epochs_ended w → behind_ends n (w ++ i ∷ []) ≡ behind_ends n w ++ i ∷ []
behind_more zero w i e = refl
behind_more (suc n) [] i e = absurd (omega (arith, e))
behind_more (suc n) (j ∷ w) i e = elim (choice (is_newkeys j)) [
  | inl t ↦ ap (λ b. if b then behind_ends n (w ++ i ∷ []) else behind_ends (suc n) (w ++ i ∷ [])) t ∙ (behind_more n w i (omega (arith, e, ends_true j w t)) ∙ ap (λ b. (if b then behind_ends n w else behind_ends (suc n) w) ++ i ∷ []) (sym t))
  | inr f ↦ ap (λ b. if b then behind_ends n (w ++ i ∷ []) else behind_ends (suc n) (w ++ i ∷ [])) f ∙ (behind_more (suc n) w i (e ∙ ends_false j w f) ∙ ap (λ b. (if b then behind_ends n w else behind_ends (suc n) w) ++ i ∷ []) (sym f))
]

pub epoch_ended : (w : List Item) (i : Item) → is_newkeys i ≡ true → epoch (w ++ i ∷ []) ≡ []
epoch_ended w i h = ap (λ n. behind_ends n (w ++ i ∷ [])) (let s : epochs_ended (w ++ i ∷ []) ≡ suc (epochs_ended w) = omega (arith, ends_snoc_newkeys w i h) in s) ∙ behind_end (epochs_ended w) w i refl h

pub epoch_grown : (w : List Item) (i : Item) → is_newkeys i ≡ false → epoch (w ++ i ∷ []) ≡ epoch w ++ i ∷ []
epoch_grown w i h = ap (λ n. behind_ends n (w ++ i ∷ [])) (ends_snoc_plain w i h) ∙ behind_more (epochs_ended w) w i refl

pub bytes_grown : (w : List Item) (i : Item) → is_newkeys i ≡ false → payload_bytes (epoch (w ++ i ∷ [])) ≡ payload_bytes (epoch w) + length i.payload
bytes_grown w i h = ap payload_bytes (epoch_grown w i h) ∙ sum_by_push (λ (j : Item). length j.payload) (epoch w) i

pub bytes_ended : (w : List Item) (i : Item) → is_newkeys i ≡ true → payload_bytes (epoch (w ++ i ∷ [])) ≡ 0
bytes_ended w i h = ap payload_bytes (epoch_ended w i h)
