-- The payload bytes of each epoch, in a list of packets that grows.
use Rattle.std.proofs.Common.{◌≡◌, ℕ, zero, suc, ◌+◌, ◌≤◌, List, [], ◌∷◌, ◌++◌, length, refl, sym, ◌∙◌, ap, subst, arith, Bool, true, false, if◌then◌else◌, ◌⊎◌, inl, inr}
use Rattle.ssh_packet.specs.Sealing.{Item}
use Rattle.ssh_packet.specs.Stream.{is_newkeys}
use Rattle.ssh_rules.specs.MessageTypes.{type_of, is_payload_type, is_kex_type}
use Rattle.ssh_rules.specs.Wire.{exchange_block, epochs_ended}
use Rattle.ssh_rules.specs.Run.{epoch_bytes}
use Rattle.ssh_rules.proofs.side.Blocks.{ends_true, ends_false}

choice : (b : Bool) → (b ≡ true) ⊎ (b ≡ false)
choice true = inl refl
choice false = inr refl

-- the bytes of one packet, as an epoch counts them
abbrev pub bytes_in : Item → ℕ
bytes_in i = if is_payload_type (type_of i) then length i.payload else 0

one_way : {A : Type 0} (b : Bool) (x y z : A) → (b ≡ true → x ≡ z) → (b ≡ false → y ≡ z) → (if b then x else y) ≡ z
one_way true x y z f g = f refl
one_way false x y z f g = g refl

-- behind one more packet there is nothing of the next epoch but one
pub epoch_next : (w : List Item) (i : Item) → epoch_bytes (suc (epochs_ended w)) (w ++ i ∷ []) ≡ 0
epoch_next [] i = one_way (is_newkeys i) _ _ _ (λ e. refl) (λ e. refl)
epoch_next (j ∷ w) i = elim (choice (is_newkeys j)) [
  | inl t ↦ subst (λ n. epoch_bytes (suc n) ((j ∷ w) ++ i ∷ []) ≡ 0) (sym (ends_true j w t))
      (let s : 1 + epochs_ended w ≡ suc (epochs_ended w) = omega arith in subst (λ n. epoch_bytes (suc n) ((j ∷ w) ++ i ∷ []) ≡ 0) (sym s) (ap (λ b. if b then epoch_bytes (suc (epochs_ended w)) (w ++ i ∷ []) else epoch_bytes (suc (suc (epochs_ended w))) (w ++ i ∷ [])) t ∙ epoch_next w i))
  | inr f ↦ subst (λ n. epoch_bytes (suc n) ((j ∷ w) ++ i ∷ []) ≡ 0) (sym (ends_false j w f))
      (ap (λ b. if b then epoch_bytes (epochs_ended w) (w ++ i ∷ []) else epoch_bytes (suc (epochs_ended w)) (w ++ i ∷ [])) f ∙ epoch_next w i)
]

pub epoch_at : (w : List Item) (i : Item) → is_newkeys i ≡ false → epoch_bytes (epochs_ended w) (w ++ i ∷ []) ≡ epoch_bytes (epochs_ended w) w + bytes_in i
epoch_at [] i n = ap (λ b. if b then 0 else bytes_in i + 0) n ∙ (let z : bytes_in i + 0 ≡ 0 + bytes_in i = omega arith in z)
epoch_at (j ∷ w) i n = elim (choice (is_newkeys j)) [
  | inl t ↦ subst (λ n. epoch_bytes n ((j ∷ w) ++ i ∷ []) ≡ epoch_bytes n (j ∷ w) + bytes_in i) (sym (ends_true j w t))
      (let s : 1 + epochs_ended w ≡ suc (epochs_ended w) = omega arith in subst (λ n. epoch_bytes n ((j ∷ w) ++ i ∷ []) ≡ epoch_bytes n (j ∷ w) + bytes_in i) (sym s)
      (ap (λ b. if b then epoch_bytes (epochs_ended w) (w ++ i ∷ []) else epoch_bytes (suc (epochs_ended w)) (w ++ i ∷ [])) t ∙ (epoch_at w i n ∙ ap (λ b. (if b then epoch_bytes (epochs_ended w) w else epoch_bytes (suc (epochs_ended w)) w) + bytes_in i) (sym t))))
  | inr f ↦ subst (λ n. epoch_bytes n ((j ∷ w) ++ i ∷ []) ≡ epoch_bytes n (j ∷ w) + bytes_in i) (sym (ends_false j w f)) (open_at (epochs_ended w) f (epoch_at w i n))
]
  where
    open_at : (k : ℕ) → is_newkeys j ≡ false → epoch_bytes k (w ++ i ∷ []) ≡ epoch_bytes k w + bytes_in i → epoch_bytes k ((j ∷ w) ++ i ∷ []) ≡ epoch_bytes k (j ∷ w) + bytes_in i
    open_at zero f h = ap (λ b. if b then 0 else bytes_in j + epoch_bytes zero (w ++ i ∷ [])) f ∙ ((let z : bytes_in j + epoch_bytes zero (w ++ i ∷ []) ≡ (bytes_in j + epoch_bytes zero w) + bytes_in i = omega (arith, h) in z) ∙ ap (λ b. (if b then 0 else bytes_in j + epoch_bytes zero w) + bytes_in i) (sym f))
    open_at (suc k) f h = ap (λ b. if b then epoch_bytes k (w ++ i ∷ []) else epoch_bytes (suc k) (w ++ i ∷ [])) f ∙ (h ∙ ap (λ b. (if b then epoch_bytes k w else epoch_bytes (suc k) w) + bytes_in i) (sym f))

if_le : (b : Bool) (x y z w : ℕ) → (b ≡ true → x ≤ z) → (b ≡ false → y ≤ w) → (if b then x else y) ≤ (if b then z else w)
if_le true x y z w f g = f refl
if_le false x y z w f g = g refl

-- more packets take nothing from an epoch
pub epoch_more : (k : ℕ) (w v : List Item) → epoch_bytes k w ≤ epoch_bytes k (w ++ v)
epoch_more k [] v = omega arith
epoch_more zero (j ∷ w) v = let r = epoch_more zero w v in if_le (is_newkeys j) _ _ _ _ (λ e. omega arith) (λ e. omega (arith, r))
epoch_more (suc k) (j ∷ w) v = if_le (is_newkeys j) _ _ _ _ (λ e. epoch_more k w v) (λ e. epoch_more (suc k) w v)

-- nor from a block
pub block_more : (k : ℕ) (w v : List Item) → length (exchange_block k w) ≤ length (exchange_block k (w ++ v))
block_more k [] v = omega arith
block_more zero (j ∷ w) v = let r = block_more zero w v in cases (is_newkeys j) (is_kex_type (type_of j)) r where
  cases : (b c : Bool) → length (exchange_block zero w) ≤ length (exchange_block zero (w ++ v)) → length (if b then j.payload ∷ [] else if c then j.payload ∷ exchange_block zero w else exchange_block zero w) ≤ length (if b then j.payload ∷ [] else if c then j.payload ∷ exchange_block zero (w ++ v) else exchange_block zero (w ++ v))
  cases true c r = omega arith
  cases false true r = omega (arith, r)
  cases false false r = r
block_more (suc k) (j ∷ w) v = cases (is_newkeys j) (block_more k w v) (block_more (suc k) w v) where
  cases : (b : Bool) → length (exchange_block k w) ≤ length (exchange_block k (w ++ v)) → length (exchange_block (suc k) w) ≤ length (exchange_block (suc k) (w ++ v)) → length (if b then exchange_block k w else exchange_block (suc k) w) ≤ length (if b then exchange_block k (w ++ v) else exchange_block (suc k) (w ++ v))
  cases true r q = r
  cases false r q = q
