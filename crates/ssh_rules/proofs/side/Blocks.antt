-- The messages of each exchange, in a list of packets that grows.
use Rattle.std.proofs.Common.{◌≡◌, ℕ, zero, suc, ◌+◌, ◌<◌, List, [], ◌∷◌, ◌++◌, refl, sym, ◌∙◌, ap, subst, arith, Bool, true, false, if◌then◌else◌, ◌==◌, ◌⊎◌, inl, inr, zero-add}
use Rattle.std.proofs.lemmas.Bool.Decides.{nat_tests}
use Rattle.ssh_packet.specs.Sealing.{Item}
use Rattle.ssh_packet.specs.Stream.{is_newkeys}
use Rattle.ssh_rules.specs.MessageTypes.{type_of, is_kex_type}
use Rattle.ssh_rules.specs.Wire.{exchange_block, epochs_ended}

-- one message more where `if` puts it
pub both : {A : Type 0} (b : Bool) (x y z w : A) → (b ≡ true → x ≡ z) → (b ≡ false → y ≡ w) → (if b then x else y) ≡ (if b then z else w)
both true x y z w f g = f refl
both false x y z w f g = g refl

pub block_below : (k : ℕ) (w : List Item) (i : Item) → k < epochs_ended w → exchange_block k (w ++ i ∷ []) ≡ exchange_block k w
block_below k [] i h = absurd (omega arith)
block_below zero (j ∷ w) i h = both (is_newkeys j) _ _ _ _ (λ e. refl) (λ e. let up : epochs_ended (j ∷ w) ≡ epochs_ended w = ap (λ b. if b then 1 + epochs_ended w else epochs_ended w) e in let r : exchange_block zero (w ++ i ∷ []) ≡ exchange_block zero w = block_below zero w i (omega (arith, up)) in ap (λ xs. if is_kex_type (type_of j) then j.payload ∷ xs else xs) r)
block_below (suc k) (j ∷ w) i h = both (is_newkeys j) _ _ _ _
    (λ e. let up : epochs_ended (j ∷ w) ≡ 1 + epochs_ended w = ap (λ b. if b then 1 + epochs_ended w else epochs_ended w) e in block_below k w i (omega (arith, up)))
    (λ e. let up : epochs_ended (j ∷ w) ≡ epochs_ended w = ap (λ b. if b then 1 + epochs_ended w else epochs_ended w) e in block_below (suc k) w i (omega (arith, up)))

pub ends_true : (j : Item) (w : List Item) → is_newkeys j ≡ true → epochs_ended (j ∷ w) ≡ 1 + epochs_ended w
ends_true j w e = ap (λ b. if b then 1 + epochs_ended w else epochs_ended w) e

pub ends_false : (j : Item) (w : List Item) → is_newkeys j ≡ false → epochs_ended (j ∷ w) ≡ epochs_ended w
ends_false j w e = ap (λ b. if b then 1 + epochs_ended w else epochs_ended w) e

single_block : (i : Item) → is_kex_type (type_of i) ≡ true → exchange_block zero (i ∷ []) ≡ i.payload ∷ []
single_block i k = both (is_newkeys i) _ _ (i.payload ∷ []) (i.payload ∷ []) (λ e. refl) (λ e. ap (λ b. if b then i.payload ∷ [] else []) k) ∙ same_both (is_newkeys i) (i.payload ∷ []) where
  same_both : {A : Type 0} (b : Bool) (x : A) → (if b then x else x) ≡ x
  same_both true x = refl
  same_both false x = refl

kept : (b : Bool) (p : List ℕ) (x y : List (List ℕ)) (q : List ℕ) → x ≡ y ++ q ∷ [] → (if b then p ∷ x else x) ≡ (if b then p ∷ y else y) ++ q ∷ []
kept true p x y q h = ap (λ t. p ∷ t) h
kept false p x y q h = h

open_cons : (n : ℕ) (j : Item) (w : List Item) (i : Item) → is_newkeys j ≡ false → exchange_block n (w ++ i ∷ []) ≡ exchange_block n w ++ i.payload ∷ [] → exchange_block n ((j ∷ w) ++ i ∷ []) ≡ exchange_block n (j ∷ w) ++ i.payload ∷ []
open_cons zero j w i f h =
    ap (λ b. if b then j.payload ∷ [] else if is_kex_type (type_of j) then j.payload ∷ exchange_block zero (w ++ i ∷ []) else exchange_block zero (w ++ i ∷ [])) f
    ∙ (kept (is_kex_type (type_of j)) j.payload _ _ i.payload h
    ∙ ap (λ b. (if b then j.payload ∷ [] else if is_kex_type (type_of j) then j.payload ∷ exchange_block zero w else exchange_block zero w) ++ i.payload ∷ []) (sym f))
open_cons (suc n) j w i f h =
    ap (λ b. if b then exchange_block n (w ++ i ∷ []) else exchange_block (suc n) (w ++ i ∷ [])) f
    ∙ (h ∙ ap (λ b. (if b then exchange_block n w else exchange_block (suc n) w) ++ i.payload ∷ []) (sym f))

choice : (b : Bool) → (b ≡ true) ⊎ (b ≡ false)
choice true = inl refl
choice false = inr refl

one_more : (n : ℕ) → 1 + n ≡ suc n
one_more n = omega arith

pub block_at : (w : List Item) (i : Item) → is_kex_type (type_of i) ≡ true → exchange_block (epochs_ended w) (w ++ i ∷ []) ≡ exchange_block (epochs_ended w) w ++ i.payload ∷ []
block_at [] i k = single_block i k
block_at (j ∷ w) i k = elim (choice (is_newkeys j)) [
  | inl t ↦ subst (λ n. exchange_block n ((j ∷ w) ++ i ∷ []) ≡ exchange_block n (j ∷ w) ++ i.payload ∷ []) (sym (ends_true j w t ∙ one_more (epochs_ended w)))
      (ap (λ b. if b then exchange_block (epochs_ended w) (w ++ i ∷ []) else exchange_block (suc (epochs_ended w)) (w ++ i ∷ [])) t ∙ (block_at w i k ∙ ap (λ b. (if b then exchange_block (epochs_ended w) w else exchange_block (suc (epochs_ended w)) w) ++ i.payload ∷ []) (sym t)))
  | inr f ↦ subst (λ n. exchange_block n ((j ∷ w) ++ i ∷ []) ≡ exchange_block n (j ∷ w) ++ i.payload ∷ []) (sym (ends_false j w f))
      (open_cons (epochs_ended w) j w i f (block_at w i k))
]

kex_not : (i : Item) → is_kex_type (type_of i) ≡ false → is_newkeys i ≡ false
kex_not i h = kex_not_type (type_of i) h where
  kex_not_type : (t : ℕ) → is_kex_type t ≡ false → (t == 21) ≡ false
  kex_not_type t h = grind (arith, nat_tests)

-- a packet that is no message of an exchange changes no block
pub block_other : (k : ℕ) (w : List Item) (i : Item) → is_kex_type (type_of i) ≡ false → exchange_block k (w ++ i ∷ []) ≡ exchange_block k w
block_other zero [] i h = ap (λ b. if b then i.payload ∷ [] else if is_kex_type (type_of i) then i.payload ∷ [] else []) (kex_not i h) ∙ ap (λ b. if b then i.payload ∷ [] else []) h
block_other (suc k) [] i h = ap (λ b. if b then [] else []) (kex_not i h)
block_other zero (j ∷ w) i h = let r = block_other zero w i h in ap (λ xs. if is_newkeys j then j.payload ∷ [] else if is_kex_type (type_of j) then j.payload ∷ xs else xs) r
block_other (suc k) (j ∷ w) i h = both (is_newkeys j) _ _ _ _ (λ e. block_other k w i h) (λ e. block_other (suc k) w i h)

one_way : {A : Type 0} (b : Bool) (x y z : A) → (b ≡ true → x ≡ z) → (b ≡ false → y ≡ z) → (if b then x else y) ≡ z
one_way true x y z f g = f refl
one_way false x y z f g = g refl

pub block_above : (k : ℕ) (w : List Item) → epochs_ended w < k → exchange_block k w ≡ []
block_above zero [] h = refl
block_above (suc k) [] h = refl
block_above zero (j ∷ w) h = absurd (omega arith)
block_above (suc k) (j ∷ w) h = one_way (is_newkeys j) _ _ _ (λ e. block_above k w (omega (arith, ends_true j w e, h))) (λ e. block_above (suc k) w (omega (arith, ends_false j w e, h)))

pub ends_snoc : (w : List Item) (i : Item) → epochs_ended (w ++ i ∷ []) ≡ epochs_ended w + (if is_newkeys i then 1 else 0)
ends_snoc [] i = both (is_newkeys i) _ _ _ _ (λ e. refl) (λ e. refl) ∙ sym (zero-add _)
ends_snoc (j ∷ w) i = grind (arith, ends_snoc w i)

pub ends_snoc_newkeys : (w : List Item) (i : Item) → is_newkeys i ≡ true → epochs_ended (w ++ i ∷ []) ≡ epochs_ended w + 1
ends_snoc_newkeys w i e = ends_snoc w i ∙ ap (λ b. epochs_ended w + (if b then 1 else 0)) e

pub ends_snoc_plain : (w : List Item) (i : Item) → is_newkeys i ≡ false → epochs_ended (w ++ i ∷ []) ≡ epochs_ended w
ends_snoc_plain w i e = ends_snoc w i ∙ (ap (λ b. epochs_ended w + (if b then 1 else 0)) e ∙ (let z : epochs_ended w + 0 ≡ epochs_ended w = omega arith in z))

pub block_behind : (w : List Item) (i : Item) → is_newkeys i ≡ true → exchange_block (suc (epochs_ended w)) (w ++ i ∷ []) ≡ []
block_behind [] i h = ap (λ b. if b then [] else []) h
block_behind (j ∷ w) i h = elim (choice (is_newkeys j)) [
  | inl t ↦ subst (λ n. exchange_block (suc n) ((j ∷ w) ++ i ∷ []) ≡ []) (sym (ends_true j w t ∙ one_more (epochs_ended w)))
      (ap (λ b. if b then exchange_block (suc (epochs_ended w)) (w ++ i ∷ []) else exchange_block (suc (suc (epochs_ended w))) (w ++ i ∷ [])) t ∙ block_behind w i h)
  | inr f ↦ subst (λ n. exchange_block (suc n) ((j ∷ w) ++ i ∷ []) ≡ []) (sym (ends_false j w f))
      (ap (λ b. if b then exchange_block (epochs_ended w) (w ++ i ∷ []) else exchange_block (suc (epochs_ended w)) (w ++ i ∷ [])) f ∙ block_behind w i h)
]
