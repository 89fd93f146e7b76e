-- One packet more, in its place among blocks.
use Rattle.std.proofs.Common.{◌≡◌, ◌⊎◌, inl, inr, ℕ, zero, suc, ◌<◌, List, [], ◌∷◌, ◌++◌, length, map, drop, refl, sym, ◌∙◌, ap, subst, arith, Option, Some, None, Bool, true, false, if◌then◌else◌, ◌==◌, append-nil}
use Rattle.std.proofs.lemmas.Bool.{cases_lt}
use Rattle.std.proofs.lemmas.Bool.Decides.{nat_tests}
use Rattle.std.specs.Prelude.{slice_get}
use Rattle.ssh_wire.specs.declared.side.Side.{Side}
use Rattle.ssh_wire.specs.declared.side.Side.TheVariants.{Client, Server}
use Rattle.ssh_packet.specs.Sealing.{Item}
use Rattle.ssh_packet.specs.Stream.{is_newkeys}
use Rattle.ssh_kex.specs.declared.config.Config.{Config}
use Rattle.ssh_rules.proofs.Lemmas.{payloads_join, block_above, block_at, block_behind, block_below, block_other, ends_snoc_newkeys, ends_snoc_plain}
use Rattle.ssh_rules.specs.MessageTypes.{is_kex_type, is_payload_type, order, type_of}
use Rattle.ssh_rules.specs.Wire.{HasForm, InBlocks, carried_payloads, epochs_ended, exchange_block}
use Rattle.ssh_blocks.specs.Judging.{LeadsTo, due_behind}
use Rattle.ssh_blocks.proofs.Formed.{some_one}

-- ---- along the types that are due

pub leads_blocks : (side : Side) (kind : Bool) (k : ℕ) (due : List ℕ) (items : List Item) (left : List ℕ) → LeadsTo side kind due items left → InBlocks side (λ n. kind) k due items
leads_blocks side kind k [] [] left h = tt
leads_blocks side kind k (t ∷ due) [] left h = tt
leads_blocks side kind k (t ∷ due) (i ∷ items) left h = (h.0, leads_blocks side kind k due items left h.1)
leads_blocks side kind k [] (i ∷ items) left (inl h) = inl (h.0, leads_blocks side kind k [] items left h.1)
leads_blocks side kind k [] (i ∷ items) left (inr h) = inr (h.0, leads_blocks side kind (suc k) (drop 1 (order side kind)) items left h.1)

pub leads_snoc : (side : Side) (kind : Bool) (due : List ℕ) (w : List Item) (left : List ℕ) (i : Item) (more : List ℕ) → LeadsTo side kind due w left → LeadsTo side kind left (i ∷ []) more → LeadsTo side kind due (w ++ i ∷ []) more
leads_snoc side kind [] [] left i more h g = subst (λ d. LeadsTo side kind d (i ∷ []) more) (sym h) g
leads_snoc side kind (t ∷ due) [] left i more h g = subst (λ d. LeadsTo side kind d (i ∷ []) more) (sym h) g
leads_snoc side kind (t ∷ due) (j ∷ w) left i more h g = (h.0, leads_snoc side kind due w left i more h.1 g)
leads_snoc side kind [] (j ∷ w) left i more (inl h) g = inl (h.0, leads_snoc side kind [] w left i more h.1 g)
leads_snoc side kind [] (j ∷ w) left i more (inr h) g = inr (h.0, leads_snoc side kind (drop 1 (order side kind)) w left i more h.1 g)

-- a packet of a payload's type is no other
not_both : (t : ℕ) → is_payload_type t ≡ true → t ≡ 20 → ⊥
not_both t p e = grind (arith, nat_tests)

-- what a packet behind these has to be
pub leads_next : (side : Side) (kind : Bool) (k : ℕ) (due : List ℕ) (w : List Item) (left : List ℕ) (i : Item) → LeadsTo side kind due w left → InBlocks side (λ n. kind) k due (w ++ i ∷ []) → (m : ℕ) × InBlocks side (λ n. kind) m left (i ∷ [])
leads_next side kind k [] [] left i h b = (k, subst (λ d. InBlocks side (λ n. kind) k d (i ∷ [])) h b)
leads_next side kind k (t ∷ due) [] left i h b = (k, subst (λ d. InBlocks side (λ n. kind) k d (i ∷ [])) h b)
leads_next side kind k (t ∷ due) (j ∷ w) left i h b = leads_next side kind k due w left i h.1 b.1
leads_next side kind k [] (j ∷ w) left i (inl h) (inl b) = leads_next side kind k [] w left i h.1 b.1
leads_next side kind k [] (j ∷ w) left i (inr h) (inr b) = leads_next side kind (suc k) (drop 1 (order side kind)) w left i h.1 b.1
leads_next side kind k [] (j ∷ w) left i (inl h) (inr b) = absurd (not_both (type_of j) h.0 b.0)
leads_next side kind k [] (j ∷ w) left i (inr h) (inl b) = absurd (not_both (type_of j) b.0 h.0)

-- ---- the types of an order

-- a type of an order is one of key exchange, and that of NEWKEYS where it is the last
pub record IsOfOrder (side : Side) (kind : Bool) (place t : ℕ) : Type 0 where
  pub kex : is_kex_type t ≡ true
  pub none : is_payload_type t ≡ false
  pub last : suc place ≡ length (order side kind) → (t == 21) ≡ true
  pub before : suc place < length (order side kind) → (t == 21) ≡ false
  pub within : place < length (order side kind)

is_of : (side : Side) (kind : Bool) (place t u : ℕ) → Some u ≡ Some t → IsOfOrder side kind place u → IsOfOrder side kind place t
is_of side kind place t u e h = subst (IsOfOrder side kind place) (some_one u t e) h

pub of_order : (side : Side) (kind : Bool) (place t : ℕ) → slice_get (order side kind) place ≡ Some t → IsOfOrder side kind place t
of_order Client false zero t e = is_of Client false 0 t 20 e (record { kex = refl; none = refl; last = λ l. absurd (omega (arith, l)); before = λ l. refl; within = omega arith })
of_order Client false (suc zero) t e = is_of Client false 1 t 30 e (record { kex = refl; none = refl; last = λ l. absurd (omega (arith, l)); before = λ l. refl; within = omega arith })
of_order Client false (suc (suc zero)) t e = is_of Client false 2 t 21 e (record { kex = refl; none = refl; last = λ l. refl; before = λ l. absurd (omega (arith, l)); within = omega arith })
of_order Client false (suc (suc (suc n))) t e = absurd (let p : None ≡ Some t = e in cc)
of_order Client true zero t e = is_of Client true 0 t 20 e (record { kex = refl; none = refl; last = λ l. absurd (omega (arith, l)); before = λ l. refl; within = omega arith })
of_order Client true (suc zero) t e = is_of Client true 1 t 34 e (record { kex = refl; none = refl; last = λ l. absurd (omega (arith, l)); before = λ l. refl; within = omega arith })
of_order Client true (suc (suc zero)) t e = is_of Client true 2 t 32 e (record { kex = refl; none = refl; last = λ l. absurd (omega (arith, l)); before = λ l. refl; within = omega arith })
of_order Client true (suc (suc (suc zero))) t e = is_of Client true 3 t 21 e (record { kex = refl; none = refl; last = λ l. refl; before = λ l. absurd (omega (arith, l)); within = omega arith })
of_order Client true (suc (suc (suc (suc n)))) t e = absurd (let p : None ≡ Some t = e in cc)
of_order Server false zero t e = is_of Server false 0 t 20 e (record { kex = refl; none = refl; last = λ l. absurd (omega (arith, l)); before = λ l. refl; within = omega arith })
of_order Server false (suc zero) t e = is_of Server false 1 t 31 e (record { kex = refl; none = refl; last = λ l. absurd (omega (arith, l)); before = λ l. refl; within = omega arith })
of_order Server false (suc (suc zero)) t e = is_of Server false 2 t 21 e (record { kex = refl; none = refl; last = λ l. refl; before = λ l. absurd (omega (arith, l)); within = omega arith })
of_order Server false (suc (suc (suc n))) t e = absurd (let p : None ≡ Some t = e in cc)
of_order Server true zero t e = is_of Server true 0 t 20 e (record { kex = refl; none = refl; last = λ l. absurd (omega (arith, l)); before = λ l. refl; within = omega arith })
of_order Server true (suc zero) t e = is_of Server true 1 t 31 e (record { kex = refl; none = refl; last = λ l. absurd (omega (arith, l)); before = λ l. refl; within = omega arith })
of_order Server true (suc (suc zero)) t e = is_of Server true 2 t 33 e (record { kex = refl; none = refl; last = λ l. absurd (omega (arith, l)); before = λ l. refl; within = omega arith })
of_order Server true (suc (suc (suc zero))) t e = is_of Server true 3 t 21 e (record { kex = refl; none = refl; last = λ l. refl; before = λ l. absurd (omega (arith, l)); within = omega arith })
of_order Server true (suc (suc (suc (suc n)))) t e = absurd (let p : None ≡ Some t = e in cc)

pub order_begins : (side : Side) (kind : Bool) → slice_get (order side kind) 0 ≡ Some 20
order_begins Client false = refl
order_begins Client true = refl
order_begins Server false = refl
order_begins Server true = refl

pub order_some : (side : Side) (kind : Bool) → 0 < length (order side kind)
order_some Client false = omega arith
order_some Client true = omega arith
order_some Server false = omega arith
order_some Server true = omega arith

pub order_two : (side : Side) (kind : Bool) → 1 < length (order side kind)
order_two Client false = omega arith
order_two Client true = omega arith
order_two Server false = omega arith
order_two Server true = omega arith

-- a type of a payload is none of key exchange
pub payload_no_kex : (t : ℕ) → is_payload_type t ≡ true → is_kex_type t ≡ false
payload_no_kex t p = grind (arith, nat_tests)

-- ---- what is due

drop_get : (o : List ℕ) (k t : ℕ) → slice_get o k ≡ Some t → drop k o ≡ t ∷ drop (suc k) o
drop_get [] k t e = absurd (let p : None ≡ Some t = e in cc)
drop_get (x ∷ o) zero t e = (let p : x ≡ t = some_one x t e in ap (λ y. y ∷ o) p)
drop_get (x ∷ o) (suc k) t e = drop_get o k t e

get_some : (o : List ℕ) (k : ℕ) → k < length o → (t : ℕ) × (slice_get o k ≡ Some t)
get_some [] k l = absurd (omega (arith, l))
get_some (x ∷ o) zero l = (x, refl)
get_some (x ∷ o) (suc k) l = get_some o k (omega (arith, l))

drop_all : (o : List ℕ) (k : ℕ) → k ≡ length o → drop k o ≡ []
drop_all [] zero e = refl
drop_all [] (suc k) e = absurd (omega (arith, e))
drop_all (x ∷ o) zero e = absurd (omega (arith, e))
drop_all (x ∷ o) (suc k) e = drop_all o k (omega (arith, e))

-- between two blocks nothing is due, else the rest of the order
pub due_cases : (b : Bool) (place : ℕ) (o : List ℕ) → (b ≡ false → place ≡ 0) → ((b ≡ true) × (place ≡ 0) × (due_behind b place o ≡ [])) ⊎ (due_behind b place o ≡ drop place o)
due_cases false place o f = inr (sym (ap (λ n. drop n o) (f refl)))
due_cases true zero o f = inl (refl, refl, refl)
due_cases true (suc place) o f = inr refl

-- behind a message of the order
pub due_next : (o : List ℕ) (place next : ℕ) → (suc place ≡ length o → next ≡ 0) → (suc place < length o → next ≡ suc place) → place < length o → due_behind true next o ≡ drop (suc place) o
due_next o place next a b l = elim (cases_lt (suc place) (length o)) [
  | inl m ↦ ap (λ n. due_behind true n o) (b m)
  | inr m ↦ (let e : suc place ≡ length o = omega (arith, l, m) in ap (λ n. due_behind true n o) (a e) ∙ sym (drop_all o (suc place) e))
]

-- over a message whose type is due
pub leads_message : (side : Side) (kind b : Bool) (place next : ℕ) (i : Item) → (b ≡ false → place ≡ 0) → slice_get (order side kind) place ≡ Some (type_of i)
    → (suc place ≡ length (order side kind) → next ≡ 0) → (suc place < length (order side kind) → next ≡ suc place)
    → LeadsTo side kind (due_behind b place (order side kind)) (i ∷ []) (due_behind true next (order side kind))
leads_message side kind b place next i f e u v =
    let within = (of_order side kind place (type_of i) e).within in
    let behind = due_next (order side kind) place next u v within in
    elim (due_cases b place (order side kind) f) [
      | inl z ↦ subst (λ d. LeadsTo side kind d (i ∷ []) (due_behind true next (order side kind))) (sym z.2)
          (inr (
            some_one (type_of i) 20 (sym e ∙ (ap (λ n. slice_get (order side kind) n) z.1 ∙ order_begins side kind)),
            ap (λ n. drop (suc n) (order side kind)) (sym z.1) ∙ sym behind,
          ))
      | inr z ↦ subst (λ d. LeadsTo side kind d (i ∷ []) (due_behind true next (order side kind))) (sym (z ∙ drop_get (order side kind) place (type_of i) e))
          (refl, sym behind)
    ]

-- over a payload between two blocks
pub leads_payload : (side : Side) (kind b : Bool) (place : ℕ) (i : Item) → b ≡ true → place ≡ 0 → is_payload_type (type_of i) ≡ true → LeadsTo side kind (due_behind b place (order side kind)) (i ∷ []) (due_behind b place (order side kind))
leads_payload side kind b place i e f p =
    subst (λ c. LeadsTo side kind (due_behind c place (order side kind)) (i ∷ []) (due_behind c place (order side kind))) (sym e)
    (subst (λ n. LeadsTo side kind (due_behind true n (order side kind)) (i ∷ []) (due_behind true n (order side kind))) (sym f) (inl (p, refl)))

-- a packet that may stand next is a payload between two blocks, or its type is due
pub next_due : (side : Side) (kind b : Bool) (place m : ℕ) (i : Item) → (b ≡ false → place ≡ 0) → place < length (order side kind) → InBlocks side (λ n. kind) m (due_behind b place (order side kind)) (i ∷ [])
    → ((b ≡ true) × (place ≡ 0) × (is_payload_type (type_of i) ≡ true)) ⊎ (slice_get (order side kind) place ≡ Some (type_of i))
next_due side kind b place m i f l h = elim (due_cases b place (order side kind) f) [
  | inl z ↦ between z (subst (λ d. InBlocks side (λ n. kind) m d (i ∷ [])) z.2 h)
  | inr z ↦ (let g = get_some (order side kind) place l in
      let s : InBlocks side (λ n. kind) m (g.0 ∷ drop (suc place) (order side kind)) (i ∷ []) = subst (λ d. InBlocks side (λ n. kind) m d (i ∷ [])) (z ∙ drop_get (order side kind) place g.0 g.1) h in
      inr (g.1 ∙ ap Some (sym s.0)))
] where
  between : (b ≡ true) × (place ≡ 0) × (due_behind b place (order side kind) ≡ []) → InBlocks side (λ n. kind) m [] (i ∷ []) → ((b ≡ true) × (place ≡ 0) × (is_payload_type (type_of i) ≡ true)) ⊎ (slice_get (order side kind) place ≡ Some (type_of i))
  between z (inl p) = inl (z.0, z.1, p.0)
  between z (inr p) = inr (ap (λ n. slice_get (order side kind) n) z.1 ∙ (order_begins side kind ∙ ap Some (sym p.0)))

-- ---- payloads, and the block that is open

pub payloads_snoc : (items : List Item) (i : Item) → is_payload_type (type_of i) ≡ true → carried_payloads (items ++ i ∷ []) ≡ carried_payloads items ++ i.payload ∷ []
payloads_snoc items i p = payloads_join items (i ∷ []) ∙ ap (λ b. carried_payloads items ++ map (λ (j : Item). j.payload) (if b then i ∷ [] else [])) p

pub payloads_same : (items : List Item) (i : Item) → is_payload_type (type_of i) ≡ false → carried_payloads (items ++ i ∷ []) ≡ carried_payloads items
payloads_same items i p = payloads_join items (i ∷ []) ∙ (ap (λ b. carried_payloads items ++ map (λ (j : Item). j.payload) (if b then i ∷ [] else [])) p ∙ append-nil (carried_payloads items))

newkeys_kex : (t : ℕ) → is_kex_type t ≡ false → (t == 21) ≡ false
newkeys_kex t h = grind (arith, nat_tests)

-- a packet that is no message of an exchange changes no block
pub open_same : (items : List Item) (i : Item) → is_kex_type (type_of i) ≡ false → exchange_block (epochs_ended (items ++ i ∷ [])) (items ++ i ∷ []) ≡ exchange_block (epochs_ended items) items
open_same items i h = ap (λ k. exchange_block k (items ++ i ∷ [])) (ends_snoc_plain items i (newkeys_kex (type_of i) h)) ∙ block_other (epochs_ended items) items i h

last_length : {A : Type 0} (own : List A) (m : A) → length (own ++ m ∷ []) ≡ suc (length own)
last_length [] m = refl
last_length (o ∷ own) m = ap suc (last_length own m)

-- a message of an exchange is one more of the open block, which it may end
pub open_more : (side : Side) (kind : Bool) (items : List Item) (i : Item) (place next : ℕ) → IsOfOrder side kind place (type_of i) → length (exchange_block (epochs_ended items) items) ≡ place
    → (suc place ≡ length (order side kind) → next ≡ 0) → (suc place < length (order side kind) → next ≡ suc place)
    → length (exchange_block (epochs_ended (items ++ i ∷ [])) (items ++ i ∷ [])) ≡ next
open_more side kind items i place next o l u v = elim (cases_lt (suc place) (length (order side kind))) [
  | inl m ↦ ap (λ k. length (exchange_block k (items ++ i ∷ []))) (ends_snoc_plain items i (o.before m))
      ∙ (ap length (block_at items i o.kex) ∙ (last_length (exchange_block (epochs_ended items) items) i.payload ∙ (ap suc l ∙ sym (v m))))
  | inr m ↦ (let e : suc place ≡ length (order side kind) = (let w = o.within in omega (arith, m, w)) in
      let one : epochs_ended (items ++ i ∷ []) ≡ suc (epochs_ended items) = omega (arith, ends_snoc_newkeys items i (o.last e)) in
      ap (λ k. length (exchange_block k (items ++ i ∷ []))) one ∙ (ap length (block_behind items i (o.last e)) ∙ sym (u e)))
]

-- ---- the forms of all blocks

choice : (b : Bool) → (b ≡ true) ⊎ (b ≡ false)
choice true = inl refl
choice false = inr refl

-- a block to come is empty still
to_come : (k : ℕ) (items : List Item) (i : Item) → epochs_ended items < k → exchange_block k (items ++ i ∷ []) ≡ []
to_come k items i l = elim (choice (is_newkeys i)) [
  | inl t ↦ elim (cases_lt (suc (epochs_ended items)) k) [
    | inl far ↦ block_above k (items ++ i ∷ []) (omega (arith, ends_snoc_newkeys items i t, far))
    | inr near ↦ subst (λ n. exchange_block n (items ++ i ∷ []) ≡ []) (omega (arith, near, l)) (block_behind items i t)
  ]
  | inr f ↦ block_above k (items ++ i ∷ []) (omega (arith, ends_snoc_plain items i f, l))
]

form_at : (side : Side) (config : Config) (kind : Bool) (host : Option (List ℕ)) (own more : List (List ℕ)) → own ≡ more → HasForm side config kind host own → HasForm side config kind host more
form_at side config kind host own more e h = subst (HasForm side config kind host) e h

pub forms_more : (side : Side) (config : Config) (kind : Bool) (host : Option (List ℕ)) (items : List Item) (i : Item) → ((k : ℕ) → HasForm side config kind host (exchange_block k items))
    → HasForm side config kind host (exchange_block (epochs_ended items) (items ++ i ∷ [])) → (k : ℕ) → HasForm side config kind host (exchange_block k (items ++ i ∷ []))
forms_more side config kind host items i before form k = elim (cases_lt k (epochs_ended items)) [
  | inl l ↦ form_at side config kind host (exchange_block k items) (exchange_block k (items ++ i ∷ [])) (sym (block_below k items i l)) (before k)
  | inr m ↦ elim (cases_lt (epochs_ended items) k) [
    | inl l ↦ form_at side config kind host (exchange_block k items) (exchange_block k (items ++ i ∷ [])) (block_above k items l ∙ sym (to_come k items i l)) (before k)
    | inr l ↦ subst (λ x. HasForm side config kind host (exchange_block x (items ++ i ∷ []))) (let e : epochs_ended items ≡ k = omega (arith, l, m) in e) form
  ]
]

pub forms_same : (side : Side) (config : Config) (kind : Bool) (host : Option (List ℕ)) (items : List Item) (i : Item) → is_kex_type (type_of i) ≡ false → ((k : ℕ) → HasForm side config kind host (exchange_block k items))
    → (k : ℕ) → HasForm side config kind host (exchange_block k (items ++ i ∷ []))
forms_same side config kind host items i h before k = form_at side config kind host (exchange_block k items) (exchange_block k (items ++ i ∷ [])) (sym (block_other k items i h)) (before k)
