-- A block that a wire in blocks holds to its end stands whole, and is read under the exchanges before it.
use Rattle.std.proofs.Common.{◌≡◌, ◌⊎◌, inl, inr, ℕ, zero, suc, ◌+◌, ◌<◌, ◌≤◌, List, [], ◌∷◌, ◌++◌, length, take, map, refl, sym, ◌∙◌, ap, subst, arith, Some, None, Bool, true, false, if◌then◌else◌, ◌==◌}
use Rattle.std.proofs.lemmas.Bool.Decides.{nat_tests}
use Rattle.ssh_packet.specs.Sealing.{Item, Sealing, next_number, moved_on}
use Rattle.ssh_packet.specs.Stream.{Opening, Place, first_place, Reads, Entries, IsEnd, place_after, place_behind, is_newkeys, next_place, kept_number}
use Rattle.ssh_wire.specs.declared.side.Side.{Side}
use Rattle.ssh_wire.specs.declared.side.Side.TheVariants.{Client, Server}
use Rattle.ssh_rules.specs.MessageTypes.{type_of, is_kex_type, is_payload_type, order}
use Rattle.ssh_rules.specs.Wire.{InBlocks, exchange_block, epochs_ended}
use Rattle.ssh_record.specs.Exchanges.{block_items, epoch_items, from_exchange}

-- ---- up to the end of epoch k

-- the packets up to the one that ends epoch k
abbrev pub until : ℕ → List Item → List Item
until k [] = []
until zero (i ∷ items) = if is_newkeys i then i ∷ [] else i ∷ until zero items
until (suc k) (i ∷ items) = if is_newkeys i then i ∷ until k items else i ∷ until (suc k) items

if_both : {A : Type 0} (b : Bool) (x y z w : A) → (b ≡ true → x ≡ z) → (b ≡ false → y ≡ w) → (if b then x else y) ≡ (if b then z else w)
if_both true x y z w f g = f refl
if_both false x y z w f g = g refl

one_epoch : (b : Bool) (i : Item) (rest more : List Item) → rest ≡ more → (if b then i ∷ [] else i ∷ rest) ≡ (if b then i ∷ [] else i ∷ more)
one_epoch true i rest more e = refl
one_epoch false i rest more e = ap (λ t. i ∷ t) e

choice : (b : Bool) → (b ≡ true) ⊎ (b ≡ false)
choice true = inl refl
choice false = inr refl

-- what stands in epoch k stands before its end
epoch_until : (k : ℕ) (items : List Item) → epoch_items k (until k items) ≡ epoch_items k items
epoch_until zero [] = refl
epoch_until (suc k) [] = refl
epoch_until zero (i ∷ items) = elim (choice (is_newkeys i)) [
  | inl e ↦ ap (λ b. epoch_items zero (if b then i ∷ [] else i ∷ until zero items)) e ∙ (ap (λ b. if b then i ∷ [] else i ∷ epoch_items zero []) e ∙ sym (ap (λ b. if b then i ∷ [] else i ∷ epoch_items zero items) e))
  | inr e ↦ ap (λ b. epoch_items zero (if b then i ∷ [] else i ∷ until zero items)) e ∙ one_epoch (is_newkeys i) i (epoch_items zero (until zero items)) (epoch_items zero items) (epoch_until zero items)
]
epoch_until (suc k) (i ∷ items) = elim (choice (is_newkeys i)) [
  | inl e ↦ ap (λ b. epoch_items (suc k) (if b then i ∷ until k items else i ∷ until (suc k) items)) e
      ∙ (ap (λ b. if b then epoch_items k (until k items) else epoch_items (suc k) (until k items)) e ∙ (epoch_until k items ∙ sym (ap (λ b. if b then epoch_items k items else epoch_items (suc k) items) e)))
  | inr e ↦ ap (λ b. epoch_items (suc k) (if b then i ∷ until k items else i ∷ until (suc k) items)) e
      ∙ (ap (λ b. if b then epoch_items k (until (suc k) items) else epoch_items (suc k) (until (suc k) items)) e ∙ (epoch_until (suc k) items ∙ sym (ap (λ b. if b then epoch_items k items else epoch_items (suc k) items) e)))
]

pub block_until : (k : ℕ) (items : List Item) → block_items k (until k items) ≡ block_items k items
block_until zero items = epoch_until zero items
block_until (suc k) items = ap from_exchange (epoch_until (suc k) items)

-- ---- read under the exchanges before

abbrev spot : Sealing → ℕ → List Opening → Place
spot s n openings = record { sealing = s; number = n; openings = openings }

after_true : (at : Place) (i : Item) → is_newkeys i ≡ true → place_after at i ≡ next_place at.openings (next_number at.number)
after_true at i e = ap (λ b. if b then next_place at.openings (next_number at.number) else Some (record { sealing = moved_on at.sealing i; number = next_number at.number; openings = at.openings })) e

after_false : (at : Place) (i : Item) → is_newkeys i ≡ false → place_after at i ≡ Some (record { sealing = moved_on at.sealing i; number = next_number at.number; openings = at.openings })
after_false at i e = ap (λ b. if b then next_place at.openings (next_number at.number) else Some (record { sealing = moved_on at.sealing i; number = next_number at.number; openings = at.openings })) e

none_ends : (items : List Item) (bytes rest : List ℕ) → Reads None items bytes rest → epochs_ended items ≡ 0
none_ends [] bytes rest h = refl
none_ends (i ∷ items) bytes rest h = absurd h

ends_if : (b : Bool) (n k : ℕ) → k < (if b then 1 + n else n) → b ≡ true → k < 1 + n
ends_if b n k h e = subst (λ c. k < (if c then 1 + n else n)) e h

ends_else : (b : Bool) (n k : ℕ) → k < (if b then 1 + n else n) → b ≡ false → k < n
ends_else b n k h e = subst (λ c. k < (if c then 1 + n else n)) e h

abbrev CutAs : Sealing → ℕ → List Opening → ℕ → List Item → List ℕ → Type 0
CutAs s n openings k items bytes = (rest : List ℕ) × Reads (Some (spot s n (take k openings))) items bytes rest × (place_behind (Some (spot s n (take k openings))) items ≡ None)

-- one packet before a cut
cut_on : (s : Sealing) (n : ℕ) (openings rest_openings : List Opening) (k m : ℕ) (s' : Sealing) (n' : ℕ) (i : Item) (items : List Item) (bytes more : List ℕ) → Rattle.ssh_packet.specs.Sealing.IsAdmissible s i → bytes ≡ Rattle.ssh_packet.specs.Stream.packet_at (spot s n openings) i ++ more
    → place_after (spot s n (take k openings)) i ≡ Some (spot s' n' (take m rest_openings)) → CutAs s' n' rest_openings m items more → CutAs s n openings k (i ∷ items) bytes
cut_on s n openings rest_openings k m s' n' i items bytes more a e p c =
    (c.0, (more, a, e, subst (λ q. Reads q items more c.0) (sym p) c.1), ap (λ q. place_behind q items) p ∙ c.2)

pub cut_reads : (s : Sealing) (n : ℕ) (openings : List Opening) (k : ℕ) (items : List Item) (bytes rest : List ℕ) → k < epochs_ended items → Reads (Some (spot s n openings)) items bytes rest → CutAs s n openings k (until k items) bytes
cut_reads s n openings k [] bytes rest l h = absurd (omega (arith, l))
cut_reads s n openings zero (i ∷ items) bytes rest l h = elim (choice (is_newkeys i)) [
  | inl e ↦ subst (λ t. CutAs s n openings zero t bytes) (sym (ap (λ b. if b then i ∷ [] else i ∷ until zero items) e))
      (h.0, (h.0, h.1, h.2, subst (λ q. Reads q [] h.0 h.0) (sym (after_true (spot s n []) i e)) refl), after_true (spot s n []) i e)
  | inr e ↦
      let onward = subst (λ q. Reads q items h.0 rest) (after_false (spot s n openings) i e) h.3 in
      subst (λ t. CutAs s n openings zero t bytes) (sym (ap (λ b. if b then i ∷ [] else i ∷ until zero items) e))
      (cut_on s n openings openings zero zero (moved_on s i) (next_number n) i (until zero items) bytes h.0 h.1 h.2 (after_false (spot s n []) i e)
      (cut_reads (moved_on s i) (next_number n) openings zero items h.0 rest (ends_else (is_newkeys i) (epochs_ended items) zero l e) onward))
]
cut_reads s n [] (suc k) (i ∷ items) bytes rest l h = elim (choice (is_newkeys i)) [
  | inl e ↦ absurd (omega (arith, none_ends items h.0 rest (subst (λ q. Reads q items h.0 rest) (after_true (spot s n []) i e) h.3), ends_if (is_newkeys i) (epochs_ended items) (suc k) l e))
  | inr e ↦
      let onward = subst (λ q. Reads q items h.0 rest) (after_false (spot s n []) i e) h.3 in
      subst (λ t. CutAs s n [] (suc k) t bytes) (sym (ap (λ b. if b then i ∷ until k items else i ∷ until (suc k) items) e))
      (cut_on s n [] [] (suc k) (suc k) (moved_on s i) (next_number n) i (until (suc k) items) bytes h.0 h.1 h.2 (after_false (spot s n []) i e)
      (cut_reads (moved_on s i) (next_number n) [] (suc k) items h.0 rest (ends_else (is_newkeys i) (epochs_ended items) (suc k) l e) onward))
]
cut_reads s n (o ∷ openings) (suc k) (i ∷ items) bytes rest l h = elim (choice (is_newkeys i)) [
  | inl e ↦
      let onward = subst (λ q. Reads q items h.0 rest) (after_true (spot s n (o ∷ openings)) i e) h.3 in
      subst (λ t. CutAs s n (o ∷ openings) (suc k) t bytes) (sym (ap (λ b. if b then i ∷ until k items else i ∷ until (suc k) items) e))
      (cut_on s n (o ∷ openings) openings (suc k) k o.sealing (kept_number o.strict (next_number n)) i (until k items) bytes h.0 h.1 h.2 (after_true (spot s n (o ∷ take k openings)) i e)
      (cut_reads o.sealing (kept_number o.strict (next_number n)) openings k items h.0 rest (omega (arith, ends_if (is_newkeys i) (epochs_ended items) (suc k) l e)) onward))
  | inr e ↦
      let onward = subst (λ q. Reads q items h.0 rest) (after_false (spot s n (o ∷ openings)) i e) h.3 in
      subst (λ t. CutAs s n (o ∷ openings) (suc k) t bytes) (sym (ap (λ b. if b then i ∷ until k items else i ∷ until (suc k) items) e))
      (cut_on s n (o ∷ openings) (o ∷ openings) (suc k) (suc k) (moved_on s i) (next_number n) i (until (suc k) items) bytes h.0 h.1 h.2 (after_false (spot s n (o ∷ take k openings)) i e)
      (cut_reads (moved_on s i) (next_number n) (o ∷ openings) (suc k) items h.0 rest (ends_else (is_newkeys i) (epochs_ended items) (suc k) l e) onward))
]

pub cut_entries : (openings : List Opening) (k : ℕ) (items : List Item) (bytes rest : List ℕ) → k < epochs_ended items → Reads (Some (first_place openings)) items bytes rest → (left : List ℕ) × Entries (take k openings) bytes (until k items) left
cut_entries openings k items bytes rest l h =
    let c = cut_reads Rattle.ssh_packet.specs.Sealing.Clear 0 openings k items bytes rest l h in
    (c.0, record { reads = c.1; no_more = subst (λ q. IsEnd q c.0) (sym c.2) tt })

-- where epoch k ends there are openings for it
pub openings_enough : (s : Sealing) (n : ℕ) (openings : List Opening) (k : ℕ) (items : List Item) (bytes rest : List ℕ) → k < epochs_ended items → Reads (Some (spot s n openings)) items bytes rest → k ≤ length openings
openings_enough s n openings k [] bytes rest l h = absurd (omega (arith, l))
openings_enough s n openings zero (i ∷ items) bytes rest l h = omega arith
openings_enough s n [] (suc k) (i ∷ items) bytes rest l h = elim (choice (is_newkeys i)) [
  | inl e ↦ absurd (omega (arith, none_ends items h.0 rest (subst (λ q. Reads q items h.0 rest) (after_true (spot s n []) i e) h.3), ends_if (is_newkeys i) (epochs_ended items) (suc k) l e))
  | inr e ↦ openings_enough (moved_on s i) (next_number n) [] (suc k) items h.0 rest (ends_else (is_newkeys i) (epochs_ended items) (suc k) l e) (subst (λ q. Reads q items h.0 rest) (after_false (spot s n []) i e) h.3)
]
openings_enough s n (o ∷ openings) (suc k) (i ∷ items) bytes rest l h = elim (choice (is_newkeys i)) [
  | inl e ↦
      let r = openings_enough o.sealing (kept_number o.strict (next_number n)) openings k items h.0 rest (omega (arith, ends_if (is_newkeys i) (epochs_ended items) (suc k) l e)) (subst (λ q. Reads q items h.0 rest) (after_true (spot s n (o ∷ openings)) i e) h.3) in
      omega (arith, r)
  | inr e ↦ openings_enough (moved_on s i) (next_number n) (o ∷ openings) (suc k) items h.0 rest (ends_else (is_newkeys i) (epochs_ended items) (suc k) l e) (subst (λ q. Reads q items h.0 rest) (after_false (spot s n (o ∷ openings)) i e) h.3)
]

-- ---- whole blocks

-- types up to the end of a block: the last of them alone ends it
abbrev Closes : List ℕ → Type 0
Closes [] = ⊥
Closes (t ∷ []) = t ≡ 21
Closes (t ∷ u ∷ due) = ((t == 21) ≡ false) × (is_kex_type t ≡ true) × Closes (u ∷ due)

abbrev payloads : List Item → List (List ℕ)
payloads items = map (λ (i : Item). i.payload) items

-- its packets have these types, and are the messages of the block
pub record IsBlock (types : List ℕ) (block : List Item) (messages : List (List ℕ)) : Type 0 where
  pub types_are : map type_of block ≡ types
  pub messages_are : payloads block ≡ messages

add_message : (t : ℕ) (types : List ℕ) (i : Item) (block : List Item) (messages : List (List ℕ)) → type_of i ≡ t → IsBlock types block messages → IsBlock (t ∷ types) (i ∷ block) (i.payload ∷ messages)
add_message t types i block messages e b = record {
  types_are = ap (λ x. x ∷ map type_of block) e ∙ ap (λ x. t ∷ x) b.types_are;
  messages_are = ap (λ x. i.payload ∷ x) b.messages_are;
}

newkeys_by : (i : Item) (t : ℕ) (b : Bool) → type_of i ≡ t → (t == 21) ≡ b → is_newkeys i ≡ b
newkeys_by i t b e f = ap (λ x. x == 21) e ∙ f

kex_by : (i : Item) (t : ℕ) (b : Bool) → type_of i ≡ t → is_kex_type t ≡ b → is_kex_type (type_of i) ≡ b
kex_by i t b e f = ap is_kex_type e ∙ f

-- the open block
open_block : (side : Side) (kind : ℕ → Bool) (n : ℕ) (due : List ℕ) (items : List Item) → Closes due → InBlocks side kind n due items → 0 < epochs_ended items → IsBlock due (epoch_items zero items) (exchange_block zero items)
open_block side kind n [] items c h l = absurd c
open_block side kind n (t ∷ []) [] c h l = absurd (omega (arith, l))
open_block side kind n (t ∷ u ∷ due) [] c h l = absurd (omega (arith, l))
open_block side kind n (t ∷ []) (i ∷ items) c h l =
    let e : is_newkeys i ≡ true = newkeys_by i t true h.0 (ap (λ x. x == 21) c) in
    subst (λ b. IsBlock (t ∷ []) (if b then i ∷ [] else i ∷ epoch_items zero items) (if b then i.payload ∷ [] else if is_kex_type (type_of i) then i.payload ∷ exchange_block zero items else exchange_block zero items)) (sym e)
    (record { types_are = ap (λ x. x ∷ []) h.0; messages_are = refl })
open_block side kind n (t ∷ u ∷ due) (i ∷ items) c h l =
    let e : is_newkeys i ≡ false = newkeys_by i t false h.0 c.0 in
    let k : is_kex_type (type_of i) ≡ true = kex_by i t true h.0 c.1 in
    let r = open_block side kind n (u ∷ due) items c.2 h.1 (ends_else (is_newkeys i) (epochs_ended items) 0 l e) in
    subst (λ b. IsBlock (t ∷ u ∷ due) (if b then i ∷ [] else i ∷ epoch_items zero items) (if b then i.payload ∷ [] else if is_kex_type (type_of i) then i.payload ∷ exchange_block zero items else exchange_block zero items)) (sym e)
    (subst (λ b. IsBlock (t ∷ u ∷ due) (i ∷ epoch_items zero items) (if b then i.payload ∷ exchange_block zero items else exchange_block zero items)) (sym k)
    (add_message t (u ∷ due) i (epoch_items zero items) (exchange_block zero items) h.0 r))

abbrev behind_first : List ℕ → List ℕ
behind_first xs = Rattle.std.specs.Prelude.drop 1 xs

order_closes : (side : Side) (kind : Bool) → Closes (behind_first (order side kind)) × (20 ∷ behind_first (order side kind) ≡ order side kind)
order_closes Client false = ((refl, refl, refl), refl)
order_closes Client true = ((refl, refl, (refl, refl, refl)), refl)
order_closes Server false = ((refl, refl, refl), refl)
order_closes Server true = ((refl, refl, (refl, refl, refl)), refl)

whole_closes : (side : Side) (kind : Bool) → Closes (order side kind)
whole_closes Client false = (refl, refl, (refl, refl, refl))
whole_closes Client true = (refl, refl, (refl, refl, (refl, refl, refl)))
whole_closes Server false = (refl, refl, (refl, refl, refl))
whole_closes Server true = (refl, refl, (refl, refl, (refl, refl, refl)))

payload_no_kex : (t : ℕ) → is_payload_type t ≡ true → is_kex_type t ≡ false
payload_no_kex t h = grind (arith, nat_tests)

payload_no_end : (t : ℕ) → is_payload_type t ≡ true → (t == 21) ≡ false
payload_no_end t h = grind (arith, nat_tests)

-- behind a packet that is none of an exchange
pass_payload : (side : Side) (k : ℕ) (types : List ℕ) (i : Item) (items : List Item) → is_newkeys i ≡ false → is_kex_type (type_of i) ≡ false → IsBlock types (from_exchange (epoch_items k items)) (exchange_block k items) → IsBlock types (from_exchange (epoch_items k (i ∷ items))) (exchange_block k (i ∷ items))
pass_payload side zero types i items e f r =
    subst (λ b. IsBlock types (from_exchange (if b then i ∷ [] else i ∷ epoch_items zero items)) (if b then i.payload ∷ [] else if is_kex_type (type_of i) then i.payload ∷ exchange_block zero items else exchange_block zero items)) (sym e)
    (subst (λ b. IsBlock types (if b then i ∷ epoch_items zero items else from_exchange (epoch_items zero items)) (if b then i.payload ∷ exchange_block zero items else exchange_block zero items)) (sym f) r)
pass_payload side (suc k) types i items e f r =
    subst (λ b. IsBlock types (from_exchange (if b then epoch_items k items else epoch_items (suc k) items)) (if b then exchange_block k items else exchange_block (suc k) items)) (sym e) r

-- behind a message that ends nothing
pass_message : (k : ℕ) (types : List ℕ) (i : Item) (items : List Item) → is_newkeys i ≡ false → IsBlock types (from_exchange (epoch_items (suc k) items)) (exchange_block (suc k) items) → IsBlock types (from_exchange (epoch_items (suc k) (i ∷ items))) (exchange_block (suc k) (i ∷ items))
pass_message k types i items e r = subst (λ b. IsBlock types (from_exchange (if b then epoch_items k items else epoch_items (suc k) items)) (if b then exchange_block k items else exchange_block (suc k) items)) (sym e) r

pass_end : (k : ℕ) (types : List ℕ) (i : Item) (items : List Item) → is_newkeys i ≡ true → IsBlock types (from_exchange (epoch_items k items)) (exchange_block k items) → IsBlock types (from_exchange (epoch_items (suc k) (i ∷ items))) (exchange_block (suc k) (i ∷ items))
pass_end k types i items e r = subst (λ b. IsBlock types (from_exchange (if b then epoch_items k items else epoch_items (suc k) items)) (if b then exchange_block k items else exchange_block (suc k) items)) (sym e) r

first_message : (types : List ℕ) (i : Item) (items : List Item) → is_newkeys i ≡ false → type_of i ≡ 20 → IsBlock types (epoch_items zero items) (exchange_block zero items) → IsBlock (20 ∷ types) (from_exchange (epoch_items zero (i ∷ items))) (exchange_block zero (i ∷ items))
first_message types i items e t r =
    let k : is_kex_type (type_of i) ≡ true = kex_by i 20 true t refl in
    subst (λ b. IsBlock (20 ∷ types) (from_exchange (if b then i ∷ [] else i ∷ epoch_items zero items)) (if b then i.payload ∷ [] else if is_kex_type (type_of i) then i.payload ∷ exchange_block zero items else exchange_block zero items)) (sym e)
    (subst (λ b. IsBlock (20 ∷ types) (if b then i ∷ epoch_items zero items else from_exchange (epoch_items zero items)) (if b then i.payload ∷ exchange_block zero items else exchange_block zero items)) (sym k)
    (add_message 20 types i (epoch_items zero items) (exchange_block zero items) t r))

mutual
  -- a block to come, between two
  idle_block : (side : Side) (kind : Bool) (n k : ℕ) (items : List Item) → InBlocks side (λ m. kind) n [] items → k < epochs_ended items → IsBlock (order side kind) (from_exchange (epoch_items k items)) (exchange_block k items)
  idle_block side kind n k [] h l = absurd (omega (arith, l))
  idle_block side kind n k (i ∷ items) (inl h) l =
      let e : is_newkeys i ≡ false = payload_no_end (type_of i) h.0 in
      pass_payload side k (order side kind) i items e (payload_no_kex (type_of i) h.0) (idle_block side kind n k items h.1 (ends_else (is_newkeys i) (epochs_ended items) k l e))
  idle_block side kind n zero (i ∷ items) (inr h) l =
      let e : is_newkeys i ≡ false = newkeys_by i 20 false h.0 refl in
      subst (λ t. IsBlock t (from_exchange (epoch_items zero (i ∷ items))) (exchange_block zero (i ∷ items))) (order_closes side kind).1
      (first_message (behind_first (order side kind)) i items e h.0 (open_block side (λ m. kind) (suc n) (behind_first (order side kind)) items (order_closes side kind).0 h.1 (ends_else (is_newkeys i) (epochs_ended items) 0 l e)))
  idle_block side kind n (suc k) (i ∷ items) (inr h) l =
      let e : is_newkeys i ≡ false = newkeys_by i 20 false h.0 refl in
      pass_message k (order side kind) i items e (later_block side kind (suc n) k (behind_first (order side kind)) items (order_closes side kind).0 h.1 (ends_else (is_newkeys i) (epochs_ended items) (suc k) l e))

  -- a block to come, inside one
  later_block : (side : Side) (kind : Bool) (n k : ℕ) (due : List ℕ) (items : List Item) → Closes due → InBlocks side (λ m. kind) n due items → suc k < epochs_ended items → IsBlock (order side kind) (from_exchange (epoch_items (suc k) items)) (exchange_block (suc k) items)
  later_block side kind n k [] items c h l = absurd c
  later_block side kind n k (t ∷ []) [] c h l = absurd (omega (arith, l))
  later_block side kind n k (t ∷ u ∷ due) [] c h l = absurd (omega (arith, l))
  later_block side kind n k (t ∷ []) (i ∷ items) c h l =
      let e : is_newkeys i ≡ true = newkeys_by i t true h.0 (ap (λ x. x == 21) c) in
      pass_end k (order side kind) i items e (idle_block side kind n k items h.1 (omega (arith, ends_if (is_newkeys i) (epochs_ended items) (suc k) l e)))
  later_block side kind n k (t ∷ u ∷ due) (i ∷ items) c h l =
      let e : is_newkeys i ≡ false = newkeys_by i t false h.0 c.0 in
      pass_message k (order side kind) i items e (later_block side kind n k (u ∷ due) items c.2 h.1 (ends_else (is_newkeys i) (epochs_ended items) (suc k) l e))

-- block k of a wire in blocks, where its end is there
pub whole_block : (side : Side) (kind : Bool) (k : ℕ) (items : List Item) → InBlocks side (λ m. kind) 1 (order side kind) items → k < epochs_ended items → IsBlock (order side kind) (block_items k items) (exchange_block k items)
whole_block side kind zero items h l = open_block side (λ m. kind) 1 (order side kind) items (whole_closes side kind) h l
whole_block side kind (suc k) items h l = later_block side kind 1 k (order side kind) items (whole_closes side kind) h l
