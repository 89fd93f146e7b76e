-- What an open block has taken, one packet more.
use Rattle.std.proofs.Common.{◌≡◌, ◌≢◌, ◌⊎◌, inl, inr, ℕ, zero, suc, List, [], ◌∷◌, ◌++◌, length, map, drop, refl, sym, ◌∙◌, ap, arith, Some, None, Bool, true, false, if◌then◌else◌, append_assoc, append-nil, length-append}
use Rattle.std.proofs.lemmas.List.{length-map}
use Rattle.std.specs.Prelude.{slice_get}
use Rattle.ssh_wire.specs.declared.side.Side.{Side}
use Rattle.ssh_packet.specs.Sealing.{Item}
use Rattle.ssh_packet.specs.Stream.{message_type}
use Rattle.ssh_rules.specs.MessageTypes.{is_kex_type, order, type_of}
use Rattle.ssh_record.specs.Exchanges.{from_exchange}
use Rattle.ssh_blocks.specs.Blocks.{HasSeen, IsBefore, block_in, payloads_of}
use Rattle.ssh_blocks.specs.declared.block.OpenBlock.{OpenBlock}

-- ---- the packets that may belong to it

-- a packet stands before the first message of a later block
abbrev IsOutside : Bool → List Item → Item → Type 0
IsOutside later items i = (later ≡ true) × (from_exchange items ≡ []) × (is_kex_type (type_of i) ≡ false)

-- a list has one packet more, or is empty still
abbrev Grows : List Item → List Item → Item → Type 0
Grows before whole i = (whole ≡ before ++ i ∷ []) ⊎ ((before ≡ []) × (is_kex_type (type_of i) ≡ false) × (whole ≡ []))

from_more : (items : List Item) (i : Item) → Grows (from_exchange items) (from_exchange (items ++ i ∷ [])) i
from_more [] i = by (is_kex_type (type_of i)) refl where
  by : (b : Bool) → is_kex_type (type_of i) ≡ b → Grows [] (if b then i ∷ [] else []) i
  by true e = inl refl
  by false e = inr (refl, e, refl)
from_more (j ∷ items) i = by (is_kex_type (type_of j)) (from_more items i) where
  by : (b : Bool) → Grows (from_exchange items) (from_exchange (items ++ i ∷ [])) i → Grows (if b then j ∷ items else from_exchange items) (if b then j ∷ (items ++ i ∷ []) else from_exchange (items ++ i ∷ [])) i
  by true h = inl refl
  by false h = h

-- the block has one packet more, or the packet stands before it
abbrev BlockGrows : Bool → List Item → Item → Type 0
BlockGrows later items i = (block_in later (items ++ i ∷ []) ≡ block_in later items ++ i ∷ []) ⊎ (IsOutside later items i × (block_in later (items ++ i ∷ []) ≡ []))

block_more : (later : Bool) (items : List Item) (i : Item) → BlockGrows later items i
block_more false items i = inl refl
block_more true items i = by (from_more items i) where
  by : Grows (from_exchange items) (from_exchange (items ++ i ∷ [])) i → BlockGrows true items i
  by (inl e) = inl e
  by (inr h) = inr ((refl, h.0, h.1), h.2)

map_more : {A B : Type 0} (f : A → B) (xs : List A) (y : A) → map f (xs ++ y ∷ []) ≡ map f xs ++ f y ∷ []
map_more f [] y = refl
map_more f (x ∷ xs) y = ap (λ t. f x ∷ t) (map_more f xs y)

map_none : {A B : Type 0} (f : A → B) (xs : List A) → map f xs ≡ [] → xs ≡ []
map_none f [] e = refl
map_none f (x ∷ xs) e = absurd (let p : f x ∷ map f xs ≡ [] = e in cc)

-- ---- the first types of an order

get_more : (front : List ℕ) (t : ℕ) (rest order : List ℕ) → (front ++ t ∷ []) ++ rest ≡ order → slice_get order (length front) ≡ Some t
get_more [] t rest order e = ap (λ o. slice_get o 0) (sym e)
get_more (x ∷ front) t rest [] e = absurd (let p : x ∷ ((front ++ t ∷ []) ++ rest) ≡ [] = e in cc)
get_more (x ∷ front) t rest (y ∷ order) e = get_more front t rest order (let p : x ∷ ((front ++ t ∷ []) ++ rest) ≡ y ∷ order = e in cc)

first_more : (front : List ℕ) (t n : ℕ) (order : List ℕ) → n ≡ length front → front ++ drop n order ≡ order → slice_get order n ≡ Some t → (front ++ t ∷ []) ++ drop (suc n) order ≡ order
first_more front t n order l e g = append_assoc front (t ∷ []) (drop (suc n) order) ∙ (ap (λ d. front ++ d) (sym (step order n g)) ∙ e) where
  step : (o : List ℕ) (k : ℕ) → slice_get o k ≡ Some t → drop k o ≡ t ∷ drop (suc k) o
  step [] k h = absurd (let p : None ≡ Some t = h in cc)
  step (x ∷ o) zero h = (let p : Some x ≡ Some t = h in let q : x ≡ t = cc in ap (λ y. y ∷ o) q)
  step (x ∷ o) (suc k) h = step o k h

drop_whole : (o : List ℕ) (n : ℕ) → n ≡ length o → drop n o ≡ []
drop_whole [] zero e = refl
drop_whole [] (suc n) e = absurd (omega (arith, e))
drop_whole (x ∷ o) zero e = absurd (omega (arith, e))
drop_whole (x ∷ o) (suc n) e = drop_whole o n (omega (arith, e))

types_more : (later : Bool) (items : List Item) (i : Item) → block_in later (items ++ i ∷ []) ≡ block_in later items ++ i ∷ [] → map type_of (block_in later (items ++ i ∷ [])) ≡ map type_of (block_in later items) ++ type_of i ∷ []
types_more later items i e = ap (λ x. map type_of x) e ∙ map_more type_of (block_in later items) i

-- as many types as messages are kept
as_many : (later : Bool) (items : List Item) (kept : List (List ℕ)) → kept ≡ payloads_of (block_in later items) → length kept ≡ length (map type_of (block_in later items))
as_many later items kept e = ap length e ∙ (length-map (block_in later items) (λ (j : Item). j.payload) ∙ sym (length-map (block_in later items) type_of))

true_not_false : {A : Type 0} (b : Bool) → b ≡ true → b ≡ false → A
true_not_false b e f = absurd (let p : true ≡ false = sym e ∙ f in cc)

-- ---- nothing yet

no_items : (later : Bool) → block_in later [] ≡ []
no_items true = refl
no_items false = refl

pub seen_none : (side : Side) (kind later : Bool) (b : OpenBlock) → b.order.now ≡ order side kind → b.is_later ≡ later → b.messages.items ≡ [] → b.is_broken ≡ false → HasSeen side kind later [] b
seen_none side kind later b o l m n = record {
  order_is = o;
  later_is = l;
  kept = λ e. m ∙ sym (ap payloads_of (no_items later));
  first = λ e. ap (λ x. map type_of x ++ drop (length b.messages.items) (order side kind)) (no_items later) ∙ ap (λ x. drop (length x) (order side kind)) m;
  broken = λ e. true_not_false b.is_broken e n;
}

-- ---- one packet more

same_type : (i : Item) (p : List ℕ) → i.payload ≡ p → type_of i ≡ message_type p
same_type i p e = ap message_type e

types_before : (front : List ℕ) (t : ℕ) (rest order : List ℕ) → (front ++ t ∷ []) ++ rest ≡ order → front ++ (t ∷ rest) ≡ order
types_before front t rest order e = sym (append_assoc front (t ∷ []) rest) ∙ e

-- a broken one stays broken
pub stays_broken : (side : Side) (kind later : Bool) (items : List Item) (i : Item) (b : OpenBlock) → b.is_broken ≡ true → HasSeen side kind later items b → HasSeen side kind later (items ++ i ∷ []) b
stays_broken side kind later items i b e h = record {
  order_is = h.order_is;
  later_is = h.later_is;
  kept = λ f. true_not_false b.is_broken e f;
  first = λ f. true_not_false b.is_broken e f;
  broken = λ f rest g. elim (block_more later items i) [
    | inl m ↦ h.broken e (type_of i ∷ rest) (types_before (map type_of (block_in later items)) (type_of i) rest (order side kind) (ap (λ x. x ++ rest) (sym (types_more later items i m)) ∙ g))
    | inr m ↦ h.broken e (order side kind) (ap (λ x. map type_of x ++ order side kind) (outside_none later items i m.0))
  ];
} where
  outside_none : (later : Bool) (items : List Item) (i : Item) → IsOutside later items i → block_in later items ≡ []
  outside_none true items i o = o.1
  outside_none false items i o = absurd (let p : false ≡ true = o.0 in cc)

-- a packet before the first message belongs to none
pub stays_before : (side : Side) (kind later : Bool) (items : List Item) (i : Item) (payload : List ℕ) (b : OpenBlock) → i.payload ≡ payload → b.is_broken ≡ false → IsBefore b (message_type payload) → HasSeen side kind later items b → HasSeen side kind later (items ++ i ∷ []) b
stays_before side kind later items i payload b same n before h =
    let is_later : later ≡ true = sym h.later_is ∙ before.later in
    let payloads : b.messages.items ≡ payloads_of (from_exchange items) = h.kept n ∙ ap (λ x. payloads_of (block_in x items)) is_later in
    let none : from_exchange items ≡ [] = map_none (λ (j : Item). j.payload) (from_exchange items) (sym payloads ∙ before.empty) in
    let still : from_exchange (items ++ i ∷ []) ≡ [] = of_none items none in
    let whole : block_in later (items ++ i ∷ []) ≡ block_in later items = ap (λ x. block_in x (items ++ i ∷ [])) is_later ∙ (still ∙ (sym none ∙ ap (λ x. block_in x items) (sym is_later))) in
    record {
      order_is = h.order_is;
      later_is = h.later_is;
      kept = λ f. h.kept f ∙ ap payloads_of (sym whole);
      first = λ f. ap (λ x. map type_of x ++ drop (length b.messages.items) (order side kind)) whole ∙ h.first f;
      broken = λ f. true_not_false b.is_broken f n;
    }
  where
    plain : is_kex_type (type_of i) ≡ false
    plain = ap is_kex_type (same_type i payload same) ∙ before.other

    single : (b : Bool) → b ≡ false → (if b then i ∷ [] else []) ≡ []
    single false e = refl
    single true e = absurd (let p : true ≡ false = e in cc)

    of_none : (items : List Item) → from_exchange items ≡ [] → from_exchange (items ++ i ∷ []) ≡ []
    of_none [] e = single (is_kex_type (type_of i)) plain
    of_none (j ∷ items) e = step (is_kex_type (type_of j)) e (of_none items) where
      step : (b : Bool) → (if b then j ∷ items else from_exchange items) ≡ [] → (from_exchange items ≡ [] → from_exchange (items ++ i ∷ []) ≡ []) → (if b then j ∷ (items ++ i ∷ []) else from_exchange (items ++ i ∷ [])) ≡ []
      step true f g = absurd (let p : j ∷ items ≡ [] = f in cc)
      step false f g = g f

-- any other belongs to the block, or breaks it
inside : (side : Side) (kind later : Bool) (items : List Item) (i : Item) (payload : List ℕ) (b : OpenBlock) → i.payload ≡ payload → b.is_broken ≡ false → (IsBefore b (message_type payload) → ⊥) → HasSeen side kind later items b → block_in later (items ++ i ∷ []) ≡ block_in later items ++ i ∷ []
inside side kind later items i payload b same n before h = elim (block_more later items i) [
  | inl m ↦ m
  | inr m ↦ absurd (before (record {
    later = h.later_is ∙ m.0.0;
    empty = h.kept n ∙ (ap (λ x. payloads_of (block_in x items)) m.0.0 ∙ ap payloads_of m.0.1);
    other = ap is_kex_type (sym (same_type i payload same)) ∙ m.0.2;
  }))
]

-- one whose type isn't due breaks it
pub breaks : (side : Side) (kind later : Bool) (items : List Item) (i : Item) (payload : List ℕ) (old new : OpenBlock) → i.payload ≡ payload → old.is_broken ≡ false → (IsBefore old (message_type payload) → ⊥)
    → (slice_get old.order.now (length old.messages.items) ≡ Some (message_type payload) → ⊥) → new.order.now ≡ old.order.now → new.is_later ≡ old.is_later → new.is_broken ≡ true → HasSeen side kind later items old → HasSeen side kind later (items ++ i ∷ []) new
breaks side kind later items i payload old new same n before other o l e h =
    let more = inside side kind later items i payload old same n before h in
    record {
      order_is = o ∙ h.order_is;
      later_is = l ∙ h.later_is;
      kept = λ f. true_not_false new.is_broken e f;
      first = λ f. true_not_false new.is_broken e f;
      broken = λ f rest g. other (
          ap (λ x. slice_get x (length old.messages.items)) h.order_is
          ∙ (ap (λ k. slice_get (order side kind) k) (as_many later items old.messages.items (h.kept n))
          ∙ (get_more (map type_of (block_in later items)) (type_of i) rest (order side kind) (ap (λ x. x ++ rest) (sym (types_more later items i more)) ∙ g)
          ∙ ap Some (same_type i payload same))));
    }

-- one whose type is due is its next message
pub keeps : (side : Side) (kind later : Bool) (items : List Item) (i : Item) (payload : List ℕ) (old new : OpenBlock) → i.payload ≡ payload → old.is_broken ≡ false → (IsBefore old (message_type payload) → ⊥)
    → slice_get old.order.now (length old.messages.items) ≡ Some (message_type payload) → new.order.now ≡ old.order.now → new.is_later ≡ old.is_later → new.is_broken ≡ false → new.messages.items ≡ old.messages.items ++ payload ∷ []
    → HasSeen side kind later items old → HasSeen side kind later (items ++ i ∷ []) new
keeps side kind later items i payload old new same n before due o l e m h =
    let more = inside side kind later items i payload old same n before h in
    let long : length new.messages.items ≡ suc (length old.messages.items) = ap length m ∙ omega (arith, length-append old.messages.items (payload ∷ [])) in
    record {
      order_is = o ∙ h.order_is;
      later_is = l ∙ h.later_is;
      kept = λ f. m ∙ (ap (λ x. x ++ payload ∷ []) (h.kept n) ∙ (ap (λ p. payloads_of (block_in later items) ++ p ∷ []) (sym same)
          ∙ (sym (map_more (λ (j : Item). j.payload) (block_in later items) i) ∙ ap payloads_of (sym more))));
      first = λ f. ap (λ k. map type_of (block_in later (items ++ i ∷ [])) ++ drop k (order side kind)) long
          ∙ (ap (λ x. x ++ drop (suc (length old.messages.items)) (order side kind)) (types_more later items i more)
          ∙ first_more (map type_of (block_in later items)) (type_of i) (length old.messages.items) (order side kind) (as_many later items old.messages.items (h.kept n)) (h.first n)
          (ap (λ x. slice_get x (length old.messages.items)) (sym h.order_is) ∙ (due ∙ ap Some (sym (same_type i payload same)))));
      broken = λ f. true_not_false new.is_broken f e;
    }

-- ---- whole

pub seen_whole : (side : Side) (kind later : Bool) (items : List Item) (b : OpenBlock) → b.is_broken ≡ false → length b.messages.items ≡ length b.order.now → HasSeen side kind later items b → (map type_of (block_in later items) ≡ order side kind) × (b.messages.items ≡ payloads_of (block_in later items))
seen_whole side kind later items b n l h = (
  sym (append-nil (map type_of (block_in later items))) ∙ (ap (λ d. map type_of (block_in later items) ++ d) (sym (drop_whole (order side kind) (length b.messages.items) (l ∙ ap length h.order_is))) ∙ h.first n),
  h.kept n,
)

pub broken_part : (side : Side) (kind later : Bool) (items : List Item) (b : OpenBlock) → b.is_broken ≡ true → HasSeen side kind later items b → map type_of (block_in later items) ≡ order side kind → ⊥
broken_part side kind later items b e h g = h.broken e [] (append-nil (map type_of (block_in later items)) ∙ g)

pub short_part : (side : Side) (kind later : Bool) (items : List Item) (b : OpenBlock) → b.is_broken ≡ false → length b.messages.items ≢ length b.order.now → HasSeen side kind later items b → map type_of (block_in later items) ≡ order side kind → ⊥
short_part side kind later items b n l h g = l (as_many later items b.messages.items (h.kept n) ∙ (ap length g ∙ ap length (sym h.order_is)))
