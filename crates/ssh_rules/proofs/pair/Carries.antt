-- The prefix theorem: where all exchanges are strict and the tags of what one side opened are the other's, what it
-- delivered is the first that the other submitted.
use Rattle.std.proofs.Common.{◌≡◌, ℕ, zero, suc, ◌+◌, ◌^◌, ◌<◌, ◌≤◌, List, [], ◌∷◌, ◌++◌, map, refl, sym, ◌∙◌, ap, subst, arith, Some, None, Bool, true, false, if◌then◌else◌, ◌⊎◌, inl, inr, append_assoc}
use Rattle.std.specs.Prelude.{filter}
use Rattle.ssh_packet.specs.Sealing.{Item, next_number, moved_on}
use Rattle.ssh_packet.specs.Stream.{Opening, Place, ReadsBy, first_place, next_place, kept_number, place_by, is_newkeys, message_type}
use Rattle.ssh_rules.specs.MessageTypes.{type_of, is_payload_type}
use Rattle.ssh_rules.specs.Wire.{carried_payloads, HasFront}
use Rattle.ssh_rules.specs.Placed.{PlacedPacket, IsAmong, placed_by, epoch_after, AreWritten}
use Rattle.ssh_packet.specs.Stream.{by_type}
use Rattle.ssh_rules.specs.Attacked.{until_end}
use Rattle.ssh_rules.specs.Fresh.{packets_at}
use Rattle.ssh_rules.proofs.pair.Prefix.{keyed, keyed_by, AreFew, PlainFor, small_next, few_on, opened_prefix, filter_starts}

abbrev pub AllStrict : List Opening → Type 0
AllStrict [] = Unit {0}
AllStrict (o ∷ openings) = (o.strict ≡ true) × AllStrict openings

-- under strict exchanges the numbers begin at 0 behind each end
pub numbered : (E : List Item → Item → Bool) (before : List Item) (k : ℕ) (at : Place) (items : List Item) (bytes rest : List ℕ) → AllStrict at.openings → ReadsBy E before (Some at) items bytes rest → placed_by E before k (Some at) items ≡ keyed_by E before k at.number items
numbered E before k at [] bytes rest s r = refl
numbered E before k at (i ∷ items) bytes rest s r =
    ap (λ t. (record { epoch = k; number = at.number; payload = i.payload }) ∷ t) (by (E before i) r.3 (λ k' p u v. numbered E (before ++ i ∷ []) k' p items r.0 rest u v))
  where
    Goes : ℕ → Place → Type 0
    Goes k' p = AllStrict p.openings → ReadsBy E (before ++ i ∷ []) (Some p) items r.0 rest → placed_by E (before ++ i ∷ []) k' (Some p) items ≡ keyed_by E (before ++ i ∷ []) k' p.number items

    none : (xs : List Item) → ReadsBy E (before ++ i ∷ []) None xs r.0 rest → placed_by E (before ++ i ∷ []) (suc k) None xs ≡ keyed_by E (before ++ i ∷ []) (suc k) 0 xs
    none [] h = refl
    none (x ∷ xs) h = absurd h

    at_end : (openings : List Opening) → AllStrict openings → ReadsBy E (before ++ i ∷ []) (next_place openings (next_number at.number)) items r.0 rest → ((k' : ℕ) (p : Place) → Goes k' p) → placed_by E (before ++ i ∷ []) (suc k) (next_place openings (next_number at.number)) items ≡ keyed_by E (before ++ i ∷ []) (suc k) 0 items
    at_end [] u v go = none items v
    at_end (o ∷ openings) u v go = go (suc k) (record { sealing = o.sealing; number = kept_number o.strict (next_number at.number); openings = openings }) u.1 v ∙ ap (λ b. keyed_by E (before ++ i ∷ []) (suc k) (kept_number b (next_number at.number)) items) u.0

    by : (b : Bool) → ReadsBy E (before ++ i ∷ []) (place_by b at i) items r.0 rest → ((k' : ℕ) (p : Place) → Goes k' p) → placed_by E (before ++ i ∷ []) (epoch_after b k) (place_by b at i) items ≡ (if b then keyed_by E (before ++ i ∷ []) (suc k) 0 items else keyed_by E (before ++ i ∷ []) k (next_number at.number) items)
    by true v go = at_end at.openings s v go
    by false v go = go k (record { sealing = moved_on at.sealing i; number = next_number at.number; openings = at.openings }) s v

-- the writer's numbers don't wrap
pub typed : (before : List Item) (k n : ℕ) (W : List Item) → AreFew (keyed k n W) → keyed_by by_type before k n W ≡ keyed k n W
typed before k n [] few = refl
typed before k n (j ∷ W) few =
    ap (λ t. (record { epoch = k; number = n; payload = j.payload }) ∷ t) (by (is_newkeys j) refl (λ f. typed (before ++ j ∷ []) (suc k) 0 W f) (λ f. typed (before ++ j ∷ []) k (n + 1) W f))
  where
    by : (b : Bool) → is_newkeys j ≡ b → (AreFew (keyed (suc k) 0 W) → keyed_by by_type (before ++ j ∷ []) (suc k) 0 W ≡ keyed (suc k) 0 W) → (AreFew (keyed k (n + 1) W) → keyed_by by_type (before ++ j ∷ []) k (n + 1) W ≡ keyed k (n + 1) W) → (if b then keyed_by by_type (before ++ j ∷ []) (suc k) 0 W else keyed_by by_type (before ++ j ∷ []) k (next_number n) W) ≡ (if b then keyed (suc k) 0 W else keyed k (n + 1) W)
    by true e f g = f (few_on k n j W true e few)
    by false e f g = ap (λ m. keyed_by by_type (before ++ j ∷ []) k m W) (small_next n (few (record { epoch = k; number = n; payload = j.payload }) (inl refl))) ∙ g (few_on k n j W false e few)

-- ---- behind the first end

abbrev pub behind_end : (List Item → Item → Bool) → List Item → List Item → List Item
behind_end E before [] = []
behind_end E before (i ∷ items) = if E before i then items else behind_end E (before ++ i ∷ []) items

pub split_at_end : (E : List Item → Item → Bool) (before R : List Item) → until_end E before R ++ behind_end E before R ≡ R
split_at_end E before [] = refl
split_at_end E before (i ∷ R) = by (E before i) (split_at_end E (before ++ i ∷ []) R) where
  by : (b : Bool) → until_end E (before ++ i ∷ []) R ++ behind_end E (before ++ i ∷ []) R ≡ R → (if b then i ∷ [] else i ∷ until_end E (before ++ i ∷ []) R) ++ (if b then R else behind_end E (before ++ i ∷ []) R) ≡ i ∷ R
  by true h = refl
  by false h = ap (λ t. i ∷ t) h

later_by : (E : List Item → Item → Bool) (before : List Item) (k n : ℕ) (R : List Item) (p : PlacedPacket) → IsAmong (keyed_by E (before ++ until_end E before R) (suc k) 0 (behind_end E before R)) p → IsAmong (keyed_by E before k n R) p
later_by E before k n [] p h = absurd h
later_by E before k n (i ∷ R) p h = inr (by (E before i) h (later_by E (before ++ i ∷ []) k (next_number n) R p)) where
  by : (b : Bool) → IsAmong (keyed_by E (before ++ (if b then i ∷ [] else i ∷ until_end E (before ++ i ∷ []) R)) (suc k) 0 (if b then R else behind_end E (before ++ i ∷ []) R)) p → (IsAmong (keyed_by E ((before ++ i ∷ []) ++ until_end E (before ++ i ∷ []) R) (suc k) 0 (behind_end E (before ++ i ∷ []) R)) p → IsAmong (keyed_by E (before ++ i ∷ []) k (next_number n) R) p) → IsAmong (if b then keyed_by E (before ++ i ∷ []) (suc k) 0 R else keyed_by E (before ++ i ∷ []) k (next_number n) R) p
  by true h f = h
  by false h f = f (subst (λ l. IsAmong (keyed_by E l (suc k) 0 (behind_end E (before ++ i ∷ []) R)) p) (sym (append_assoc before (i ∷ []) (until_end E (before ++ i ∷ []) R))) h)

from_epoch : (E : List Item → Item → Bool) (before : List Item) (k n : ℕ) (R : List Item) (p : PlacedPacket) → IsAmong (keyed_by E before k n R) p → k ≤ p.epoch
from_epoch E before k n [] p h = absurd h
from_epoch E before k n (i ∷ R) p (inl e) = (let m : p.epoch ≡ k = ap (λ (q : PlacedPacket). q.epoch) e in omega (arith, m))
from_epoch E before k n (i ∷ R) p (inr h) = by (E before i) h (from_epoch E (before ++ i ∷ []) (suc k) 0 R p) (from_epoch E (before ++ i ∷ []) k (next_number n) R p) where
  by : (b : Bool) → IsAmong (if b then keyed_by E (before ++ i ∷ []) (suc k) 0 R else keyed_by E (before ++ i ∷ []) k (next_number n) R) p → (IsAmong (keyed_by E (before ++ i ∷ []) (suc k) 0 R) p → suc k ≤ p.epoch) → (IsAmong (keyed_by E (before ++ i ∷ []) k (next_number n) R) p → k ≤ p.epoch) → k ≤ p.epoch
  by true h f g = (let m = f h in omega (arith, m))
  by false h f g = g h

-- a packet of a later epoch stands behind the first end
in_later : (before : List Item) (k n : ℕ) (W : List Item) (p : PlacedPacket) → IsAmong (keyed k n W) p → k < p.epoch → IsAmong (keyed (suc k) 0 (behind_end by_type before W)) p
in_later before k n [] p h l = absurd h
in_later before k n (j ∷ W) p (inl e) l = absurd (let m : p.epoch ≡ k = ap (λ (q : PlacedPacket). q.epoch) e in omega (arith, m, l))
in_later before k n (j ∷ W) p (inr h) l = by (is_newkeys j) h (λ q. in_later (before ++ j ∷ []) k (n + 1) W p q l) where
  by : (b : Bool) → IsAmong (if b then keyed (suc k) 0 W else keyed k (n + 1) W) p → (IsAmong (keyed k (n + 1) W) p → IsAmong (keyed (suc k) 0 (behind_end by_type (before ++ j ∷ []) W)) p) → IsAmong (keyed (suc k) 0 (if b then W else behind_end by_type (before ++ j ∷ []) W)) p
  by true h f = h
  by false h f = f h

of_later : (before : List Item) (k n : ℕ) (W : List Item) (p : PlacedPacket) → IsAmong (keyed (suc k) 0 (behind_end by_type before W)) p → IsAmong (keyed k n W) p
of_later before k n [] p h = absurd h
of_later before k n (j ∷ W) p h = inr (by (is_newkeys j) h (of_later (before ++ j ∷ []) k (n + 1) W p)) where
  by : (b : Bool) → IsAmong (keyed (suc k) 0 (if b then W else behind_end by_type (before ++ j ∷ []) W)) p → (IsAmong (keyed (suc k) 0 (behind_end by_type (before ++ j ∷ []) W)) p → IsAmong (keyed k (n + 1) W) p) → IsAmong (if b then keyed (suc k) 0 W else keyed k (n + 1) W) p
  by true h f = h
  by false h f = f h

-- Behind the first end, what was opened is the first that was written.
pub opened_behind : (E : List Item → Item → Bool) (rs ws : List Opening) (R W : List Item) (rbytes rrest wbytes wrest : List ℕ)
    → AllStrict rs → AllStrict ws
    → ReadsBy E [] (Some (first_place rs)) R rbytes rrest → ReadsBy by_type [] (Some (first_place ws)) W wbytes wrest
    → AreFew (keyed 0 0 W) → (behind_end E [] R ≡ []) ⊎ PlainFor E (until_end E [] R) (behind_end by_type [] W)
    → AreWritten (placed_by E [] 0 (Some (first_place rs)) R) (placed_by by_type [] 0 (Some (first_place ws)) W)
    → HasFront (map (λ (j : Item). j.payload) (behind_end by_type [] W)) (map (λ (j : Item). j.payload) (behind_end E [] R))
opened_behind E rs ws R W rbytes rrest wbytes wrest srs sws rr wr few plain all =
    elim plain [
      | inl e ↦ (map (λ (j : Item). j.payload) (behind_end by_type [] W), ap (λ l. map (λ (j : Item). j.payload) l ++ map (λ (j : Item). j.payload) (behind_end by_type [] W)) e)
      | inr q ↦ opened_prefix E (until_end E [] R) 1 0 (behind_end E [] R) (behind_end by_type [] W) [] (λ p h. absurd h) (λ p h. few p (of_later [] 0 0 W p h)) there q
    ]
  where
    there : (p : PlacedPacket) → IsAmong (keyed_by E (until_end E [] R) 1 0 (behind_end E [] R)) p → IsAmong (keyed 1 0 (behind_end by_type [] W)) p
    there p h =
        let here : IsAmong (keyed_by E [] 0 0 R) p = later_by E [] 0 0 R p h in
        let late : 1 ≤ p.epoch = from_epoch E (until_end E [] R) 1 0 (behind_end E [] R) p h in
        let was : IsAmong (placed_by by_type [] 0 (Some (first_place ws)) W) p = all p (subst (λ l. IsAmong l p) (sym (numbered E [] 0 (first_place rs) R rbytes rrest srs rr)) here) late in
        in_later [] 0 0 W p (subst (λ l. IsAmong l p) (numbered by_type [] 0 (first_place ws) W wbytes wrest sws wr ∙ typed [] 0 0 W few) was) (omega (arith, late))

-- ---- payloads

payloads_filter : (items : List Item) → carried_payloads items ≡ filter (λ p. is_payload_type (message_type p)) (map (λ (j : Item). j.payload) items)
payloads_filter [] = refl
payloads_filter (i ∷ items) = by (is_payload_type (type_of i)) (payloads_filter items) where
  by : (b : Bool) → carried_payloads items ≡ filter (λ p. is_payload_type (message_type p)) (map (λ (j : Item). j.payload) items) → map (λ (j : Item). j.payload) (if b then i ∷ filter (λ j. is_payload_type (type_of j)) items else filter (λ j. is_payload_type (type_of j)) items) ≡ (if b then i.payload ∷ filter (λ p. is_payload_type (message_type p)) (map (λ (j : Item). j.payload) items) else filter (λ p. is_payload_type (message_type p)) (map (λ (j : Item). j.payload) items))
  by true h = ap (λ t. i.payload ∷ t) h
  by false h = h

pub payloads_join : (a b : List Item) → carried_payloads (a ++ b) ≡ carried_payloads a ++ carried_payloads b
payloads_join [] b = refl
payloads_join (i ∷ a) b = by (is_payload_type (type_of i)) (payloads_join a b) where
  by : (c : Bool) → carried_payloads (a ++ b) ≡ carried_payloads a ++ carried_payloads b → map (λ (j : Item). j.payload) (if c then i ∷ filter (λ j. is_payload_type (type_of j)) (a ++ b) else filter (λ j. is_payload_type (type_of j)) (a ++ b)) ≡ map (λ (j : Item). j.payload) (if c then i ∷ filter (λ j. is_payload_type (type_of j)) a else filter (λ j. is_payload_type (type_of j)) a) ++ carried_payloads b
  by true h = ap (λ t. i.payload ∷ t) h
  by false h = h

starts_payloads : (V R : List Item) → HasFront (map (λ (j : Item). j.payload) V) (map (λ (j : Item). j.payload) R) → HasFront (carried_payloads V) (carried_payloads R)
starts_payloads V R s =
    let f = filter_starts (λ p. is_payload_type (message_type p)) (map (λ (j : Item). j.payload) V) (map (λ (j : Item). j.payload) R) s in
    (f.0, ap (λ t. t ++ f.0) (payloads_filter R) ∙ f.1 ∙ sym (payloads_filter V))

-- The prefix theorem.
pub carries_prefix : (E : List Item → Item → Bool) (rs ws : List Opening) (R W : List Item) (rbytes rrest wbytes wrest : List ℕ) (submitted : List (List ℕ))
    → AllStrict rs → AllStrict ws
    → ReadsBy E [] (Some (first_place rs)) R rbytes rrest → ReadsBy by_type [] (Some (first_place ws)) W wbytes wrest
    → AreFew (keyed 0 0 W) → (behind_end E [] R ≡ []) ⊎ PlainFor E (until_end E [] R) (behind_end by_type [] W)
    → carried_payloads (until_end E [] R) ≡ [] → carried_payloads (until_end by_type [] W) ≡ []
    → HasFront submitted (carried_payloads W)
    → AreWritten (placed_by E [] 0 (Some (first_place rs)) R) (placed_by by_type [] 0 (Some (first_place ws)) W)
    → (more : List (List ℕ)) × (carried_payloads R ++ more ≡ submitted)
carries_prefix E rs ws R W rbytes rrest wbytes wrest submitted srs sws rr wr few plain r_none w_none sub all =
    let s = starts_payloads (behind_end by_type [] W) (behind_end E [] R) (opened_behind E rs ws R W rbytes rrest wbytes wrest srs sws rr wr few plain all) in
    let whole_r : carried_payloads R ≡ carried_payloads (behind_end E [] R) = whole E R r_none in
    let whole_w : carried_payloads W ≡ carried_payloads (behind_end by_type [] W) = whole by_type W w_none in
    (s.0 ++ sub.0, sym (append_assoc (carried_payloads R) s.0 sub.0) ∙ ap (λ t. (t ++ s.0) ++ sub.0) whole_r ∙ ap (λ t. t ++ sub.0) (s.1 ∙ sym whole_w) ∙ sub.1)
  where
    whole : (F : List Item → Item → Bool) (items : List Item) → carried_payloads (until_end F [] items) ≡ [] → carried_payloads items ≡ carried_payloads (behind_end F [] items)
    whole F items h = ap carried_payloads (sym (split_at_end F [] items)) ∙ payloads_join (until_end F [] items) (behind_end F [] items) ∙ ap (λ t. t ++ carried_payloads (behind_end F [] items)) h

-- ---- numbers, by counts of packets

abbrev base : ℕ → ℕ → ℕ
base n zero = n
base n (suc d) = 0

-- a packet's number is below the count of its epoch
keyed_at : (k n : ℕ) (W : List Item) (p : PlacedPacket) → IsAmong (keyed k n W) p → (d : ℕ) × (p.epoch ≡ k + d) × (p.number < base n d + packets_at d W)
keyed_at k n [] p h = absurd h
keyed_at k n (j ∷ W) p (inl e) = (0, (let m : p.epoch ≡ k = ap (λ (q : PlacedPacket). q.epoch) e in omega (arith, m)), below (is_newkeys j) (ap (λ (q : PlacedPacket). q.number) e)) where
  below : (b : Bool) → p.number ≡ n → p.number < n + (if b then 1 else 1 + packets_at 0 W)
  below true e = omega (arith, e)
  below false e = omega (arith, e)
keyed_at k n (j ∷ W) p (inr h) = by (is_newkeys j) refl h (keyed_at (suc k) 0 W p) (keyed_at k (n + 1) W p) where
  on : (b : Bool) (d x y : ℕ) → b ≡ true → (if b then x else y) ≡ x
  on true d x y e = refl
  on false d x y e = cc

  off : (b : Bool) (x y : ℕ) → b ≡ false → (if b then x else y) ≡ y
  off true x y e = cc
  off false x y e = refl

  up : is_newkeys j ≡ true → (d : ℕ) → p.epoch ≡ suc k + d → p.number < base 0 d + packets_at d W → (d : ℕ) × (p.epoch ≡ k + d) × (p.number < base n d + packets_at d (j ∷ W))
  up e zero f l = (1, (omega (arith, f)), (let m : packets_at 1 (j ∷ W) ≡ packets_at 0 W = on (is_newkeys j) 0 (packets_at 0 W) (packets_at 1 W) e in omega (arith, m, l)))
  up e (suc d) f l = (suc (suc d), (omega (arith, f)), (let m : packets_at (suc (suc d)) (j ∷ W) ≡ packets_at (suc d) W = on (is_newkeys j) 0 (packets_at (suc d) W) (packets_at (suc (suc d)) W) e in omega (arith, m, l)))

  stay : is_newkeys j ≡ false → (d : ℕ) → p.epoch ≡ k + d → p.number < base (n + 1) d + packets_at d W → (d : ℕ) × (p.epoch ≡ k + d) × (p.number < base n d + packets_at d (j ∷ W))
  stay e zero f l = (0, f, (let m : packets_at 0 (j ∷ W) ≡ 1 + packets_at 0 W = off (is_newkeys j) 1 (1 + packets_at 0 W) e in omega (arith, m, l)))
  stay e (suc d) f l = (suc d, f, (let m : packets_at (suc d) (j ∷ W) ≡ packets_at (suc d) W = off (is_newkeys j) (packets_at d W) (packets_at (suc d) W) e in omega (arith, m, l)))

  by : (b : Bool) → is_newkeys j ≡ b → IsAmong (if b then keyed (suc k) 0 W else keyed k (n + 1) W) p → (IsAmong (keyed (suc k) 0 W) p → (d : ℕ) × (p.epoch ≡ suc k + d) × (p.number < base 0 d + packets_at d W)) → (IsAmong (keyed k (n + 1) W) p → (d : ℕ) × (p.epoch ≡ k + d) × (p.number < base (n + 1) d + packets_at d W)) → (d : ℕ) × (p.epoch ≡ k + d) × (p.number < base n d + packets_at d (j ∷ W))
  by true e h f g = (let r = f h in up e r.0 r.1 r.2)
  by false e h f g = (let r = g h in stay e r.0 r.1 r.2)

-- where no epoch has many packets no number is large
pub few_numbers : (W : List Item) → ((d : ℕ) → packets_at d W + 1 < 2 ^ 32) → AreFew (keyed 0 0 W)
few_numbers W few p h = (let r = keyed_at 0 0 W p h in at r.0 r.2 (few r.0)) where
  at : (d : ℕ) → p.number < base 0 d + packets_at d W → packets_at d W + 1 < 2 ^ 32 → p.number + 1 < 2 ^ 32
  at zero l m = omega (arith, l, m)
  at (suc d) l m = omega (arith, l, m)
