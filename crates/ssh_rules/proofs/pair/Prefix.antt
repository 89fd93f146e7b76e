-- Where each packet that was opened is, in epoch, number and payload, one that the other wrote, the payloads that were
-- opened are the first that the other wrote.
use Rattle.std.proofs.Common.{◌≡◌, ℕ, suc, ◌+◌, ◌^◌, ◌<◌, ◌≤◌, List, [], ◌∷◌, ◌++◌, map, refl, sym, ◌∙◌, ap, subst, arith, Bool, true, false, if◌then◌else◌, ◌==◌, ◌⊎◌, inl, inr, append_assoc, append-nil}
use Rattle.std.specs.Prelude.{filter}
use Rattle.ssh_packet.specs.Sealing.{Item, next_number}
use Rattle.ssh_packet.specs.Stream.{is_newkeys, message_type}
use Rattle.ssh_rules.specs.Wire.{HasFront}
use Rattle.ssh_rules.specs.Placed.{PlacedPacket, IsAmong}

-- where the numbers of each epoch begin at 0: the packets with their epochs and numbers
abbrev pub keyed : ℕ → ℕ → List Item → List PlacedPacket
keyed k n [] = []
keyed k n (i ∷ items) = record { epoch = k; number = n; payload = i.payload } ∷ (if is_newkeys i then keyed (suc k) 0 items else keyed k (n + 1) items)

-- the same where a test says which packet ends an epoch, and numbers are counted modulo 2^32
abbrev pub keyed_by : (List Item → Item → Bool) → List Item → ℕ → ℕ → List Item → List PlacedPacket
keyed_by E before k n [] = []
keyed_by E before k n (i ∷ items) = record { epoch = k; number = n; payload = i.payload } ∷ (if E before i then keyed_by E (before ++ i ∷ []) (suc k) 0 items else keyed_by E (before ++ i ∷ []) k (next_number n) items)

-- it stands before the packet with this epoch and number, or not
abbrev pub IsBefore : ℕ → ℕ → PlacedPacket → Type 0
IsBefore k n p = (p.epoch < k) ⊎ ((p.epoch ≡ k) × (p.number < n))

abbrev pub IsBehind : ℕ → ℕ → PlacedPacket → Type 0
IsBehind k n p = (k < p.epoch) ⊎ ((p.epoch ≡ k) × (n ≤ p.number))

-- what follows is behind
keyed_behind : (k n : ℕ) (items : List Item) (p : PlacedPacket) → IsAmong (keyed k n items) p → IsBehind k n p
keyed_behind k n [] p h = absurd h
keyed_behind k n (i ∷ items) p (inl e) = inr (ap (λ (q : PlacedPacket). q.epoch) e, (let m : p.number ≡ n = ap (λ (q : PlacedPacket). q.number) e in omega (arith, m)))
keyed_behind k n (i ∷ items) p (inr h) = by_end (is_newkeys i) h (keyed_behind (suc k) 0 items p) (keyed_behind k (n + 1) items p) where
  by_end : (b : Bool) → IsAmong (if b then keyed (suc k) 0 items else keyed k (n + 1) items) p → (IsAmong (keyed (suc k) 0 items) p → IsBehind (suc k) 0 p) → (IsAmong (keyed k (n + 1) items) p → IsBehind k (n + 1) p) → IsBehind k n p
  by_end true h f g = elim (f h) [ inl l ↦ inl (omega (arith, l)) | inr e ↦ inl (omega (arith, e.0)) ]
  by_end false h f g = elim (g h) [ inl l ↦ inl l | inr e ↦ inr (e.0, omega (arith, e.1)) ]

before_not_at : (k n : ℕ) (p : PlacedPacket) → IsBefore k n p → p.epoch ≡ k → p.number ≡ n → ⊥
before_not_at k n p (inl l) e f = omega (arith, l, e)
before_not_at k n p (inr l) e f = omega (arith, l.1, f)

before_on : (b : Bool) (k n : ℕ) (p : PlacedPacket) → IsBefore k n p → IsBefore (if b then suc k else k) (if b then 0 else n + 1) p
before_on true k n p (inl l) = inl (omega (arith, l))
before_on true k n p (inr l) = inl (omega (arith, l.0))
before_on false k n p (inl l) = inl l
before_on false k n p (inr l) = inr (l.0, omega (arith, l.1))

has_cases : (xs ys : List PlacedPacket) (p : PlacedPacket) → IsAmong (xs ++ ys) p → IsAmong xs p ⊎ IsAmong ys p
has_cases [] ys p h = inr h
has_cases (x ∷ xs) ys p (inl e) = inl (inl e)
has_cases (x ∷ xs) ys p (inr h) = elim (has_cases xs ys p h) [ inl a ↦ inl (inr a) | inr b ↦ inr b ]

-- no number of the writer's reaches 2^32
abbrev pub AreFew : List PlacedPacket → Type 0
AreFew ps = (p : PlacedPacket) → IsAmong ps p → p.number + 1 < 2 ^ 32

-- the reader's test is plain on what the writer wrote, where all before it is the writer's
abbrev pub PlainFor : (List Item → Item → Bool) → List Item → List Item → Type 0
PlainFor E before W = (r : List Item) (i : Item) → HasFront (map (λ (j : Item). j.payload) W) (map (λ (j : Item). j.payload) (r ++ i ∷ [])) → E (before ++ r) i ≡ is_newkeys i

same_newkeys : (i j : Item) → i.payload ≡ j.payload → is_newkeys i ≡ is_newkeys j
same_newkeys i j e = ap (λ p. message_type p == 21) e

pub small_next : (n : ℕ) → n + 1 < 2 ^ 32 → next_number n ≡ n + 1
small_next n h = omega (arith, h)

cons_starts : (p q : List ℕ) (xs ys : List (List ℕ)) → p ≡ q → HasFront ys xs → HasFront (q ∷ ys) (p ∷ xs)
cons_starts p q xs ys e s = (s.0, ap (λ t. p ∷ t) s.1 ∙ ap (λ z. z ∷ ys) e)

plain_on : (E : List Item → Item → Bool) (before : List Item) (i j : Item) (W : List Item) → i.payload ≡ j.payload → PlainFor E before (j ∷ W) → PlainFor E (before ++ i ∷ []) W
plain_on E before i j W same pl r q s = ap (λ x. E x q) (append_assoc before (i ∷ []) r) ∙ pl (i ∷ r) q (cons_starts i.payload j.payload _ _ same s)

pub few_on : (k n : ℕ) (j : Item) (W : List Item) (b : Bool) → is_newkeys j ≡ b → AreFew (keyed k n (j ∷ W)) → AreFew (if b then keyed (suc k) 0 W else keyed k (n + 1) W)
few_on k n j W b e few p h = few p (inr (subst (λ c. IsAmong (if c then keyed (suc k) 0 W else keyed k (n + 1) W) p) (sym e) h))

old_on : (k n : ℕ) (b : Bool) (old : List PlacedPacket) (payload : List ℕ) → ((p : PlacedPacket) → IsAmong old p → IsBefore k n p) → (p : PlacedPacket) → IsAmong (old ++ (record { epoch = k; number = n; payload = payload }) ∷ []) p → IsBefore (if b then suc k else k) (if b then 0 else n + 1) p
old_on k n b old payload o p h = elim (has_cases old _ p h) [
  | inl a ↦ before_on b k n p (o p a)
  | inr c ↦ elim c [ inl e ↦ last b (ap (λ (q : PlacedPacket). q.epoch) e) (ap (λ (q : PlacedPacket). q.number) e) | inr z ↦ absurd z ]
] where
  last : (b : Bool) → p.epoch ≡ k → p.number ≡ n → IsBefore (if b then suc k else k) (if b then 0 else n + 1) p
  last true e f = inl (omega (arith, e))
  last false e f = inr (e, omega (arith, f))

joined_on : (old rest : List PlacedPacket) (x p : PlacedPacket) → IsAmong (old ++ x ∷ rest) p → IsAmong ((old ++ x ∷ []) ++ rest) p
joined_on old rest x p h = subst (λ l. IsAmong l p) (sym (append_assoc old (x ∷ []) rest)) h

-- The step: at the same epoch and number, what is opened next is what was written next.
pub opened_prefix : (E : List Item → Item → Bool) (before : List Item) (k n : ℕ) (R W : List Item) (old : List PlacedPacket)
    → ((p : PlacedPacket) → IsAmong old p → IsBefore k n p)
    → AreFew (keyed k n W)
    → ((p : PlacedPacket) → IsAmong (keyed_by E before k n R) p → IsAmong (old ++ keyed k n W) p)
    → PlainFor E before W
    → HasFront (map (λ (j : Item). j.payload) W) (map (λ (j : Item). j.payload) R)
opened_prefix E before k n [] W old o few h pl = (map (λ (j : Item). j.payload) W, refl)
opened_prefix E before k n (i ∷ R) [] old o few h pl =
    absurd (elim (has_cases old [] (record { epoch = k; number = n; payload = i.payload }) (h (record { epoch = k; number = n; payload = i.payload }) (inl refl))) [
      | inl a ↦ before_not_at k n (record { epoch = k; number = n; payload = i.payload }) (o _ a) refl refl
      | inr b ↦ b
    ])
opened_prefix E before k n (i ∷ R) (j ∷ W) old o few h pl =
    let here : PlacedPacket = record { epoch = k; number = n; payload = i.payload } in
    let there : PlacedPacket = record { epoch = k; number = n; payload = j.payload } in
    let same : i.payload ≡ j.payload = elim (has_cases old (keyed k n (j ∷ W)) here (h here (inl refl))) [
      | inl a ↦ absurd (before_not_at k n here (o here a) refl refl)
      | inr b ↦ first b
    ] in
    let epochs_ended : E before i ≡ is_newkeys j = ap (λ x. E x i) (sym (append-nil before)) ∙ (pl [] i (map (λ (q : Item). q.payload) W, ap (λ x. x ∷ map (λ (q : Item). q.payload) W) same) ∙ same_newkeys i j same) in
    let next : next_number n ≡ n + 1 = small_next n (few there (inl refl)) in
    let inner : (p : PlacedPacket) → IsAmong (if E before i then keyed_by E (before ++ i ∷ []) (suc k) 0 R else keyed_by E (before ++ i ∷ []) k (next_number n) R) p → IsAmong ((old ++ there ∷ []) ++ (if is_newkeys j then keyed (suc k) 0 W else keyed k (n + 1) W)) p = λ p q. joined_on old _ there p (h p (inr q)) in
    cons_starts i.payload j.payload _ _ same (go (is_newkeys j) (E before i) refl epochs_ended (next_number n) next inner
    (λ f g u. opened_prefix E (before ++ i ∷ []) (suc k) 0 R W (old ++ there ∷ []) u f g (plain_on E before i j W same pl))
    (λ f g u. opened_prefix E (before ++ i ∷ []) k (n + 1) R W (old ++ there ∷ []) u f g (plain_on E before i j W same pl)))
  where
    first : IsAmong (keyed k n (j ∷ W)) (record { epoch = k; number = n; payload = i.payload }) → i.payload ≡ j.payload
    first (inl e) = ap (λ (q : PlacedPacket). q.payload) e
    first (inr t) = absurd (later (is_newkeys j) t) where
      later : (b : Bool) → IsAmong (if b then keyed (suc k) 0 W else keyed k (n + 1) W) (record { epoch = k; number = n; payload = i.payload }) → ⊥
      later true t = elim (keyed_behind (suc k) 0 W _ t) [ inl l ↦ omega (arith, l) | inr e ↦ omega (arith, e.0) ]
      later false t = elim (keyed_behind k (n + 1) W _ t) [ inl l ↦ omega (arith, l) | inr e ↦ omega (arith, e.1) ]

    go : (b d : Bool) → is_newkeys j ≡ b → d ≡ b → (m : ℕ) → m ≡ n + 1
        → ((p : PlacedPacket) → IsAmong (if d then keyed_by E (before ++ i ∷ []) (suc k) 0 R else keyed_by E (before ++ i ∷ []) k m R) p → IsAmong ((old ++ (record { epoch = k; number = n; payload = j.payload }) ∷ []) ++ (if b then keyed (suc k) 0 W else keyed k (n + 1) W)) p)
        → (AreFew (keyed (suc k) 0 W) → ((p : PlacedPacket) → IsAmong (keyed_by E (before ++ i ∷ []) (suc k) 0 R) p → IsAmong ((old ++ (record { epoch = k; number = n; payload = j.payload }) ∷ []) ++ keyed (suc k) 0 W) p) → ((p : PlacedPacket) → IsAmong (old ++ (record { epoch = k; number = n; payload = j.payload }) ∷ []) p → IsBefore (suc k) 0 p) → HasFront (map (λ (q : Item). q.payload) W) (map (λ (q : Item). q.payload) R))
        → (AreFew (keyed k (n + 1) W) → ((p : PlacedPacket) → IsAmong (keyed_by E (before ++ i ∷ []) k (n + 1) R) p → IsAmong ((old ++ (record { epoch = k; number = n; payload = j.payload }) ∷ []) ++ keyed k (n + 1) W) p) → ((p : PlacedPacket) → IsAmong (old ++ (record { epoch = k; number = n; payload = j.payload }) ∷ []) p → IsBefore k (n + 1) p) → HasFront (map (λ (q : Item). q.payload) W) (map (λ (q : Item). q.payload) R))
        → HasFront (map (λ (q : Item). q.payload) W) (map (λ (q : Item). q.payload) R)
    go true true e f m g inner r s = r (few_on k n j W true e few) inner (old_on k n true old j.payload o)
    go false false e f m g inner r s = s (few_on k n j W false e few) (subst (λ x. (p : PlacedPacket) → IsAmong (keyed_by E (before ++ i ∷ []) k x R) p → IsAmong ((old ++ (record { epoch = k; number = n; payload = j.payload }) ∷ []) ++ keyed k (n + 1) W) p) g inner) (old_on k n false old j.payload o)
    go true false e f m g inner r s = cc
    go false true e f m g inner r s = cc

-- ---- payloads

pub filter_starts : (p : List ℕ → Bool) (ys xs : List (List ℕ)) → HasFront ys xs → HasFront (filter p ys) (filter p xs)
filter_starts p ys [] s = (filter p ys, refl)
filter_starts p [] (x ∷ xs) s = absurd (let e : x ∷ (xs ++ s.0) ≡ [] = s.1 in cc)
filter_starts p (y ∷ ys) (x ∷ xs) s =
    let e : x ≡ y = (let q : x ∷ (xs ++ s.0) ≡ y ∷ ys = s.1 in cc) in
    let t : xs ++ s.0 ≡ ys = (let q : x ∷ (xs ++ s.0) ≡ y ∷ ys = s.1 in cc) in
    let r = filter_starts p ys xs (s.0, t) in
    by_test (p y) (ap p e) r e
  where
    by_test : (b : Bool) → p x ≡ b → HasFront (filter p ys) (filter p xs) → x ≡ y → HasFront (if b then y ∷ filter p ys else filter p ys) (if p x then x ∷ filter p xs else filter p xs)
    by_test true h r e = subst (λ c. HasFront (y ∷ filter p ys) (if c then x ∷ filter p xs else filter p xs)) (sym h) (r.0, ap (λ z. x ∷ z) r.1 ∙ ap (λ z. z ∷ filter p ys) e)
    by_test false h r e = subst (λ c. HasFront (filter p ys) (if c then x ∷ filter p xs else filter p xs)) (sym h) r
