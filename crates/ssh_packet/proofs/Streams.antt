-- Streams of packets: one reading, more bytes, more openings, and what an honest carrier brings.
use Rattle.std.proofs.Common.{◌≡◌, ℕ, zero, suc, List, [], ◌∷◌, ◌++◌, length, refl, sym, ◌∙◌, ap, subst, arith, append_assoc, Option, Some, None, Bool, true, false, if◌then◌else◌}
use Rattle.ssh_packet.proofs.Shapes.{one_packet, length_sealed}
use Rattle.ssh_packet.specs.Carried.{AgreeFor, SamePlace, PlacesAgree, ends_left, SameFor}
use Rattle.ssh_packet.specs.Sealing.{Item, IsAdmissible, sealed_packet, moved_on, next_number}
use Rattle.ssh_packet.specs.Stream.{Opening, Place, Reads, place_after, place_behind, packet_at, IsEnd, is_newkeys, next_place, kept_number, place_by, ReadsBy, place_behind_by, by_type, IsPlain}

-- packets and then packets part where the first end
pub reads_split : (at : Option Place) (a b : List Item) (x z : List ℕ) → Reads at (a ++ b) x z → (y : List ℕ) × Reads at a x y × Reads (place_behind at a) b y z
reads_split at [] b x z h = (x, refl, h)
reads_split None (i ∷ a) b x z h = absurd h
reads_split (Some at) (i ∷ a) b x z h =
    let r = reads_split (place_after at i) a b h.0 z h.3 in
    (r.0, (h.0, h.1, h.2, r.1), r.2)

-- more bytes behind change nothing in front
pub reads_more : (at : Option Place) (a : List Item) (x y w : List ℕ) → Reads at a x y → Reads at a (x ++ w) (y ++ w)
reads_more at [] x y w h = ap (λ t. t ++ w) h
reads_more None (i ∷ a) x y w h = absurd h
reads_more (Some at) (i ∷ a) x y w h = (h.0 ++ w, h.1, ap (λ t. t ++ w) h.2 ∙ append_assoc (packet_at at i) h.0 w, reads_more (place_after at i) a h.0 y w h.3)

first_alike : (a b : Opening) (m n : ℕ) → a ≡ b → m ≡ n → kept_number a.strict m ≡ kept_number b.strict n
first_alike a b m n e f = ap (λ (o : Opening). kept_number o.strict m) e ∙ ap (kept_number b.strict) f

agree_after : (k : ℕ) (p q : Place) (i : Item) → SamePlace k p q → PlacesAgree (ends_left (is_newkeys i) k) (place_after p i) (place_after q i)
agree_after k p q i h = elim (is_newkeys i) as (λ b. PlacesAgree (ends_left b k) (if b then next_place p.openings (next_number p.number) else Some (record { sealing = moved_on p.sealing i; number = next_number p.number; openings = p.openings })) (if b then next_place q.openings (next_number q.number) else Some (record { sealing = moved_on q.sealing i; number = next_number q.number; openings = q.openings }))) [
  | true ↦ behind k (next_number p.number) (next_number q.number) p.openings q.openings (ap next_number h.number) h.openings
  | false ↦ record { sealing = ap (λ s. moved_on s i) h.sealing; number = ap next_number h.number; openings = h.openings }
]
  where
    behind : (k m n : ℕ) (r w : List Opening) → m ≡ n → AgreeFor k r w → PlacesAgree (ends_left true k) (next_place r m) (next_place w n)
    behind zero m n r w e h = tt
    behind (suc k) m n [] w e h = tt
    behind (suc k) m n (a ∷ r) [] e h = tt
    behind (suc k) m n (a ∷ r) (b ∷ w) e h = record { sealing = ap (λ o. o.sealing) h.0; number = first_alike a b m n h.0 e; openings = h.1 }

nil_of_append : (a b : List ℕ) → a ++ b ≡ [] → a ≡ []
nil_of_append [] b e = refl
nil_of_append (x ∷ a) b e = cc

nothing_read : (p : Place) (i : Item) (more y : List ℕ) → (packet_at p i ++ more) ++ y ≡ [] → ⊥
nothing_read p i more y e =
    let n : packet_at p i ≡ [] = nil_of_append (packet_at p i) more (nil_of_append (packet_at p i ++ more) y e) in
    let l : length (packet_at p i) ≡ 0 = ap length n in
    omega (arith, l, length_sealed p.sealing p.number i)

item_and_rest : (p q : Item) (r s : List ℕ) → p ≡ q → r ≡ s → (let t : Item × List ℕ = (p, r) in t) ≡ (q, s)
item_and_rest p q r s e f = cc

pub one_reading_by : (ends_by : List Item → Item → Bool) (before : List Item) (at : Option Place) (a b : List Item) (bytes x y : List ℕ) → ReadsBy ends_by before at a bytes x → ReadsBy ends_by before at b bytes y → IsEnd (place_behind_by ends_by before at a) x → IsEnd (place_behind_by ends_by before at b) y → (a ≡ b) × (x ≡ y)
one_reading_by E before at [] [] bytes x y h k e f = (refl, sym h ∙ k)
one_reading_by E before None (i ∷ a) b bytes x y h k e f = absurd h
one_reading_by E before None [] (j ∷ b) bytes x y h k e f = absurd k
one_reading_by E before (Some at) [] (j ∷ b) bytes x y h k e f = absurd (e j k.0 k.1 (sym h ∙ k.2))
one_reading_by E before (Some at) (i ∷ a) [] bytes x y h k e f = absurd (f i h.0 h.1 (sym k ∙ h.2))
one_reading_by E before (Some at) (i ∷ a) (j ∷ b) bytes x y h k e f =
    let one = one_packet at.sealing at.number i j h.0 k.0 h.1 k.1 (sym h.2 ∙ k.2) in
    let same = subst (λ (q : Item × List ℕ). ReadsBy E (before ++ q.0 ∷ []) (place_by (E before q.0) at q.0) b q.1 y) (item_and_rest _ _ _ _ (sym one.0) (sym one.1)) k.3 in
    let ends = subst (λ q. IsEnd (place_behind_by E (before ++ q ∷ []) (place_by (E before q) at q) b) y) (sym one.0) f in
    let rest = one_reading_by E (before ++ i ∷ []) (place_by (E before i) at i) a b h.0 x y h.3 same e ends in
    (cons_item i j a b one.0 rest.0, rest.1)
  where
    cons_item : (p q : Item) (r s : List Item) → p ≡ q → r ≡ s → p ∷ r ≡ q ∷ s
    cons_item p q r s e f = cc

same_place : (b : Bool) (at : Place) (i : Item) → b ≡ is_newkeys i → place_by b at i ≡ place_after at i
same_place b at i e = ap (λ c. place_by c at i) e ∙ by_type (is_newkeys i) where
  by_type : (c : Bool) → place_by c at i ≡ (if c then next_place at.openings (next_number at.number) else Some (record { sealing = moved_on at.sealing i; number = next_number at.number; openings = at.openings }))
  by_type true = refl
  by_type false = refl

pub plain_reads : (ends_by : List Item → Item → Bool) (before : List Item) (at : Option Place) (a : List Item) (bytes x : List ℕ) → IsPlain ends_by before a → ReadsBy ends_by before at a bytes x → Reads at a bytes x
plain_reads E before at [] bytes x p h = h
plain_reads E before None (i ∷ a) bytes x p h = absurd h
plain_reads E before (Some at) (i ∷ a) bytes x p h =
    (h.0, h.1, h.2, subst (λ q. Reads q a h.0 x) (same_place (E before i) at i p.0) (plain_reads E (before ++ i ∷ []) (place_by (E before i) at i) a h.0 x p.1 h.3))

pub plain_behind : (ends_by : List Item → Item → Bool) (before : List Item) (at : Option Place) (a : List Item) → IsPlain ends_by before a → place_behind_by ends_by before at a ≡ place_behind at a
plain_behind E before at [] p = refl
plain_behind E before None (i ∷ a) p = refl
plain_behind E before (Some at) (i ∷ a) p = plain_behind E (before ++ i ∷ []) (place_by (E before i) at i) a p.1 ∙ ap (λ q. place_behind q a) (same_place (E before i) at i p.0)

pub reads_by_type : (before : List Item) (at : Option Place) (items : List Item) (bytes rest : List ℕ) → Reads at items bytes rest → ReadsBy by_type before at items bytes rest
reads_by_type before at [] bytes rest h = h
reads_by_type before None (i ∷ items) bytes rest h = absurd h
reads_by_type before (Some at) (i ∷ items) bytes rest h =
    (h.0, h.1, h.2, subst (λ q. ReadsBy by_type (before ++ i ∷ []) q items h.0 rest) (sym (same_place (is_newkeys i) at i refl)) (reads_by_type (before ++ i ∷ []) (place_after at i) items h.0 rest h.3))

pub plain_by_type : (before items : List Item) → IsPlain by_type before items
plain_by_type before [] = tt
plain_by_type before (i ∷ items) = (refl, plain_by_type (before ++ i ∷ []) items)

-- The same where the reader tells ends of epochs by a test of its own that is plain on what was written: no packet of
-- the writer is dropped as a guess.
pub read_same_by : (ends_by : List Item → Item → Bool) (before : List Item) (left : Option ℕ) (p q : Option Place) (a b : List Item) (fed rest wire y : List ℕ) → IsPlain ends_by before b → PlacesAgree left p q → ReadsBy ends_by before p a fed rest → Reads q b wire [] → fed ++ y ≡ wire → SameFor left a b
read_same_by E before None p q a b fed rest wire y pl h r w e = tt
read_same_by E before (Some k) p q [] b fed rest wire y pl h r w e = tt
read_same_by E before (Some k) None q (i ∷ a) b fed rest wire y pl h r w e = absurd r
read_same_by E before (Some k) (Some p) q (i ∷ a) [] fed rest wire y pl h r w e = absurd (nothing_read p i r.0 y (ap (λ t. t ++ y) (sym r.2) ∙ (e ∙ w)))
read_same_by E before (Some k) (Some p) None (i ∷ a) (j ∷ b) fed rest wire y pl h r w e = absurd w
read_same_by E before (Some k) (Some p) (Some q) (i ∷ a) (j ∷ b) fed rest wire y pl h r w e =
    let there : packet_at q j ≡ packet_at p j = ap (λ s. sealed_packet s q.number j) (sym h.sealing) ∙ ap (λ n. sealed_packet p.sealing n j) (sym h.number) in
    let joined : packet_at p i ++ (r.0 ++ y) ≡ packet_at p j ++ w.0 =
    sym (append_assoc (packet_at p i) r.0 y) ∙ (ap (λ t. t ++ y) (sym r.2) ∙ (e ∙ (w.2 ∙ ap (λ t. t ++ w.0) there))) in
    let admitted : IsAdmissible p.sealing j = subst (λ s. IsAdmissible s j) (sym h.sealing) w.1 in
    let one = one_packet p.sealing p.number i j (r.0 ++ y) w.0 r.1 admitted joined in
    let plain : E before i ≡ is_newkeys i = subst (λ t. E before t ≡ is_newkeys t) (sym one.0) pl.0 in
    let later : IsPlain E (before ++ i ∷ []) b = subst (λ t. IsPlain E (before ++ t ∷ []) b) (sym one.0) pl.1 in
    let agree = agree_after k p q i h in
    let reads_on : ReadsBy E (before ++ i ∷ []) (place_after p i) a r.0 rest = subst (λ t. ReadsBy E (before ++ i ∷ []) t a r.0 rest) (same_place (E before i) p i plain) r.3 in
    let onward : Reads (place_after q i) b w.0 [] = subst (λ t. Reads (place_after q t) b w.0 []) (sym one.0) w.3 in
    (one.0, read_same_by E (before ++ i ∷ []) (ends_left (is_newkeys i) k) (place_after p i) (place_after q i) a b r.0 rest w.0 y later agree reads_on onward one.1)
