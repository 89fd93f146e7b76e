-- Over an honest carrier both sides record the same exchanges, and handle what the other wrote.
use Rattle.std.proofs.Common.{◌≡◌, ℕ, zero, suc, ◌<◌, ◌≤◌, List, [], ◌∷◌, ◌++◌, length, map, take, slice_get, refl, sym, ◌∙◌, ap, subst, arith, Option, Some, Bool, true, false, if◌then◌else◌, ◌⊎◌, inl, inr}
use Rattle.ssh_packet.specs.Sealing.{Item}
use Rattle.ssh_packet.specs.Stream.{Opening, Place, first_place, Reads, is_newkeys, by_type}
use Rattle.ssh_packet.specs.Carried.{AgreeFor, PlacesAgree, ends_left, SameFor}
use Rattle.ssh_packet.proofs.Lemmas.{read_same_by, reads_by_type, plain_by_type}
use Rattle.ssh_wire.specs.declared.side.Side.{Side}
use Rattle.ssh_wire.specs.declared.side.Side.TheVariants.{Client, Server}
use Rattle.ssh_kex.specs.declared.exchange.FinishedExchange.{FinishedExchange}
use Rattle.ssh_kex.specs.Exchange.{outgoing}
use Rattle.ssh_wire.specs.Sides.{other_side}
use Rattle.ssh_rules.specs.MessageTypes.{type_of, is_kex_type}
use Rattle.ssh_rules.specs.Wire.{exchange_block, epochs_ended, HasFront}
use Rattle.ssh_rules.proofs.pair.Facts.{MadeFrom, SideFacts, MakesOne, HonestCarrier}
use Rattle.ssh_rules.proofs.side.Blocks.{both, ends_true, ends_false}

get_below : {A : Type 0} (xs : List A) (k : ℕ) (x : A) → slice_get xs k ≡ Some x → k < length xs
get_below [] k x h = cc
get_below (y ∷ ys) zero x h = omega arith
get_below (y ∷ ys) (suc k) x h = let r = get_below ys k x h in omega (arith, r)

read_same : (left : Option ℕ) (p q : Option Place) (a b : List Item) (fed rest wire y : List ℕ) → PlacesAgree left p q → Reads p a fed rest → Reads q b wire [] → fed ++ y ≡ wire → SameFor left a b
read_same left p q a b fed rest wire y h r w e = read_same_by by_type [] left p q a b fed rest wire y (plain_by_type [] b) h (reads_by_type [] p a fed rest r) w e

choice : (b : Bool) → (b ≡ true) ⊎ (b ≡ false)
choice true = inl refl
choice false = inr refl

-- a block that is whole on one side is the other's, where the packets agree so far
same_block : (j k : ℕ) (a b : List Item) → SameFor (Some k) a b → j ≤ k → j < epochs_ended a → exchange_block j a ≡ exchange_block j b
same_block j k [] b s h e = absurd (omega arith)
same_block j k (i ∷ a) [] s h e = absurd s
same_block zero k (i ∷ a) (m ∷ b) s h e =
    both (is_newkeys i) _ _ _ _ (λ t. refl)
    (λ f. let r : exchange_block zero a ≡ exchange_block zero b = same_block zero k a b (subst (λ x. SameFor (ends_left x k) a b) f s.1) h (omega (arith, ends_false i a f, e)) in
    ap (λ xs. if is_kex_type (type_of i) then i.payload ∷ xs else xs) r)
    ∙ ap (λ q. exchange_block zero (q ∷ b)) s.0
same_block (suc j) zero (i ∷ a) (m ∷ b) s h e = absurd (omega arith)
same_block (suc j) (suc k) (i ∷ a) (m ∷ b) s h e =
    both (is_newkeys i) _ _ _ _
    (λ t. same_block j k a b (subst (λ x. SameFor (ends_left x (suc k)) a b) t s.1) (omega arith) (omega (arith, ends_true i a t, e)))
    (λ f. same_block (suc j) (suc k) a b (subst (λ x. SameFor (ends_left x (suc k)) a b) f s.1) h (omega (arith, ends_false i a f, e)))
    ∙ ap (λ q. exchange_block (suc j) (q ∷ b)) s.0

cons_prefix : (i m : Item) (a b : List Item) → i ≡ m → HasFront b a → HasFront (m ∷ b) (i ∷ a)
cons_prefix i m a b e r = (r.0, ap (λ t. i ∷ t) r.1 ∙ ap (λ q. q ∷ b) e)

prefix_from_same : (k : ℕ) (a b : List Item) → SameFor (Some k) a b → epochs_ended a ≤ k → HasFront b a
prefix_from_same k [] b s h = (b, refl)
prefix_from_same k (i ∷ a) [] s h = absurd s
prefix_from_same zero (i ∷ a) (m ∷ b) s h = elim (choice (is_newkeys i)) [
  | inl t ↦ absurd (omega (arith, ends_true i a t, h))
  | inr f ↦ cons_prefix i m a b s.0 (prefix_from_same zero a b (subst (λ x. SameFor (ends_left x zero) a b) f s.1) (omega (arith, ends_false i a f, h)))
]
prefix_from_same (suc k) (i ∷ a) (m ∷ b) s h = elim (choice (is_newkeys i)) [
  | inl t ↦ cons_prefix i m a b s.0 (prefix_from_same k a b (subst (λ x. SameFor (ends_left x (suc k)) a b) t s.1) (omega (arith, ends_true i a t, h)))
  | inr f ↦ cons_prefix i m a b s.0 (prefix_from_same (suc k) a b (subst (λ x. SameFor (ends_left x (suc k)) a b) f s.1) (omega (arith, ends_false i a f, h)))
]

agree_from_points : (role : Side) (n : ℕ) (xs ys : List FinishedExchange) → ((k : ℕ) (x y : FinishedExchange) → k < n → slice_get xs k ≡ Some x → slice_get ys k ≡ Some y → x ≡ y) → AgreeFor n (map (outgoing role) xs) (map (outgoing role) ys)
agree_from_points role zero xs ys h = tt
agree_from_points role (suc n) [] ys h = tt
agree_from_points role (suc n) (x ∷ xs) [] h = tt
agree_from_points role (suc n) (x ∷ xs) (y ∷ ys) h = (ap (outgoing role) (h 0 x y (omega arith) refl refl), agree_from_points role n xs ys (λ k p q l e f. h (suc k) p q (omega arith) e f))

-- what one side reads of the other, where the first n records are known to agree
one_way : (made : MadeFrom) (reader writer : Side) → other_side reader ≡ writer → (n : ℕ) (rw rr ww wr : List Item) (rx wx : List FinishedExchange) (rsent rfed rrest wsent wfed wrest : List ℕ) → SideFacts made reader rw rr rx rsent rfed rrest → SideFacts made writer ww wr wx wsent wfed wrest → HasFront wsent rfed → AgreeFor n (map (outgoing writer) rx) (map (outgoing writer) wx) → SameFor (Some n) rr ww
one_way made reader writer e n rw rr ww wr rx wx rsent rfed rrest wsent wfed wrest r w front agree =
    let read1 : Reads (Some (first_place (map (outgoing writer) rx))) rr rfed rrest = subst (λ o. Reads (Some (first_place (map (outgoing o) rx))) rr rfed rrest) e r.reads in
    read_same (Some n) (Some (first_place (map (outgoing writer) rx))) (Some (first_place (map (outgoing writer) wx))) rr ww rfed rrest wsent front.0 (record { sealing = refl; number = refl; openings = agree }) read1 w.writes front.1

-- records before a place that both have are the same list
same_before : (n : ℕ) (xs ys : List FinishedExchange) (x y : FinishedExchange) → slice_get xs n ≡ Some x → slice_get ys n ≡ Some y → ((k : ℕ) (p q : FinishedExchange) → k < n → slice_get xs k ≡ Some p → slice_get ys k ≡ Some q → p ≡ q) → take n xs ≡ take n ys
same_before zero xs ys x y hx hy h = refl
same_before (suc n) [] ys x y hx hy h = cc
same_before (suc n) (p ∷ xs) [] x y hx hy h = cc
same_before (suc n) (p ∷ xs) (q ∷ ys) x y hx hy h =
    let heads : p ≡ q = h 0 p q (omega arith) refl refl in
    let tails : take n xs ≡ take n ys = same_before n xs ys x y hx hy (λ k a b l e f. h (suc k) a b (omega arith) e f) in
    cc

agree_below : (made : MadeFrom) → MakesOne made → (cw cr sw sr : List Item) (cx sx : List FinishedExchange) (csent cfed crest ssent sfed srest : List ℕ) → SideFacts made Client cw cr cx csent cfed crest → SideFacts made Server sw sr sx ssent sfed srest → HasFront csent sfed → HasFront ssent cfed → (n k : ℕ) (x y : FinishedExchange) → k < n → slice_get cx k ≡ Some x → slice_get sx k ≡ Some y → x ≡ y
agree_below made one cw cr sw sr cx sx csent cfed crest ssent sfed srest c s to_s to_c zero k x y lt hx hy = absurd (omega arith)
agree_below made one cw cr sw sr cx sx csent cfed crest ssent sfed srest c s to_s to_c (suc n) k x y lt hx hy =
    let before = agree_below made one cw cr sw sr cx sx csent cfed crest ssent sfed srest c s to_s to_c n in
    let split : (k < n) ⊎ (k ≡ n) = grind arith in
    elim split [ inl l ↦ before k x y l hx hy | inr e ↦ at_n before (subst (λ j. slice_get cx j ≡ Some x) e hx) (subst (λ j. slice_get sx j ≡ Some y) e hy) ]
  where
    at_n : ((j : ℕ) (p q : FinishedExchange) → j < n → slice_get cx j ≡ Some p → slice_get sx j ≡ Some q → p ≡ q) → slice_get cx n ≡ Some x → slice_get sx n ≡ Some y → x ≡ y
    at_n before gx gy =
        let client_reads = one_way made Client Server refl n cw cr sw sr cx sx csent cfed crest ssent sfed srest c s to_c (agree_from_points Server n cx sx before) in
        let server_reads = one_way made Server Client refl n sw sr cw cr sx cx ssent sfed srest csent cfed crest s c to_s (agree_from_points Client n sx cx (λ j p q l hp hq. sym (before j q p l hq hp))) in
        let at_client : exchange_block n cr ≡ exchange_block n sw = same_block n n cr sw client_reads (omega arith) (omega (arith, get_below cx n x gx, c.ended)) in
        let at_server : exchange_block n sr ≡ exchange_block n cw = same_block n n sr cw server_reads (omega arith) (omega (arith, get_below sx n y gy, s.ended)) in
        let earlier : take n sx ≡ take n cx = sym (same_before n cx sx x y gx gy before) in
        let mc : made Client (exchange_block n cw) (exchange_block n sw) (take n cx) x = subst (λ b. made Client (exchange_block n cw) b (take n cx) x) at_client (c.each n x gx) in
        let ms : made Server (exchange_block n sw) (exchange_block n cw) (take n cx) y = subst (λ t. made Server (exchange_block n sw) (exchange_block n cw) t y) earlier (subst (λ b. made Server (exchange_block n sw) b (take n sx) y) at_server (s.each n y gy)) in
        one (exchange_block n cw) (exchange_block n sw) (take n cx) x y mc ms

pub honest_carrier : (made : MadeFrom) → HonestCarrier made
honest_carrier made one cw cr sw sr cx sx csent cfed crest ssent sfed srest c s to_s to_c =
    let all : (k : ℕ) (x y : FinishedExchange) → slice_get cx k ≡ Some x → slice_get sx k ≡ Some y → x ≡ y = λ k x y hx hy. agree_below made one cw cr sw sr cx sx csent cfed crest ssent sfed srest c s to_s to_c (suc k) k x y (omega arith) hx hy in
    record {
      records = all;
      to_server = prefix_from_same (epochs_ended sr) sr cw (one_way made Server Client refl (epochs_ended sr) sw sr cw cr sx cx ssent sfed srest csent cfed crest s c to_s (agree_from_points Client _ sx cx (λ j p q l hp hq. sym (all j q p hq hp)))) (omega arith);
      to_client = prefix_from_same (epochs_ended cr) cr sw (one_way made Client Server refl (epochs_ended cr) cw cr sw sr cx sx csent cfed crest ssent sfed srest c s to_c (agree_from_points Server _ cx sx (λ j p q l hp hq. all j p q hp hq))) (omega arith);
    }

-- In the first epoch, whatever the two sides record and whatever their parts are: what was read is what the other
-- wrote.
pub first_same : (rx wx : List Opening) (rr ww : List Item) (rfed rrest wsent : List ℕ) → Reads (Some (first_place rx)) rr rfed rrest → Reads (Some (first_place wx)) ww wsent [] → HasFront wsent rfed → epochs_ended rr ≡ 0 → HasFront ww rr
first_same rx wx rr ww rfed rrest wsent r w front none =
    prefix_from_same zero rr ww (read_same (Some 0) (Some (first_place rx)) (Some (first_place wx)) rr ww rfed rrest wsent front.0 (record { sealing = refl; number = refl; openings = tt }) r w front.1) (omega (arith, none))
