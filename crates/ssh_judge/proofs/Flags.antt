-- Which exchanges of a side had a cause of their own, one step after the other.
use Rattle.std.proofs.Common.{◌≡◌, ◌⊎◌, inl, inr, ℕ, suc, ◌<◌, ◌≤◌, List, [], ◌∷◌, ◌++◌, length, slice_get, refl, sym, ◌∙◌, ap, subst, arith, Some, Bool, true, false, ◌==◌, if◌then◌else◌, length-append}
use Rattle.std.specs.Prelude.{slice_index}
use Rattle.std.proofs.lemmas.Bool.{cases_lt}
use Rattle.std.proofs.lemmas.Bool.Decides.{nat_tests}
use Rattle.std.proofs.lemmas.List.{get_or_past}
use Rattle.std.proofs.lemmas.Option.{get_or_from_slice_get, slice_get_within}
use Rattle.ssh_packet.specs.Sealing.{Item}
use Rattle.ssh_wire.specs.Sides.{same_side}
use Rattle.ssh_wire.specs.declared.side.Side.{Side}
use Rattle.ssh_wire.specs.declared.side.Side.TheVariants.{Client, Server}
use Rattle.ssh_rules.specs.Wire.{epochs_ended}
use Rattle.ssh_rules.specs.Marks.{Half, kexinits}
use Rattle.ssh_rules.specs.Run.{Moment, OwnCause, WrittenAt, epoch_bytes, own_of, theirs_of}
use Rattle.ssh_rules.specs.declared.link.Step.{Step}
use Rattle.ssh_rules.specs.declared.link.Step.TheVariants.{Submit, Deliver, Rekey, Settle}
use Rattle.ssh_rules.proofs.Lemmas.{get_front}
use Rattle.ssh_record.specs.Growing.{CausesAt}
use Rattle.ssh_record.proofs.Lemmas.{get_last, get_more}
use Rattle.ssh_judge.specs.Effects.{asks_side}
use Rattle.ssh_judge.specs.Tallies.{Counts, counted_in}
use Rattle.ssh_judge.specs.Standing.{AreFlags, HasOwnCause, HaveCausesFrom, KeepsCauses}
use Rattle.ssh_judge.specs.declared.side.SideState.{SideState}
use Rattle.ssh_judge.specs.declared.tally.Tally.{Tally}
use Rattle.ssh_judge.proofs.Causes.{get_before}
use Rattle.ssh_judge.proofs.Counted.{epoch_above}

-- ---- what is counted of an epoch

pick : {A : Type 0} (b c : Bool) (x y : A) → b ≡ c → (if b then x else y) ≡ (if c then x else y)
pick b c x y e = ap (λ t. if t then x else y) e

other_test : (k n : ℕ) → (k ≡ n → ⊥) → (k == n) ≡ false
other_test k n h = grind (arith, nat_tests)

same_test : (k n : ℕ) → k ≡ n → (k == n) ≡ true
same_test k n e = grind (arith, nat_tests)

pub counted_is : (items : List Item) (t : Tally) (k : ℕ) → Counts items t → counted_in k t ≡ epoch_bytes k items
counted_is items t k c = elim (cases_lt k (epochs_ended items)) [
  | inl below ↦ (let o : (k == length t.ended.items) ≡ false = other_test k (length t.ended.items) (λ e. (let m = c.ended in omega (arith, below, m, e))) in
      pick (k == length t.ended.items) false t.carried_bytes (slice_index t.ended.items k) o ∙ get_or_from_slice_get t.ended.items k (epoch_bytes k items) 0 (c.past k below))
  | inr le ↦ elim (cases_lt (epochs_ended items) k) [
    | inl above ↦ (let o : (k == length t.ended.items) ≡ false = other_test k (length t.ended.items) (λ e. (let m = c.ended in omega (arith, above, m, e))) in
        pick (k == length t.ended.items) false t.carried_bytes (slice_index t.ended.items k) o ∙ (get_or_past t.ended.items k 0 (let m = c.ended in omega (arith, above, m)) ∙ sym (epoch_above k items above)))
    | inr least ↦ (let here : k ≡ epochs_ended items = omega (arith, le, least) in
        let o : (k == length t.ended.items) ≡ true = same_test k (length t.ended.items) (here ∙ sym c.ended) in
        pick (k == length t.ended.items) true t.carried_bytes (slice_index t.ended.items k) o ∙ (c.carried_bytes ∙ ap (λ n. epoch_bytes n items) (sym here)))
  ]
]

-- ---- a rekey of a side

same_is : (s t : Side) → same_side s t ≡ true → s ≡ t
same_is Client Client e = refl
same_is Server Server e = refl
same_is Client Server e = absurd (let z : false ≡ true = e in cc)
same_is Server Client e = absurd (let z : false ≡ true = e in cc)

pub same_self : (s : Side) → same_side s s ≡ true
same_self Client = refl
same_self Server = refl

pub asks_is : (step : Step) (side : Side) → asks_side step side ≡ true → step ≡ Rekey side
asks_is (Submit s p) side e = absurd (let z : false ≡ true = e in cc)
asks_is (Deliver s n) side e = absurd (let z : false ≡ true = e in cc)
asks_is (Rekey s) side e = ap Rekey (same_is s side e)
asks_is Settle side e = absurd (let z : false ≡ true = e in cc)

pub is_asked : (step : Step) (side : Side) → step ≡ Rekey side → asks_side step side ≡ true
is_asked step side e = ap (λ s. asks_side s side) e ∙ same_self side

-- ---- one step more

same_some : {A : Type 0} (x y : A) → Some x ≡ Some y → x ≡ y
same_some x y e = cc

written_on : (moments : List Moment) (m : Moment) (s : Side) (k i : ℕ) → WrittenAt moments s k i → WrittenAt (moments ++ m ∷ []) s k i
written_on moments m s k i w = (w.0, w.1, get_front moments (m ∷ []) i w.0 w.2, get_front moments (m ∷ []) (suc i) w.1 w.3, w.4, w.5)

cause_on : (steps : List Step) (step : Step) (moments : List Moment) (m : Moment) (half : Half) (k i : ℕ) → OwnCause steps moments half k i → OwnCause (steps ++ step ∷ []) (moments ++ m ∷ []) half k i
cause_on steps step moments m half k i (inl h) = inl (get_front steps (step ∷ []) i _ h)
cause_on steps step moments m half k i (inr (inl h)) = inr (inl (h.0, get_front moments (m ∷ []) (suc i) h.0 h.1, h.2))
cause_on steps step moments m half k i (inr (inr h)) = inr (inr (h.0, get_front moments (m ∷ []) (suc i) h.0 h.1, h.2))

cause_before : (steps : List Step) (step : Step) (moments : List Moment) (m : Moment) (half : Half) (k i : ℕ) → length moments ≡ suc (length steps) → suc i < length moments → OwnCause (steps ++ step ∷ []) (moments ++ m ∷ []) half k i → OwnCause steps moments half k i
cause_before steps step moments m half k i e l (inl h) = inl (sym (get_before steps step i (omega (arith, e, l))) ∙ h)
cause_before steps step moments m half k i e l (inr (inl h)) = inr (inl (h.0, sym (get_before moments m (suc i) l) ∙ h.1, h.2))
cause_before steps step moments m half k i e l (inr (inr h)) = inr (inr (h.0, sym (get_before moments m (suc i) l) ∙ h.1, h.2))

-- an exchange was begun in the last step, or before it
when_written : (moments : List Moment) (m : Moment) (s : Side) (k i : ℕ) → WrittenAt (moments ++ m ∷ []) s k i → ((suc i < length moments) × WrittenAt moments s k i) ⊎ (suc i ≡ length moments)
when_written moments m s k i w = by (get_more moments m (suc i) w.1 w.3) where
  by : ((suc i < length moments) × (slice_get moments (suc i) ≡ Some w.1)) ⊎ ((suc i ≡ length moments) × (m ≡ w.1)) → ((suc i < length moments) × WrittenAt moments s k i) ⊎ (suc i ≡ length moments)
  by (inl h) = inl (h.0, (w.0, w.1, sym (get_before moments m i (let l = h.0 in omega (arith, l))) ∙ w.2, h.1, w.4, w.5))
  by (inr h) = inr h.0

-- what is known where a step is made: the flags before it, and what both tallies counted behind it
pub record FlagsGrow (steps : List Step) (step : Step) (front : List Moment) (last after : Moment) (half : Half) (s s' : SideState) (own theirs : List Item) : Type 0 where
  pub many : length front ≡ length steps
  pub flags : AreFlags steps (front ++ last ∷ []) last half s.causes.items
  pub keeps : KeepsCauses step s s'
  pub side_is : s.facts.side ≡ half.side
  pub write_is : s.facts.write_limit ≡ half.config.limits.rekey_write_limit
  pub read_is : s.facts.read_limit ≡ half.config.limits.rekey_read_limit
  pub own_is : own_of half.side after ≡ own
  pub theirs_is : theirs_of half.side after ≡ theirs
  pub counts_own : Counts own s.own
  pub counts_theirs : Counts theirs s.theirs
  pub grows : kexinits (own_of half.side last) ≤ kexinits (own_of half.side after)

many_moments : (front : List Moment) (last : Moment) (n : ℕ) → length front ≡ n → length (front ++ last ∷ []) ≡ suc n
many_moments front last n e = omega (arith, e, length-append front (last ∷ []))

before_is : (front : List Moment) (last after : Moment) (n : ℕ) → length front ≡ n → slice_get ((front ++ last ∷ []) ++ after ∷ []) n ≡ Some last
before_is front last after n e = get_front (front ++ last ∷ []) (after ∷ []) n last (ap (slice_get (front ++ last ∷ [])) (sym e) ∙ get_last front last)

after_is : (front : List Moment) (last after : Moment) (n : ℕ) → length front ≡ n → slice_get ((front ++ last ∷ []) ++ after ∷ []) (suc n) ≡ Some after
after_is front last after n e = ap (slice_get ((front ++ last ∷ []) ++ after ∷ [])) (sym (many_moments front last n e)) ∙ get_last (front ++ last ∷ []) after

-- a cause in the last step, by its counts
cause_now : (steps : List Step) (step : Step) (front : List Moment) (last after : Moment) (half : Half) (s s' : SideState) (own theirs : List Item) → FlagsGrow steps step front last after half s s' own theirs → (k : ℕ) → 1 ≤ k → HasOwnCause s step k → OwnCause (steps ++ step ∷ []) ((front ++ last ∷ []) ++ after ∷ []) half k (length steps)
cause_now steps step front last after half s s' own theirs g k least (inl h) = absurd (omega (arith, least, h))
cause_now steps step front last after half s s' own theirs g k least (inr (inl h)) = inl (get_last steps step ∙ ap Some (asks_is step half.side (ap (asks_side step) (sym g.side_is) ∙ h)))
cause_now steps step front last after half s s' own theirs g k least (inr (inr (inl h))) =
    let is : counted_in k s.own ≡ epoch_bytes k (own_of half.side after) = counted_is own s.own k g.counts_own ∙ ap (epoch_bytes k) (sym g.own_is) in
    inr (inl (after, after_is front last after (length steps) g.many, subst (λ n. half.config.limits.rekey_write_limit ≤ n) is (subst (λ n. n ≤ counted_in k s.own) g.write_is h)))
cause_now steps step front last after half s s' own theirs g k least (inr (inr (inr h))) =
    let is : counted_in k s.theirs ≡ epoch_bytes k (theirs_of half.side after) = counted_is theirs s.theirs k g.counts_theirs ∙ ap (epoch_bytes k) (sym g.theirs_is) in
    inr (inr (after, after_is front last after (length steps) g.many, subst (λ n. half.config.limits.rekey_read_limit ≤ n) is (subst (λ n. n ≤ counted_in k s.theirs) g.read_is h)))

cause_told : (steps : List Step) (step : Step) (front : List Moment) (last after : Moment) (half : Half) (s s' : SideState) (own theirs : List Item) → FlagsGrow steps step front last after half s s' own theirs → (k : ℕ) → OwnCause (steps ++ step ∷ []) ((front ++ last ∷ []) ++ after ∷ []) half k (length steps) → HasOwnCause s step k
cause_told steps step front last after half s s' own theirs g k (inl h) = inr (inl (is_asked step s.facts.side (same_some step (Rekey half.side) (sym (get_last steps step) ∙ h) ∙ ap Rekey (sym g.side_is))))
cause_told steps step front last after half s s' own theirs g k (inr (inl h)) =
    let one : after ≡ h.0 = same_some after h.0 (sym (after_is front last after (length steps) g.many) ∙ h.1) in
    let is : epoch_bytes k (own_of half.side h.0) ≡ counted_in k s.own = ap (λ (m : Moment). epoch_bytes k (own_of half.side m)) (sym one) ∙ (ap (epoch_bytes k) g.own_is ∙ sym (counted_is own s.own k g.counts_own)) in
    inr (inr (inl (subst (λ n. n ≤ counted_in k s.own) (sym g.write_is) (subst (λ n. half.config.limits.rekey_write_limit ≤ n) is h.2))))
cause_told steps step front last after half s s' own theirs g k (inr (inr h)) =
    let one : after ≡ h.0 = same_some after h.0 (sym (after_is front last after (length steps) g.many) ∙ h.1) in
    let is : epoch_bytes k (theirs_of half.side h.0) ≡ counted_in k s.theirs = ap (λ (m : Moment). epoch_bytes k (theirs_of half.side m)) (sym one) ∙ (ap (epoch_bytes k) g.theirs_is ∙ sym (counted_is theirs s.theirs k g.counts_theirs)) in
    inr (inr (inr (subst (λ n. n ≤ counted_in k s.theirs) (sym g.read_is) (subst (λ n. half.config.limits.rekey_read_limit ≤ n) is h.2))))

-- how many there are behind the step
many_behind : (steps : List Step) (step : Step) (front : List Moment) (last after : Moment) (half : Half) (s s' : SideState) (own theirs : List Item) → FlagsGrow steps step front last after half s s' own theirs → (length s'.causes.items ≡ kexinits (own_of half.side after)) × (s.own.kexinits ≡ kexinits (own_of half.side after)) × (length s.causes.items ≡ kexinits (own_of half.side last))
many_behind steps step front last after half s s' own theirs g =
    let begun : s.own.kexinits ≡ kexinits (own_of half.side after) = g.counts_own.begun ∙ ap kexinits (sym g.own_is) in
    let old : length s.causes.items ≡ kexinits (own_of half.side last) = g.flags.many in
    let more = g.grows in
    let all = g.keeps.many in
    (omega (arith, begun, old, more, all), begun, old)

-- an exchange was begun in some step, with a cause of its own
abbrev CausedIn : List Step → List Moment → Half → ℕ → Type 0
CausedIn steps moments half k = (i : ℕ) × WrittenAt moments half.side k i × OwnCause steps moments half k i

pub flags_more : (steps : List Step) (step : Step) (front : List Moment) (last after : Moment) (half : Half) (s s' : SideState) (own theirs : List Item) → FlagsGrow steps step front last after half s s' own theirs → AreFlags (steps ++ step ∷ []) ((front ++ last ∷ []) ++ after ∷ []) after half s'.causes.items
flags_more steps step front last after half s s' own theirs g = record {
  many = (many_behind steps step front last after half s s' own theirs g).0;
  below = λ i m e. under i m (get_more (front ++ last ∷ []) after i m e);
  each = λ k least l. elim (cases_lt k (length s.causes.items)) [
    | inl before ↦ (before_there k least before, before_back k least before)
    | inr now ↦ (now_there k least now l, now_back k least now l)
  ];
  first = λ l. elim (cases_lt 0 (length s.causes.items)) [
    | inl some ↦ g.keeps.before 0 some ∙ g.flags.first some
    | inr none ↦ (g.keeps.now 0 none (all_l 0 l)).1 (inl refl)
  ];
} where
  many : length (front ++ last ∷ []) ≡ suc (length steps)
  many = many_moments front last (length steps) g.many

  all_l : (k : ℕ) → k < length s'.causes.items → k < s.own.kexinits
  all_l k l = let r = many_behind steps step front last after half s s' own theirs g in let a = r.0 in let b = r.1 in omega (arith, a, b, l)

  under : (i : ℕ) (m : Moment) → ((i < length (front ++ last ∷ [])) × (slice_get (front ++ last ∷ []) i ≡ Some m)) ⊎ ((i ≡ length (front ++ last ∷ [])) × (after ≡ m)) → kexinits (own_of half.side m) ≤ length s'.causes.items
  under i m (inl h) = let r = many_behind steps step front last after half s s' own theirs g in let a = r.0 in let b = r.2 in let c = g.grows in let d = g.flags.below i m h.1 in omega (arith, a, b, c, d)
  under i m (inr h) = let r = many_behind steps step front last after half s s' own theirs g in let a = r.0 in let e = ap (λ (x : Moment). kexinits (own_of half.side x)) h.1 in omega (arith, a, e)

  before_there : (k : ℕ) → 1 ≤ k → k < length s.causes.items → slice_get s'.causes.items k ≡ Some true → CausedIn (steps ++ step ∷ []) ((front ++ last ∷ []) ++ after ∷ []) half k
  before_there k least l e =
      let c = (g.flags.each k least l).0 (sym (g.keeps.before k l) ∙ e) in
      (c.0, written_on (front ++ last ∷ []) after half.side k c.0 c.1, cause_on steps step (front ++ last ∷ []) after half k c.0 c.2)

  before_back : (k : ℕ) → 1 ≤ k → k < length s.causes.items → CausedIn (steps ++ step ∷ []) ((front ++ last ∷ []) ++ after ∷ []) half k → slice_get s'.causes.items k ≡ Some true
  before_back k least l c = g.keeps.before k l ∙ (g.flags.each k least l).1 (by (when_written (front ++ last ∷ []) after half.side k c.0 c.1)) where
    by : ((suc c.0 < length (front ++ last ∷ [])) × WrittenAt (front ++ last ∷ []) half.side k c.0) ⊎ (suc c.0 ≡ length (front ++ last ∷ [])) → (i : ℕ) × WrittenAt (front ++ last ∷ []) half.side k i × OwnCause steps (front ++ last ∷ []) half k i
    by (inl h) = (c.0, h.1, cause_before steps step (front ++ last ∷ []) after half k c.0 many h.0 c.2)
    by (inr h) =
        let here : c.0 ≡ length steps = omega (arith, h, many) in
        let one : last ≡ c.1.0 = same_some last c.1.0 (sym (before_is front last after (length steps) g.many) ∙ (ap (slice_get ((front ++ last ∷ []) ++ after ∷ [])) (sym here) ∙ c.1.2)) in
        let old = g.flags.many in
        let le = c.1.4 in
        let same = ap (λ (x : Moment). kexinits (own_of half.side x)) one in
        absurd (omega (arith, l, old, le, same))

  now_there : (k : ℕ) → 1 ≤ k → length s.causes.items ≤ k → k < length s'.causes.items → slice_get s'.causes.items k ≡ Some true → CausedIn (steps ++ step ∷ []) ((front ++ last ∷ []) ++ after ∷ []) half k
  now_there k least le l e =
      let r = many_behind steps step front last after half s s' own theirs g in
      let a = r.0 in
      let b = r.2 in (
        length steps,
        (last, after, before_is front last after (length steps) g.many, after_is front last after (length steps) g.many, omega (arith, le, b), omega (arith, l, a)),
        cause_now steps step front last after half s s' own theirs g k least ((g.keeps.now k le (all_l k l)).0 e),
      )

  now_back : (k : ℕ) → 1 ≤ k → length s.causes.items ≤ k → k < length s'.causes.items → CausedIn (steps ++ step ∷ []) ((front ++ last ∷ []) ++ after ∷ []) half k → slice_get s'.causes.items k ≡ Some true
  now_back k least le l c = (g.keeps.now k le (all_l k l)).1 (by (when_written (front ++ last ∷ []) after half.side k c.0 c.1)) where
    by : ((suc c.0 < length (front ++ last ∷ [])) × WrittenAt (front ++ last ∷ []) half.side k c.0) ⊎ (suc c.0 ≡ length (front ++ last ∷ [])) → HasOwnCause s step k
    by (inl h) = (let w = h.1 in let low = g.flags.below (suc c.0) w.1 w.3 in let up = w.5 in absurd (omega (arith, low, up, le)))
    by (inr h) = (let here : c.0 ≡ length steps = omega (arith, h, many) in
        cause_told steps step front last after half s s' own theirs g k (subst (λ i. OwnCause (steps ++ step ∷ []) ((front ++ last ∷ []) ++ after ∷ []) half k i) here c.2))

-- ---- what is asked of the last step

-- an exchange that was begun in the last step was begun in no other
only_last : (steps : List Step) (step : Step) (front : List Moment) (last after : Moment) (half : Half) (s s' : SideState) (own theirs : List Item) → FlagsGrow steps step front last after half s s' own theirs → (k i : ℕ) → length s.causes.items ≤ k → WrittenAt ((front ++ last ∷ []) ++ after ∷ []) half.side k i → i ≡ length steps
only_last steps step front last after half s s' own theirs g k i le w = by (when_written (front ++ last ∷ []) after half.side k i w) where
  many : length (front ++ last ∷ []) ≡ suc (length steps)
  many = many_moments front last (length steps) g.many

  by : ((suc i < length (front ++ last ∷ [])) × WrittenAt (front ++ last ∷ []) half.side k i) ⊎ (suc i ≡ length (front ++ last ∷ [])) → i ≡ length steps
  by (inl h) = (let v = h.1 in let low = g.flags.below (suc i) v.1 v.3 in let up = v.5 in absurd (omega (arith, low, up, le)))
  by (inr h) = omega (arith, h, many)

-- flags say that each exchange of the last step had a cause
pub causes_by : (steps : List Step) (step : Step) (front : List Moment) (last after : Moment) (half other : Half) (s s' o' : SideState) (own theirs : List Item) → FlagsGrow steps step front last after half s s' own theirs → AreFlags (steps ++ step ∷ []) ((front ++ last ∷ []) ++ after ∷ []) after other o'.causes.items
    → HaveCausesFrom s' o' (length s.causes.items) → CausesAt (steps ++ step ∷ []) ((front ++ last ∷ []) ++ after ∷ []) half other (length steps)
causes_by steps step front last after half other s s' o' own theirs g f h k least w = by (h k from below) where
  r : (length s'.causes.items ≡ kexinits (own_of half.side after)) × (s.own.kexinits ≡ kexinits (own_of half.side after)) × (length s.causes.items ≡ kexinits (own_of half.side last))
  r = many_behind steps step front last after half s s' own theirs g

  one : last ≡ w.0
  one = same_some last w.0 (sym (before_is front last after (length steps) g.many) ∙ w.2)

  two : after ≡ w.1
  two = same_some after w.1 (sym (after_is front last after (length steps) g.many) ∙ w.3)

  from : length s.causes.items ≤ k
  from = let a = r.2 in let b = w.4 in let c = ap (λ (x : Moment). kexinits (own_of half.side x)) one in omega (arith, a, b, c)

  within : k < length s'.causes.items
  within = let a = r.0 in let b = w.5 in let c = ap (λ (x : Moment). kexinits (own_of half.side x)) two in omega (arith, a, b, c)

  below : k < s'.own.kexinits
  below = let a = r.0 in let b = r.1 in let c = ap (λ (x : Tally). x.kexinits) g.keeps.own in omega (arith, a, b, c, within)

  by : (slice_get s'.causes.items k ≡ Some true) ⊎ ((k < s'.theirs.kexinits) × (slice_get o'.causes.items k ≡ Some true))
      → OwnCause (steps ++ step ∷ []) ((front ++ last ∷ []) ++ after ∷ []) half k (length steps)
      ⊎ ((next : Moment) × (slice_get ((front ++ last ∷ []) ++ after ∷ []) (suc (length steps)) ≡ Some next) × (k < kexinits (theirs_of half.side next))
      × (i : ℕ) × WrittenAt ((front ++ last ∷ []) ++ after ∷ []) other.side k i × OwnCause (steps ++ step ∷ []) ((front ++ last ∷ []) ++ after ∷ []) other k i)
  by (inl e) =
      let c = ((flags_more steps step front last after half s s' own theirs g).each k least within).0 e in
      inl (subst (λ i. OwnCause (steps ++ step ∷ []) ((front ++ last ∷ []) ++ after ∷ []) half k i) (only_last steps step front last after half s s' own theirs g k c.0 from c.1) c.2)
  by (inr e) =
      let c = (f.each k least (slice_get_within o'.causes.items k true e.1)).0 e.1 in
      let t : s'.theirs.kexinits ≡ kexinits (theirs_of half.side after) = ap (λ (x : Tally). x.kexinits) g.keeps.theirs ∙ (g.counts_theirs.begun ∙ ap kexinits (sym g.theirs_is)) in
      let l = e.0 in
      inr (after, after_is front last after (length steps) g.many, omega (arith, l, t), c.0, c.1, c.2)

-- and say so wherever each had one
pub causes_so : (steps : List Step) (step : Step) (front : List Moment) (last after : Moment) (half other : Half) (s s' o' : SideState) (own theirs : List Item) → FlagsGrow steps step front last after half s s' own theirs → AreFlags (steps ++ step ∷ []) ((front ++ last ∷ []) ++ after ∷ []) after other o'.causes.items
    → CausesAt (steps ++ step ∷ []) ((front ++ last ∷ []) ++ after ∷ []) half other (length steps) → HaveCausesFrom s' o' (length s.causes.items)
causes_so steps step front last after half other s s' o' own theirs g f h k from below = elim (cases_lt 0 k) [
  | inl least ↦ by least (h k least written)
  | inr none ↦ inl (subst (λ n. slice_get s'.causes.items n ≡ Some true) (let e : 0 ≡ k = omega (arith, none) in e) ((flags_more steps step front last after half s s' own theirs g).first (omega (arith, within))))
] where
  r : (length s'.causes.items ≡ kexinits (own_of half.side after)) × (s.own.kexinits ≡ kexinits (own_of half.side after)) × (length s.causes.items ≡ kexinits (own_of half.side last))
  r = many_behind steps step front last after half s s' own theirs g

  within : k < length s'.causes.items
  within = let a = r.0 in let b = r.1 in let c = ap (λ (x : Tally). x.kexinits) g.keeps.own in omega (arith, a, b, c, below)

  written : WrittenAt ((front ++ last ∷ []) ++ after ∷ []) half.side k (length steps)
  written = let a = r.0 in let b = r.2 in (last, after, before_is front last after (length steps) g.many, after_is front last after (length steps) g.many, omega (arith, from, b), omega (arith, within, a))

  by : 1 ≤ k → OwnCause (steps ++ step ∷ []) ((front ++ last ∷ []) ++ after ∷ []) half k (length steps)
      ⊎ ((next : Moment) × (slice_get ((front ++ last ∷ []) ++ after ∷ []) (suc (length steps)) ≡ Some next) × (k < kexinits (theirs_of half.side next))
      × (i : ℕ) × WrittenAt ((front ++ last ∷ []) ++ after ∷ []) other.side k i × OwnCause (steps ++ step ∷ []) ((front ++ last ∷ []) ++ after ∷ []) other k i)
      → (slice_get s'.causes.items k ≡ Some true) ⊎ ((k < s'.theirs.kexinits) × (slice_get o'.causes.items k ≡ Some true))
  by least (inl c) = inl (((flags_more steps step front last after half s s' own theirs g).each k least within).1 (length steps, written, c))
  by least (inr c) =
      let one : after ≡ c.0 = same_some after c.0 (sym (after_is front last after (length steps) g.many) ∙ c.1) in
      let t : s'.theirs.kexinits ≡ kexinits (theirs_of half.side after) = ap (λ (x : Tally). x.kexinits) g.keeps.theirs ∙ (g.counts_theirs.begun ∙ ap kexinits (sym g.theirs_is)) in
      let l = c.2 in
      let same = ap (λ (x : Moment). kexinits (theirs_of half.side x)) one in
      let w = c.4 in
      let low = f.below (suc c.3) w.1 w.3 in
      let up = w.5 in
      inr (omega (arith, l, t, same), (f.each k least (omega (arith, low, up))).1 (c.3, c.4, c.5))
