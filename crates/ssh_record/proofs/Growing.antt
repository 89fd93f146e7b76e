-- A run grows by one step where that step goes on, and only there.
use Rattle.std.proofs.Common.{◌≡◌, ◌⊎◌, inl, inr, ℕ, zero, suc, ◌+◌, ◌<◌, List, [], ◌∷◌, ◌++◌, length, map, slice_get, refl, sym, ◌∙◌, ap, subst, arith, Option, Some, None, Bool, false, length-append}
use Rattle.ssh_wire.specs.declared.side.Side.{Side}
use Rattle.ssh_wire.specs.declared.side.Side.TheVariants.{Client, Server}
use Rattle.ssh_rules.proofs.Lemmas.{get_front}
use Rattle.ssh_rules.specs.Marks.{Half, kexinits}
use Rattle.ssh_rules.specs.Run.{AllMoments, Effect, Effects, HaveCauses, IsMoment, IsRun, Moment, OwnCause, WrittenAt, finished_at_rekey, mark_of, own_of, theirs_of}
use Rattle.ssh_rules.specs.declared.link.Mark.{Mark}
use Rattle.ssh_rules.specs.declared.link.Step.{Step}
use Rattle.ssh_rules.specs.declared.link.Step.TheVariants.{Rekey}
use Rattle.ssh_record.specs.Growing.{CausesAt, RunGoesOn, rekeyed}
use Rattle.ssh_record.proofs.LinkAccepted.{effects_length}

-- an element of a list with one more
pub get_more : {A : Type 0} (xs : List A) (y : A) (i : ℕ) (x : A) → slice_get (xs ++ y ∷ []) i ≡ Some x → ((i < length xs) × (slice_get xs i ≡ Some x)) ⊎ ((i ≡ length xs) × (y ≡ x))
get_more [] y zero x e = inr (refl, (let p : Some y ≡ Some x = e in cc))
get_more [] y (suc i) x e = absurd (let p : None ≡ Some x = e in cc)
get_more (z ∷ xs) y zero x e = inl (omega arith, e)
get_more (z ∷ xs) y (suc i) x e = up (get_more xs y i x e) where
  up : ((i < length xs) × (slice_get xs i ≡ Some x)) ⊎ ((i ≡ length xs) × (y ≡ x)) → ((suc i < length (z ∷ xs)) × (slice_get xs i ≡ Some x)) ⊎ ((suc i ≡ length (z ∷ xs)) × (y ≡ x))
  up (inl h) = inl (omega (arith, h.0), h.1)
  up (inr h) = inr (ap suc h.0, h.1)

pub get_last : {A : Type 0} (xs : List A) (y : A) → slice_get (xs ++ y ∷ []) (length xs) ≡ Some y
get_last [] y = refl
get_last (x ∷ xs) y = get_last xs y

map_more : {A B : Type 0} (f : A → B) (xs : List A) (y : A) → map f (xs ++ y ∷ []) ≡ map f xs ++ f y ∷ []
map_more f [] y = refl
map_more f (x ∷ xs) y = ap (λ t. f x ∷ t) (map_more f xs y)

moments_more : (kind : Bool) (client server : Half) (moments : List Moment) (m : Moment) → AllMoments kind client server moments → IsMoment kind client server m → AllMoments kind client server (moments ++ m ∷ [])
moments_more kind client server [] m h k = (k, tt)
moments_more kind client server (x ∷ moments) m h k = (h.0, moments_more kind client server moments m h.1 k)

effects_more : (steps : List Step) (step : Step) (cb sb : Option ℕ) (marks : List Mark) (m m' : Mark) → Effects steps cb sb (marks ++ m ∷ []) → Effect step (finished_at_rekey Client step m (rekeyed Client cb steps (marks ++ m ∷ []))) (finished_at_rekey Server step m (rekeyed Server sb steps (marks ++ m ∷ []))) m m' → Effects (steps ++ step ∷ []) cb sb ((marks ++ m ∷ []) ++ m' ∷ [])
effects_more [] step cb sb [] m m' h e = (e, tt)
effects_more [] step cb sb (x ∷ []) m m' h e = absurd h
effects_more [] step cb sb (x ∷ y ∷ marks) m m' h e = absurd h
effects_more (s ∷ steps) step cb sb [] m m' h e = absurd h
effects_more (s ∷ steps) step cb sb (x ∷ []) m m' h e = (h.0, effects_more steps step _ _ [] m m' h.1 e)
effects_more (s ∷ steps) step cb sb (x ∷ y ∷ marks) m m' h e = (h.0, effects_more steps step _ _ (y ∷ marks) m m' h.1 e)

written_on : (moments : List Moment) (m : Moment) (s : Side) (k i : ℕ) → WrittenAt moments s k i → WrittenAt (moments ++ m ∷ []) s k i
written_on moments m s k i w = (w.0, w.1, get_front moments (m ∷ []) i w.0 w.2, get_front moments (m ∷ []) (suc i) w.1 w.3, w.4, w.5)

cause_on : (steps : List Step) (step : Step) (moments : List Moment) (m : Moment) (half : Half) (k i : ℕ) → OwnCause steps moments half k i → OwnCause (steps ++ step ∷ []) (moments ++ m ∷ []) half k i
cause_on steps step moments m half k i (inl h) = inl (get_front steps (step ∷ []) i _ h)
cause_on steps step moments m half k i (inr (inl h)) = inr (inl (h.0, get_front moments (m ∷ []) (suc i) h.0 h.1, h.2))
cause_on steps step moments m half k i (inr (inr h)) = inr (inr (h.0, get_front moments (m ∷ []) (suc i) h.0 h.1, h.2))

-- what was written in a step that isn't the last
written_before : (moments : List Moment) (m : Moment) (s : Side) (k i : ℕ) → suc i < length moments → WrittenAt (moments ++ m ∷ []) s k i → WrittenAt moments s k i
written_before moments m s k i l w = (w.0, w.1, old moments m i w.0 (omega (arith, l)) (get_more moments m i w.0 w.2), old moments m (suc i) w.1 l (get_more moments m (suc i) w.1 w.3), w.4, w.5)
  where
    old : (moments : List Moment) (m : Moment) (i : ℕ) (x : Moment) → i < length moments → ((i < length moments) × (slice_get moments i ≡ Some x)) ⊎ ((i ≡ length moments) × (m ≡ x)) → slice_get moments i ≡ Some x
    old moments m i x l (inl h) = h.1
    old moments m i x l (inr h) = absurd (omega (arith, l, h.0))

causes_more : (steps : List Step) (step : Step) (moments : List Moment) (m : Moment) (half other : Half) → length moments ≡ suc (length steps) → HaveCauses steps moments half other → CausesAt (steps ++ step ∷ []) (moments ++ m ∷ []) half other (length steps) → HaveCauses (steps ++ step ∷ []) (moments ++ m ∷ []) half other
causes_more steps step moments m half other many h last k j least w = by (get_more moments m (suc j) w.1 w.3) where
  lift : (OwnCause steps moments half k j ⊎ ((after : Moment) × (slice_get moments (suc j) ≡ Some after) × (k < kexinits (theirs_of half.side after)) × (i : ℕ) × WrittenAt moments other.side k i × OwnCause steps moments other k i))
      → (OwnCause (steps ++ step ∷ []) (moments ++ m ∷ []) half k j ⊎ ((after : Moment) × (slice_get (moments ++ m ∷ []) (suc j) ≡ Some after) × (k < kexinits (theirs_of half.side after)) × (i : ℕ) × WrittenAt (moments ++ m ∷ []) other.side k i × OwnCause (steps ++ step ∷ []) (moments ++ m ∷ []) other k i))
  lift (inl c) = inl (cause_on steps step moments m half k j c)
  lift (inr c) = inr (c.0, get_front moments (m ∷ []) (suc j) c.0 c.1, c.2, c.3, written_on moments m other.side k c.3 c.4, cause_on steps step moments m other k c.3 c.5)

  by : ((suc j < length moments) × (slice_get moments (suc j) ≡ Some w.1)) ⊎ ((suc j ≡ length moments) × (m ≡ w.1))
      → (OwnCause (steps ++ step ∷ []) (moments ++ m ∷ []) half k j ⊎ ((after : Moment) × (slice_get (moments ++ m ∷ []) (suc j) ≡ Some after) × (k < kexinits (theirs_of half.side after)) × (i : ℕ) × WrittenAt (moments ++ m ∷ []) other.side k i × OwnCause (steps ++ step ∷ []) (moments ++ m ∷ []) other k i))
  by (inl old) = lift (h k j least (written_before moments m half.side k j old.0 w))
  by (inr new) =
      let here : j ≡ length steps = omega (arith, new.0, many) in
      subst (λ n. OwnCause (steps ++ step ∷ []) (moments ++ m ∷ []) half k n ⊎ ((after : Moment) × (slice_get (moments ++ m ∷ []) (suc n) ≡ Some after) × (k < kexinits (theirs_of half.side after)) × (i : ℕ) × WrittenAt (moments ++ m ∷ []) other.side k i × OwnCause (steps ++ step ∷ []) (moments ++ m ∷ []) other k i)) (sym here)
      (last k least (subst (λ n. WrittenAt (moments ++ m ∷ []) half.side k n) here w))

count_map : {A B : Type 0} (f : A → B) (xs : List A) → length (map f xs) ≡ length xs
count_map f [] = refl
count_map f (x ∷ xs) = ap suc (count_map f xs)

first_more : {A : Type 0} (xs : List A) (y x : A) → slice_get xs 0 ≡ Some x → slice_get (xs ++ y ∷ []) 0 ≡ Some x
first_more xs y x e = get_front xs (y ∷ []) 0 x e

-- one step more
pub run_more : (kind : Bool) (client server : Half) (steps : List Step) (front : List Moment) (last : Moment) (marks : List Mark) (step : Step) (after : Moment) → (run : IsRun kind client server steps marks) → run.moments ≡ front ++ last ∷ [] → RunGoesOn kind client server steps front last marks step after → IsRun kind client server (steps ++ step ∷ []) (marks ++ after.mark ∷ [])
run_more kind client server steps front last marks step after run e g =
    let all : map (λ (m : Moment). m.mark) (front ++ last ∷ []) ≡ marks = ap (map (λ (m : Moment). m.mark)) (sym e) ∙ run.marks_are in
    let split : map (λ (m : Moment). m.mark) front ++ last.mark ∷ [] ≡ marks = sym (map_more (λ (m : Moment). m.mark) front last) ∙ all in
    let many : length (front ++ last ∷ []) ≡ suc (length steps) = sym (count_map (λ (m : Moment). m.mark) (front ++ last ∷ [])) ∙ (ap length all ∙ effects_length steps None None marks run.effects) in
    record {
      moments = (front ++ last ∷ []) ++ after ∷ [];
      marks_are = map_more (λ (m : Moment). m.mark) (front ++ last ∷ []) after ∙ ap (λ t. t ++ after.mark ∷ []) all;
      each = moments_more kind client server (front ++ last ∷ []) after (subst (AllMoments kind client server) e run.each) g.moment;
      first = (run.first.0, first_more marks after.mark run.first.0 run.first.1, run.first.2);
      effects = subst (λ t. Effects (steps ++ step ∷ []) None None (t ++ after.mark ∷ [])) split
          (effects_more steps step None None (map (λ (m : Moment). m.mark) front) last.mark after.mark (subst (Effects steps None None) (sym split) run.effects)
          (subst (λ t. Effect step (finished_at_rekey Client step last.mark (rekeyed Client None steps t)) (finished_at_rekey Server step last.mark (rekeyed Server None steps t)) last.mark after.mark) (sym split) g.effect));
      begins_one = λ j s before next p q r outside. begun steps step (front ++ last ∷ []) after j s before next many (get_more steps step j (Rekey s) p) (get_more (front ++ last ∷ []) after j before q) (get_more (front ++ last ∷ []) after (suc j) next r) outside
          (λ i x y a b c. run.begins_one i s x y a (subst (λ t. slice_get t i ≡ Some x) (sym e) b) (subst (λ t. slice_get t (suc i) ≡ Some y) (sym e) c)) (g.begins s) (get_last front last) (omega (arith, many, length-append front (last ∷ [])));
      client_causes = causes_more steps step (front ++ last ∷ []) after client server many (subst (λ t. HaveCauses steps t client server) e run.client_causes) g.client_causes;
      server_causes = causes_more steps step (front ++ last ∷ []) after server client many (subst (λ t. HaveCauses steps t server client) e run.server_causes) g.server_causes;
    }
  where
    same_moment : (x y : Moment) → Some x ≡ Some y → x ≡ y
    same_moment x y e = cc

    begun : (steps : List Step) (step : Step) (moments : List Moment) (after : Moment) (j : ℕ) (s : Side) (before next : Moment) → length moments ≡ suc (length steps)
        → ((j < length steps) × (slice_get steps j ≡ Some (Rekey s))) ⊎ ((j ≡ length steps) × (step ≡ Rekey s))
        → ((j < length moments) × (slice_get moments j ≡ Some before)) ⊎ ((j ≡ length moments) × (after ≡ before))
        → ((suc j < length moments) × (slice_get moments (suc j) ≡ Some next)) ⊎ ((suc j ≡ length moments) × (after ≡ next))
        → (mark_of s before.mark).inside ≡ false
        → ((i : ℕ) (x y : Moment) → slice_get steps i ≡ Some (Rekey s) → slice_get moments i ≡ Some x → slice_get moments (suc i) ≡ Some y → (mark_of s x.mark).inside ≡ false → kexinits (own_of s y) ≡ kexinits (own_of s x) + 1)
        → (step ≡ Rekey s → (mark_of s last.mark).inside ≡ false → kexinits (own_of s after) ≡ kexinits (own_of s last) + 1)
        → slice_get moments (length front) ≡ Some last → length front ≡ length steps → kexinits (own_of s next) ≡ kexinits (own_of s before) + 1
    begun steps step moments after j s before next many (inl p) (inl q) (inl r) outside old new at n = old j before next p.1 q.1 r.1 outside
    begun steps step moments after j s before next many (inl p) (inl q) (inr r) outside old new at n = absurd (omega (arith, p.0, r.0, many))
    begun steps step moments after j s before next many (inl p) (inr q) r outside old new at n = absurd (omega (arith, p.0, q.0, many))
    begun steps step moments after j s before next many (inr p) (inr q) r outside old new at n = absurd (omega (arith, p.0, q.0, many))
    begun steps step moments after j s before next many (inr p) (inl q) (inl r) outside old new at n = absurd (omega (arith, p.0, r.0, many))
    begun steps step moments after j s before next many (inr p) (inl q) (inr r) outside old new at n =
        let here : last ≡ before = same_moment last before (sym at ∙ (ap (slice_get moments) (n ∙ sym p.0) ∙ q.1)) in
        let two = new p.1 (ap (λ (t : Moment). (mark_of s t.mark).inside) here ∙ outside) in
        ap (λ (t : Moment). kexinits (own_of s t)) (sym r.1) ∙ (two ∙ ap (λ (t : Moment). kexinits (own_of s t) + 1) here)
