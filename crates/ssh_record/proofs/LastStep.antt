-- The last step of a run goes on from the run before it.
use Rattle.std.proofs.Common.{◌≡◌, ℕ, zero, suc, ◌+◌, List, [], ◌∷◌, ◌++◌, length, take, map, slice_get, refl, sym, ◌∙◌, ap, subst, arith, Option, Some, None, Bool, length-append}
use Rattle.std.proofs.Math.Seq.{take-append_seam}
use Rattle.ssh_packet.specs.Sealing.{Item}
use Rattle.ssh_wire.specs.declared.side.Side.TheVariants.{Client, Server}
use Rattle.ssh_rules.specs.Marks.{Half}
use Rattle.ssh_rules.specs.Run.{AllMoments, Effect, Effects, HaveCauses, IsFirstMark, IsMoment, IsRun, Moment, finished_at_rekey}
use Rattle.ssh_rules.specs.declared.link.Mark.{Mark}
use Rattle.ssh_rules.specs.declared.link.Step.{Step}
use Rattle.ssh_record.specs.Growing.{RunGoesOn, rekeyed}
use Rattle.ssh_record.specs.Runs.{sent_at}
use Rattle.ssh_record.proofs.Growing.{get_last}
use Rattle.ssh_record.proofs.LinkAccepted.{effects_length}
use Rattle.ssh_record.proofs.OneMarks.{runs_from, sent_one, whole_one}
use Rattle.ssh_record.proofs.RunFronts.{map_take, moment_at, run_front, run_front_moments}

-- ---- moments

abbrev moment_with : Mark → List Item → List Item → List Item → List Item → Moment
moment_with m a b c d = record { mark = m; client_own = a; client_theirs = b; server_own = c; server_theirs = d }

same_moment : (x y : Moment) → x.mark ≡ y.mark → x.client_own ≡ y.client_own → x.client_theirs ≡ y.client_theirs → x.server_own ≡ y.server_own → x.server_theirs ≡ y.server_theirs → x ≡ y
same_moment x y p q r s t =
    ap (λ v. moment_with v x.client_own x.client_theirs x.server_own x.server_theirs) p ∙ (ap (λ v. moment_with y.mark v x.client_theirs x.server_own x.server_theirs) q
    ∙ (ap (λ v. moment_with y.mark y.client_own v x.server_own x.server_theirs) r ∙ (ap (λ v. moment_with y.mark y.client_own y.client_theirs v x.server_theirs) s
    ∙ ap (moment_with y.mark y.client_own y.client_theirs y.server_own) t)))

-- a mark determines the packets of its moment
pub moment_one : (kind : Bool) (client server : Half) (x y : Moment) → IsMoment kind client server x → IsMoment kind client server y → x.mark ≡ y.mark → x ≡ y
moment_one kind client server x y h k e =
    same_moment x y e
    (sent_one client x.mark.client.sent y.mark.client.sent x.client_own y.client_own (ap (λ (m : Mark). m.client.sent) e) h.at_client.sent k.at_client.sent)
    (whole_one server x.mark.client.taken y.mark.client.taken x.client_theirs y.client_theirs (ap (λ (m : Mark). m.client.taken) e) h.at_client.taken_whole k.at_client.taken_whole)
    (sent_one server x.mark.server.sent y.mark.server.sent x.server_own y.server_own (ap (λ (m : Mark). m.server.sent) e) h.at_server.sent k.at_server.sent)
    (whole_one client x.mark.server.taken y.mark.server.taken x.server_theirs y.server_theirs (ap (λ (m : Mark). m.server.taken) e) h.at_server.taken_whole k.at_server.taken_whole)

pub moments_one : (kind : Bool) (client server : Half) (xs ys : List Moment) → AllMoments kind client server xs → AllMoments kind client server ys → map (λ (m : Moment). m.mark) xs ≡ map (λ (m : Moment). m.mark) ys → xs ≡ ys
moments_one kind client server [] [] h k e = refl
moments_one kind client server [] (y ∷ ys) h k e = absurd (let z : 0 ≡ suc (length (map (λ (m : Moment). m.mark) ys)) = ap length e in omega (arith, z))
moments_one kind client server (x ∷ xs) [] h k e = absurd (let z : suc (length (map (λ (m : Moment). m.mark) xs)) ≡ 0 = ap length e in omega (arith, z))
moments_one kind client server (x ∷ xs) (y ∷ ys) h k e =
    both x y xs ys (moment_one kind client server x y h.0 k.0 (head_is x.mark y.mark _ _ e)) (moments_one kind client server xs ys h.1 k.1 (tail_is x.mark y.mark _ _ e))
  where
    both : {A : Type 0} (x y : A) (xs ys : List A) → x ≡ y → xs ≡ ys → x ∷ xs ≡ y ∷ ys
    both x y xs ys e f = cc

    head_is : {A : Type 0} (x y : A) (xs ys : List A) → x ∷ xs ≡ y ∷ ys → x ≡ y
    head_is x y xs ys e = cc

    tail_is : {A : Type 0} (x y : A) (xs ys : List A) → x ∷ xs ≡ y ∷ ys → xs ≡ ys
    tail_is x y xs ys e = cc

-- ---- the last of a list

pub split_last : {A : Type 0} (n : ℕ) (xs : List A) → length xs ≡ suc n → (front : List A) × (last : A) × (xs ≡ front ++ last ∷ []) × (length front ≡ n)
split_last n [] e = absurd (let z : 0 ≡ suc n = e in omega (arith, z))
split_last zero (x ∷ []) e = ([], x, refl, refl)
split_last zero (x ∷ y ∷ xs) e = absurd (let z : suc (suc (length xs)) ≡ 1 = e in omega (arith, z))
split_last (suc n) (x ∷ xs) e =
    let r = split_last n xs (omega (arith, e)) in
    (x ∷ r.0, r.1, ap (λ t. x ∷ t) r.2, ap suc r.3)

effects_last : (steps : List Step) (step : Step) (cb sb : Option ℕ) (marks : List Mark) (m m' : Mark) → length marks ≡ length steps → Effects (steps ++ step ∷ []) cb sb ((marks ++ m ∷ []) ++ m' ∷ []) → Effect step (finished_at_rekey Client step m (rekeyed Client cb steps (marks ++ m ∷ []))) (finished_at_rekey Server step m (rekeyed Server sb steps (marks ++ m ∷ []))) m m'
effects_last [] step cb sb [] m m' l h = h.0
effects_last [] step cb sb (x ∷ marks) m m' l h = absurd (omega (arith, l))
effects_last (s ∷ steps) step cb sb [] m m' l h = absurd (omega (arith, l))
effects_last (s ∷ steps) step cb sb (x ∷ []) m m' l h = effects_last steps step _ _ [] m m' (omega (arith, l)) h.1
effects_last (s ∷ steps) step cb sb (x ∷ y ∷ marks) m m' l h = effects_last steps step _ _ (y ∷ marks) m m' (omega (arith, l)) h.1

map_more : {A B : Type 0} (f : A → B) (xs : List A) (y : A) → map f (xs ++ y ∷ []) ≡ map f xs ++ f y ∷ []
map_more f [] y = refl
map_more f (x ∷ xs) y = ap (λ t. f x ∷ t) (map_more f xs y)

count_map : {A B : Type 0} (f : A → B) (xs : List A) → length (map f xs) ≡ length xs
count_map f [] = refl
count_map f (x ∷ xs) = ap suc (count_map f xs)

take_front : {A : Type 0} (n : ℕ) (xs : List A) (y : A) → length xs ≡ n → take n (xs ++ y ∷ []) ≡ xs
take_front n xs y e = ap (λ k. take k (xs ++ y ∷ [])) (sym e) ∙ take-append_seam xs (y ∷ [])

at_end : {A : Type 0} (xs : List A) (y : A) (n : ℕ) → length xs ≡ n → slice_get (xs ++ y ∷ []) n ≡ Some y
at_end xs y n e = subst (λ k. slice_get (xs ++ y ∷ []) k ≡ Some y) e (get_last xs y)

before_end : {A : Type 0} (xs : List A) (x y : A) (n : ℕ) → length xs ≡ n → slice_get ((xs ++ x ∷ []) ++ y ∷ []) n ≡ Some x
before_end [] x y zero e = refl
before_end [] x y (suc n) e = absurd (omega (arith, e))
before_end (z ∷ xs) x y zero e = absurd (omega (arith, e))
before_end (z ∷ xs) x y (suc n) e = before_end xs x y n (omega (arith, e))

-- ---- the last step

-- a run of one step more than another, in which as much was sent up to there, goes on from it
pub run_last : (kind : Bool) (client server : Half) (steps : List Step) (step : Step) (marks more : List Mark) → client.side ≡ Client → server.side ≡ Server
    → (run : IsRun kind client server steps marks) → (longer : IsRun kind client server (steps ++ step ∷ []) more) → map sent_at marks ≡ take (suc (length steps)) (map sent_at more)
    → (front : List Moment) × (last : Moment) × (after : Moment) × (run.moments ≡ front ++ last ∷ []) × (longer.moments ≡ (front ++ last ∷ []) ++ after ∷ []) × RunGoesOn kind client server steps front last marks step after
run_last kind client server steps step marks more cs ss run longer sent =
    let n = length steps in
    let many : length run.moments ≡ suc n = sym (count_map (λ (m : Moment). m.mark) run.moments) ∙ (ap length run.marks_are ∙ effects_length steps None None marks run.effects) in
    let more_many : length longer.moments ≡ suc (suc n) = sym (count_map (λ (m : Moment). m.mark) longer.moments) ∙ (ap length longer.marks_are ∙ (effects_length (steps ++ step ∷ []) None None more longer.effects ∙ ap suc (length-append steps (step ∷ []) ∙ one_on n))) in
    let a = split_last n run.moments many in
    let b = split_last (suc n) longer.moments more_many in
    let fewer = run_front n kind client server (steps ++ step ∷ []) more cs ss longer in
    let short : take n (steps ++ step ∷ []) ≡ steps = take_front n steps step refl in
    let all : map (λ (m : Moment). m.mark) fewer.moments ≡ map (λ (m : Moment). m.mark) run.moments =
    runs_from kind client server steps fewer.moments run.moments
    (subst (λ t. (m : Mark) × (slice_get t 0 ≡ Some m) × IsFirstMark client server m) (sym fewer.marks_are) fewer.first)
    (subst (λ t. (m : Mark) × (slice_get t 0 ≡ Some m) × IsFirstMark client server m) (sym run.marks_are) run.first)
    fewer.each run.each
    (subst (λ s. Effects s None None (map (λ (m : Moment). m.mark) fewer.moments)) short (subst (Effects (take n (steps ++ step ∷ [])) None None) (sym fewer.marks_are) fewer.effects))
    (subst (Effects steps None None) (sym run.marks_are) run.effects)
    (ap (map sent_at) fewer.marks_are ∙ (map_take sent_at (suc n) more ∙ (sym sent ∙ ap (map sent_at) (sym run.marks_are)))) in
    let fronts : take (suc n) longer.moments ≡ run.moments = sym (run_front_moments n kind client server (steps ++ step ∷ []) more cs ss longer) ∙ moments_one kind client server fewer.moments run.moments fewer.each run.each all in
    let front_is : b.0 ≡ run.moments = sym (take_front (suc n) b.0 b.1 b.3) ∙ (ap (take (suc n)) (sym b.2) ∙ fronts) in
    let whole : longer.moments ≡ (a.0 ++ a.1 ∷ []) ++ b.1 ∷ [] = b.2 ∙ ap (λ t. t ++ b.1 ∷ []) (front_is ∙ a.2) in
    let marks_before : map (λ (m : Moment). m.mark) a.0 ++ a.1.mark ∷ [] ≡ marks = sym (map_more (λ (m : Moment). m.mark) a.0 a.1) ∙ (ap (map (λ (m : Moment). m.mark)) (sym a.2) ∙ run.marks_are) in
    let marks_all : (map (λ (m : Moment). m.mark) a.0 ++ a.1.mark ∷ []) ++ b.1.mark ∷ [] ≡ more =
    ap (λ t. t ++ b.1.mark ∷ []) (sym (map_more (λ (m : Moment). m.mark) a.0 a.1)) ∙ (sym (map_more (λ (m : Moment). m.mark) (a.0 ++ a.1 ∷ []) b.1) ∙ (ap (map (λ (m : Moment). m.mark)) (sym whole) ∙ longer.marks_are)) in (
      a.0,
      a.1,
      b.1,
      a.2,
      whole,
      record {
        moment = moment_at kind client server longer.moments (suc n) b.1 longer.each (subst (λ t. slice_get t (suc n) ≡ Some b.1) (sym b.2) (at_end b.0 b.1 (suc n) b.3));
        effect = subst (λ t. Effect step (finished_at_rekey Client step a.1.mark (rekeyed Client None steps t)) (finished_at_rekey Server step a.1.mark (rekeyed Server None steps t)) a.1.mark b.1.mark) marks_before
            (effects_last steps step None None (map (λ (m : Moment). m.mark) a.0) a.1.mark b.1.mark (count_map (λ (m : Moment). m.mark) a.0 ∙ a.3) (subst (Effects (steps ++ step ∷ []) None None) (sym marks_all) longer.effects));
        begins = λ s p outside. longer.begins_one n s a.1 b.1 (at_end steps step n refl ∙ ap Some p)
            (subst (λ t. slice_get t n ≡ Some a.1) (sym whole) (before_end a.0 a.1 b.1 n a.3)) (subst (λ t. slice_get t (suc n) ≡ Some b.1) (sym b.2) (at_end b.0 b.1 (suc n) b.3)) outside;
        client_causes = λ k l w. subst (λ t. HaveCauses (steps ++ step ∷ []) t client server) whole longer.client_causes k n l w;
        server_causes = λ k l w. subst (λ t. HaveCauses (steps ++ step ∷ []) t server client) whole longer.server_causes k n l w;
      },
    )
  where
    one_on : (n : ℕ) → n + 1 ≡ suc n
    one_on n = omega arith
