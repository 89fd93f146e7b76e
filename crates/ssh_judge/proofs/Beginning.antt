-- A run before its first step, and one step after the other.
use Rattle.std.proofs.Common.{◌≡◌, ℕ, zero, suc, ◌+◌, ◌<◌, ◌≤◌, ◌^◌, List, [], ◌∷◌, ◌++◌, length, take, map, slice_get, refl, sym, ◌∙◌, ap, subst, arith, Some, None, Bool, true, length-append}
use Rattle.std.proofs.lemmas.List.{length-take-le}
use Rattle.std.proofs.lemmas.Option.{slice_get_within}
use Rattle.ssh_packet.specs.Sealing.{Item}
use Rattle.ssh_wire.specs.Lines.{id_line}
use Rattle.ssh_wire.specs.declared.side.Side.{Side}
use Rattle.ssh_wire.specs.declared.side.Side.TheVariants.{Client, Server}
use Rattle.ssh_kex.specs.Messages.{is_gex}
use Rattle.ssh_kex.specs.declared.exchange.FinishedExchange.{FinishedExchange}
use Rattle.ssh_rules.specs.Marks.{Half, kexinits}
use Rattle.ssh_rules.specs.Run.{AllMoments, HaveCauses, IsMoment, IsRun, Moment, own_of}
use Rattle.ssh_rules.specs.declared.link.Mark.{Mark}
use Rattle.ssh_rules.specs.declared.link.SideMark.{SideMark}
use Rattle.ssh_rules.specs.declared.link.Step.{Step}
use Rattle.ssh_rules.specs.Wire.{LiesWhole}
use Rattle.ssh_rules.specs.declared.link.Step.TheVariants.{Rekey}
use Rattle.ssh_record.specs.Growing.{RunGoesOn}
use Rattle.ssh_record.specs.Recordings.{JudgedRecord}
use Rattle.ssh_record.specs.Runs.{BreaksRunAt, RunsBy, half_recorded, sent_at}
use Rattle.ssh_record.specs.declared.recording.SentPair.{SentPair}
use Rattle.ssh_record.proofs.Lemmas.{get_last, moments_one, none_yet, run_last, run_more, runs_less}
use Rattle.ssh_transcript.specs.declared.packet.Packet.{Packet}
use Rattle.ssh_judge.specs.Tallies.{Counts, end_behind, line_of}
use Rattle.ssh_judge.specs.Standing.{AreFactsOf, AreFlags, AreStanding, AreWires, CountsWhole, GoesOnTo, IsFirstOf, IsNew, ShowsRun, ShowsSide, StandsAtLast, StandsMarked, StopsAt, Wires, marks_at, moment_at}
use Rattle.ssh_judge.specs.declared.run.RunState.{RunState}
use Rattle.ssh_judge.specs.declared.side.SideFacts.{SideFacts}
use Rattle.ssh_judge.specs.declared.side.SideState.{SideState}
use Rattle.ssh_judge.specs.declared.tally.Tally.{Tally}
use Rattle.ssh_judge.proofs.SideMarks.{marked_by, marked_so}
use Rattle.ssh_judge.proofs.Steps.{same_as, same_moment}

-- ---- before the first step

take_none : {A : Type 0} (n : ℕ) (xs : List A) → n ≡ 0 → take n xs ≡ []
take_none zero xs e = refl
take_none (suc n) xs e = absurd (omega (arith, e))

counts_whole : (h : Half) (items : List Item) (kept : List Packet) (reach : ℕ) (t : Tally) → Counts [] t → t.packets ≡ 0 → t.end ≡ line_of h → reach ≤ line_of h → CountsWhole h items kept reach t
counts_whole h items kept reach t c n e l = record {
  front = record {
    within = omega (arith, n);
    counts = subst (λ xs. Counts xs t) (sym (take_none t.packets items n)) c;
    ends = e ∙ ap (λ k. end_behind (line_of h) kept k) (sym n);
  };
  reached = λ m. absurd (omega (arith, m, n));
  whole = subst (λ xs. LiesWhole h.side h.config h.exchanges h.wire reach xs) (sym (take_none t.packets items n)) (none_yet h.side h.config h.exchanges h.wire reach l);
}

shows_first : (half other : Half) (own theirs : List Item) (own_kept their_kept : List Packet) (f : SideFacts) (s : SideState) → AreFactsOf half own_kept f → IsNew f (line_of other) s → ShowsSide half other own theirs own_kept their_kept s
shows_first half other own theirs own_kept their_kept f s a n =
    let sent : s.mark.sent ≡ line_of half = ap (λ (m : SideMark). m.sent) n.mark_is ∙ a.line_is in
    let taken : s.mark.taken ≡ 0 = ap (λ (m : SideMark). m.taken) n.mark_is in
    let none : s.mark.finished ≡ 0 = ap (λ (m : SideMark). m.finished) n.mark_is in
    let ct = n.theirs in
    record {
      facts = subst (λ x. AreFactsOf half own_kept x) (sym n.facts_are) a;
      counts_own = counts_whole half own own_kept s.mark.sent s.own n.own n.own_none (n.own_end ∙ a.line_is) (omega (arith, sent));
      counts_theirs = counts_whole other theirs their_kept s.mark.taken s.theirs n.theirs n.theirs_none n.theirs_end (omega (arith, taken));
      delivered = ap (λ (m : SideMark). m.delivered) n.mark_is ∙ sym ct.carried;
      finished = none ∙ sym ct.ended;
      inside = (λ _. omega (arith, none), λ _. ap (λ (m : SideMark). m.inside) n.mark_is);
    }

no_cause : (steps : List Step) (moments : List Moment) (half other : Half) → length moments ≡ 1 → HaveCauses steps moments half other
no_cause steps moments half other e k j l w = absurd (let b = slice_get_within moments (suc j) w.1 w.3 in omega (arith, b, e))

first_flags : (half : Half) (m : Moment) (flags : List Bool) → flags ≡ [] → kexinits (own_of half.side m) ≡ 0 → AreFlags [] (m ∷ []) m half flags
first_flags half m flags e n = record {
  many = ap length e ∙ sym n;
  below = λ i x g. at i x g;
  each = λ k least l. absurd (omega (arith, l, ap length e));
  first = λ l. absurd (omega (arith, l, ap length e));
} where
  at : (i : ℕ) (x : Moment) → slice_get (m ∷ []) i ≡ Some x → kexinits (own_of half.side x) ≤ length flags
  at zero x g = (let one : m ≡ x = cc in let same = ap (λ (y : Moment). kexinits (own_of half.side y)) one in omega (arith, same, n))
  at (suc i) x g = absurd (let p : None ≡ Some x = g in cc)

none_own : (side : Side) (s : Side) (w : Wires) (run : RunState) → side ≡ s → kexinits (own_of s (moment_at w run)) ≡ 0 → kexinits (own_of side (moment_at w run)) ≡ 0
none_own side s w run e n = ap (λ x. kexinits (own_of x (moment_at w run))) e ∙ n

first_shows : (w : Wires) (run : RunState) → IsFirstOf w run → ShowsRun w run
first_shows w run f = record {
  kind_is = f.kind_is;
  client = shows_first w.client w.server w.client_items w.server_items w.client_kept w.server_kept run.client.facts run.client f.client_facts f.client;
  server = shows_first w.server w.client w.server_items w.client_items w.server_kept w.client_kept run.server.facts run.server f.server_facts f.server;
}

first_moment : (w : Wires) (run : RunState) → AreWires w → IsFirstOf w run → AreStanding run → IsMoment w.kind w.client w.server (moment_at w run)
first_moment w run ws f a =
    let v = first_shows w run f in
    record {
      at_client = marked_by w.kind w.client w.server w.client_items w.server_items w.client_kept w.server_kept run.client run.server ws.client ws.server v.client f.server_facts.line_is (subst (λ x. StandsMarked run.client run.server x) f.kind_is a.0);
      at_server = marked_by w.kind w.server w.client w.server_items w.client_items w.server_kept w.client_kept run.server run.client ws.server ws.client v.server f.client_facts.line_is (subst (λ x. StandsMarked run.server run.client x) f.kind_is a.1);
    }

first_stands : (w : Wires) (run : RunState) → AreWires w → IsFirstOf w run → AreStanding run → StandsAtLast w [] [] (marks_at run ∷ []) run
first_stands w run ws f a =
    let cn : kexinits (take run.client.own.packets w.client_items) ≡ 0 = ap kexinits (take_none run.client.own.packets w.client_items f.client.own_none) in
    let sn : kexinits (take run.server.own.packets w.server_items) ≡ 0 = ap kexinits (take_none run.server.own.packets w.server_items f.server.own_none) in
    record {
      wires = ws;
      shows = first_shows w run f;
      moment = first_moment w run ws f a;
      many = refl;
      marks_are = refl;
      client_rekeyed = f.client.rekeyed_none;
      server_rekeyed = f.server.rekeyed_none;
      client_causes = first_flags w.client (moment_at w run) run.client.causes.items f.client.causes_none (none_own w.client.side Client w run ws.client_is cn);
      server_causes = first_flags w.server (moment_at w run) run.server.causes.items f.server.causes_none (none_own w.server.side Server w run ws.server_is sn);
      client_submitted = (let e = ap (λ (m : SideMark). m.submitted) f.client.mark_is in omega (arith, e));
      server_submitted = (let e = ap (λ (m : SideMark). m.submitted) f.server.mark_is in omega (arith, e));
    }

first_of : (h : Half) (f : SideFacts) (n : ℕ) (s : SideState) (kept : List Packet) → AreFactsOf h kept f → IsNew f n s → s.mark ≡ record { sent = length (id_line h.config.id); taken = 0; delivered = 0; finished = 0; inside = true; submitted = 0 }
first_of h f n s kept a b = b.mark_is ∙ ap with_sent a.line_is where
  with_sent : ℕ → SideMark
  with_sent n = record { sent = n; taken = 0; delivered = 0; finished = 0; inside = true; submitted = 0 }

first_run : (w : Wires) (run : RunState) → AreWires w → IsFirstOf w run → AreStanding run → IsRun w.kind w.client w.server [] (marks_at run ∷ [])
first_run w run ws f a = record {
  moments = moment_at w run ∷ [];
  marks_are = refl;
  each = (first_moment w run ws f a, tt);
  first = (marks_at run, refl, record { of_client = first_of w.client run.client.facts (line_of w.server) run.client w.client_kept f.client_facts f.client; of_server = first_of w.server run.server.facts (line_of w.client) run.server w.server_kept f.server_facts f.server });
  effects = tt;
  begins_one = λ j s before after e g h i. absurd (let p : None ≡ Some (Rekey s) = e in cc);
  client_causes = no_cause [] (moment_at w run ∷ []) w.client w.server refl;
  server_causes = no_cause [] (moment_at w run ∷ []) w.server w.client refl;
}

-- a run of no step stands as was tested
stands_by_run : (w : Wires) (run : RunState) (more : List Mark) → AreWires w → IsFirstOf w run → IsRun w.kind w.client w.server [] more → AreStanding run
stands_by_run w run more ws f r = by r.moments r.marks_are r.each where
  by : (moments : List Moment) → map (λ (m : Moment). m.mark) moments ≡ more → AllMoments w.kind w.client w.server moments → AreStanding run
  by [] e h = absurd (let p : None ≡ Some r.first.0 = ap (λ xs. slice_get xs 0) e ∙ r.first.1 in cc)
  by (x ∷ moments) e h =
      let one : Some x.mark ≡ Some r.first.0 = ap (λ xs. slice_get xs 0) e ∙ r.first.1 in
      let is : x.mark ≡ r.first.0 = cc in
      let v = first_shows w run f in
      let c : x.mark.client ≡ run.client.mark = ap (λ (m : Mark). m.client) is ∙ (r.first.2.of_client ∙ sym (first_of w.client run.client.facts (line_of w.server) run.client w.client_kept f.client_facts f.client)) in
      let s : x.mark.server ≡ run.server.mark = ap (λ (m : Mark). m.server) is ∙ (r.first.2.of_server ∙ sym (first_of w.server run.server.facts (line_of w.client) run.server w.server_kept f.server_facts f.server)) in
      let cs = same_as w.kind w.client w.server w.client_items w.server_items w.client_kept w.server_kept run.client x.mark.client x.mark.server x.client_own x.client_theirs h.0.at_client v.client (ap (λ (m : SideMark). m.sent) c) (ap (λ (m : SideMark). m.taken) c) (ap (λ (m : SideMark). m.submitted) c) in
      let ss = same_as w.kind w.server w.client w.server_items w.client_items w.server_kept w.client_kept run.server x.mark.server x.mark.client x.server_own x.server_theirs h.0.at_server v.server (ap (λ (m : SideMark). m.sent) s) (ap (λ (m : SideMark). m.taken) s) (ap (λ (m : SideMark). m.submitted) s) in
      let same : x ≡ moment_at w run = same_moment x run.client.mark run.server.mark _ _ _ _ c s cs.own_is cs.theirs_is ss.own_is ss.theirs_is in
      let now : IsMoment w.kind w.client w.server (moment_at w run) = subst (IsMoment w.kind w.client w.server) same h.0 in (
        subst (λ k. StandsMarked run.client run.server k) (sym f.kind_is) (marked_so w.kind w.client w.server w.client_items w.server_items w.client_kept w.server_kept run.client run.server ws.client ws.server v.client f.server_facts.line_is now.at_client),
        subst (λ k. StandsMarked run.server run.client k) (sym f.kind_is) (marked_so w.kind w.server w.client w.server_items w.client_items w.server_kept w.client_kept run.server run.client ws.server ws.client v.server f.client_facts.line_is now.at_server),
      )

-- ---- behind some steps

-- A run of these steps has these marks, and a state stands at the last of them.
pub record SoFar (w : Wires) (steps : List Step) (marks : List Mark) (run : RunState) : Type 0 where
  pub front : List Moment
  pub run_is : IsRun w.kind w.client w.server steps marks
  pub each : AllMoments w.kind w.client w.server (front ++ moment_at w run ∷ [])
  pub stands : StandsAtLast w steps front marks run

pub starts : (w : Wires) (run : RunState) → AreWires w → IsFirstOf w run → AreStanding run → SoFar w [] (marks_at run ∷ []) run
starts w run ws f a = record { front = []; run_is = first_run w run ws f a; each = (first_moment w run ws f a, tt); stands = first_stands w run ws f a }

moments_more : (kind : Bool) (client server : Half) (moments : List Moment) (m : Moment) → AllMoments kind client server moments → IsMoment kind client server m → AllMoments kind client server (moments ++ m ∷ [])
moments_more kind client server [] m h k = (k, tt)
moments_more kind client server (x ∷ moments) m h k = (h.0, moments_more kind client server moments m h.1 k)

-- its moments are these
moments_are : (w : Wires) (steps : List Step) (marks : List Mark) (run : RunState) (s : SoFar w steps marks run) → s.run_is.moments ≡ s.front ++ moment_at w run ∷ []
moments_are w steps marks run s = moments_one w.kind w.client w.server s.run_is.moments (s.front ++ moment_at w run ∷ []) s.run_is.each s.each (s.run_is.marks_are ∙ s.stands.marks_are)

pub goes_on : (w : Wires) (steps : List Step) (step : Step) (marks : List Mark) (m : Mark) (run run' : RunState) → SoFar w steps marks run → GoesOnTo step run m run' → length steps + 1 < 2 ^ 64 → SoFar w (steps ++ step ∷ []) (marks ++ m ∷ []) run'
goes_on w steps step marks m run run' s g few =
    let h = g w steps s.front marks s.stands few in
    record {
      front = s.front ++ moment_at w run ∷ [];
      run_is = subst (λ x. IsRun w.kind w.client w.server (steps ++ step ∷ []) (marks ++ x ∷ [])) (sym h.2) (run_more w.kind w.client w.server steps s.front (moment_at w run) marks step (moment_at w run') s.run_is (moments_are w steps marks run s) h.0);
      each = moments_more w.kind w.client w.server (s.front ++ moment_at w run ∷ []) (moment_at w run') s.each h.0.moment;
      stands = h.1;
    }

-- ---- where it breaks

last_alike : {A : Type 0} (xs ys : List A) (x y : A) → xs ++ x ∷ [] ≡ ys ++ y ∷ [] → (xs ≡ ys) × (x ≡ y)
last_alike [] [] x y e = (refl, cc)
last_alike [] (b ∷ ys) x y e = absurd (let l = ap length e in omega (arith, l, length-append ys (y ∷ [])))
last_alike (a ∷ xs) [] x y e = absurd (let l = ap length e in omega (arith, l, length-append xs (x ∷ [])))
last_alike (a ∷ xs) (b ∷ ys) x y e =
    let tails : xs ++ x ∷ [] ≡ ys ++ y ∷ [] = cc in
    let r = last_alike xs ys x y tails in
    let h : a ≡ b = cc in
    let t : xs ≡ ys = r.0 in
    (cc, r.1)

get_in_map : {A B : Type 0} (f : A → B) (xs : List A) (i : ℕ) (x : A) → slice_get xs i ≡ Some x → slice_get (map f xs) i ≡ Some (f x)
get_in_map f [] i x e = absurd (let p : None ≡ Some x = e in cc)
get_in_map f (y ∷ xs) zero x e = (let p : y ≡ x = cc in ap (λ z. Some (f z)) p)
get_in_map f (y ∷ xs) (suc i) x e = get_in_map f xs i x e

-- no run of one step more has what was sent behind it
pub stops : (w : Wires) (steps : List Step) (step : Step) (marks more : List Mark) (p : SentPair) (run : RunState) → SoFar w steps marks run → StopsAt step p run → length steps + 1 < 2 ^ 64 → IsRun w.kind w.client w.server (steps ++ step ∷ []) more → map sent_at marks ≡ take (suc (length steps)) (map sent_at more) → slice_get (map sent_at more) (suc (length steps)) ≡ Some p → ⊥
stops w steps step marks more p run s n few longer sent last =
    let r = run_last w.kind w.client w.server steps step marks more s.stands.wires.client_is s.stands.wires.server_is s.run_is longer sent in
    let same = last_alike r.0 s.front r.1 (moment_at w run) (sym r.3 ∙ moments_are w steps marks run s) in
    let on : RunGoesOn w.kind w.client w.server steps s.front (moment_at w run) marks step r.2 = subst (λ x. RunGoesOn w.kind w.client w.server steps x (moment_at w run) marks step r.2) same.0 (subst (λ x. RunGoesOn w.kind w.client w.server steps r.0 x marks step r.2) same.1 r.5) in
    let many : length (r.0 ++ r.1 ∷ []) ≡ suc (length steps) = ap length (ap (λ xs. xs ++ r.1 ∷ []) same.0) ∙ (length-append s.front (r.1 ∷ []) ∙ (let e = s.stands.many in omega (arith, e))) in
    let at : slice_get longer.moments (suc (length steps)) ≡ Some r.2 = ap (λ xs. slice_get xs (suc (length steps))) r.4 ∙ (ap (slice_get ((r.0 ++ r.1 ∷ []) ++ r.2 ∷ [])) (sym many) ∙ get_last (r.0 ++ r.1 ∷ []) r.2) in
    let there : slice_get (map sent_at more) (suc (length steps)) ≡ Some (sent_at r.2.mark) = ap (λ xs. slice_get (map sent_at xs) (suc (length steps))) (sym longer.marks_are) ∙ get_in_map sent_at (map (λ (m : Moment). m.mark) longer.moments) (suc (length steps)) r.2.mark (get_in_map (λ (m : Moment). m.mark) longer.moments (suc (length steps)) r.2 at) in
    let pair : Some (sent_at r.2.mark) ≡ Some p = sym there ∙ last in
    n w steps s.front marks s.stands few r.2 (let q : sent_at r.2.mark ≡ p = cc in q) on

-- ---- of a record

-- the wires of a run are those of a record
pub record AreOf (j : JudgedRecord) (xs : List FinishedExchange) (w : Wires) : Type 0 where
  pub wires : AreWires w
  pub kind_is : w.kind ≡ is_gex j.names.kex
  pub client_is : w.client ≡ half_recorded Client j xs
  pub server_is : w.server ≡ half_recorded Server j xs

recorded : (j : JudgedRecord) (xs : List FinishedExchange) (w : Wires) (steps : List Step) (marks : List Mark) → AreOf j xs w → IsRun w.kind w.client w.server steps marks → IsRun (is_gex j.names.kex) (half_recorded Client j xs) (half_recorded Server j xs) steps marks
recorded j xs w steps marks a r = subst (λ k. IsRun k (half_recorded Client j xs) (half_recorded Server j xs) steps marks) a.kind_is (subst (λ h. IsRun w.kind h (half_recorded Server j xs) steps marks) a.client_is (subst (λ h. IsRun w.kind w.client h steps marks) a.server_is r))

unrecorded : (j : JudgedRecord) (xs : List FinishedExchange) (w : Wires) (steps : List Step) (marks : List Mark) → AreOf j xs w → IsRun (is_gex j.names.kex) (half_recorded Client j xs) (half_recorded Server j xs) steps marks → IsRun w.kind w.client w.server steps marks
unrecorded j xs w steps marks a r = subst (λ h. IsRun w.kind w.client h steps marks) (sym a.server_is) (subst (λ h. IsRun w.kind h (half_recorded Server j xs) steps marks) (sym a.client_is) (subst (λ k. IsRun k (half_recorded Client j xs) (half_recorded Server j xs) steps marks) (sym a.kind_is) r))

-- its first steps are a run with these marks
pub runs_so_far : (j : JudgedRecord) (xs : List FinishedExchange) (w : Wires) (n : ℕ) (marks : List Mark) (run : RunState) → AreOf j xs w → SoFar w (take n j.recording.steps) marks run → map sent_at marks ≡ take (suc n) j.recording.sent → RunsBy j xs n marks
runs_so_far j xs w n marks run a s sent = record { run = recorded j xs w (take n j.recording.steps) marks a s.run_is; sent = sent }

take_next : {A : Type 0} (xs : List A) (n : ℕ) (x : A) → slice_get xs n ≡ Some x → take (suc n) xs ≡ take n xs ++ x ∷ []
take_next [] n x e = absurd (let p : None ≡ Some x = e in cc)
take_next (y ∷ ys) zero x e = (let p : y ≡ x = cc in ap (λ z. z ∷ []) p)
take_next (y ∷ ys) (suc n) x e = ap (λ zs. y ∷ zs) (take_next ys n x e)

taken_all : {A : Type 0} (xs : List A) (n : ℕ) (x : A) → slice_get xs n ≡ Some x → length (take n xs) ≡ n
taken_all xs n x e = length-take-le n xs (let b = slice_get_within xs n x e in omega (arith, b))

get_taken : {A : Type 0} (n : ℕ) (xs : List A) (i : ℕ) → i < n → slice_get (take n xs) i ≡ slice_get xs i
get_taken zero xs i l = absurd (omega (arith, l))
get_taken (suc n) [] i l = refl
get_taken (suc n) (x ∷ xs) zero l = refl
get_taken (suc n) (x ∷ xs) (suc i) l = get_taken n xs i (omega (arith, l))

take_within : {A : Type 0} (m n : ℕ) (xs : List A) → m ≤ n → take m (take n xs) ≡ take m xs
take_within zero n xs l = refl
take_within (suc m) zero xs l = absurd (omega (arith, l))
take_within (suc m) (suc n) [] l = refl
take_within (suc m) (suc n) (x ∷ xs) l = ap (λ t. x ∷ t) (take_within m n xs (omega (arith, l)))

-- one step more of it
pub more_so_far : (w : Wires) (steps : List Step) (n : ℕ) (step : Step) (marks : List Mark) (m : Mark) (run run' : RunState) → SoFar w (take n steps) marks run → slice_get steps n ≡ Some step → GoesOnTo step run m run' → length steps < 2 ^ 64 → SoFar w (take (suc n) steps) (marks ++ m ∷ []) run'
more_so_far w steps n step marks m run run' s e g few =
    subst (λ xs. SoFar w xs (marks ++ m ∷ []) run') (sym (take_next steps n step e))
    (goes_on w (take n steps) step marks m run run' s g (let a = taken_all steps n step e in let b = slice_get_within steps n step e in omega (arith, a, b, few)))

-- the mark behind a step is the first that isn't one of a run
pub breaks_behind : (j : JudgedRecord) (xs : List FinishedExchange) (w : Wires) (n : ℕ) (step : Step) (marks : List Mark) (p : SentPair) (run : RunState) → AreOf j xs w → SoFar w (take n j.recording.steps) marks run → map sent_at marks ≡ take (suc n) j.recording.sent
    → slice_get j.recording.steps n ≡ Some step → slice_get j.recording.sent (suc n) ≡ Some p → StopsAt step p run → length j.recording.steps < 2 ^ 64 → BreaksRunAt j xs (suc n)
breaks_behind j xs w n step marks p run a s sent e f stop few = record {
  within = (let b = slice_get_within j.recording.steps n step e in omega (arith, b));
  before = λ k l. runs_less j xs k n (omega (arith, l)) (marks, runs_so_far j xs w n marks run a s sent);
  broken = λ r. broken r.0 r.1;
} where
  many : length (take n j.recording.steps) ≡ n
  many = taken_all j.recording.steps n step e

  broken : (more : List Mark) → RunsBy j xs (suc n) more → ⊥
  broken more r =
      let longer : IsRun w.kind w.client w.server (take n j.recording.steps ++ step ∷ []) more = subst (λ t. IsRun w.kind w.client w.server t more) (take_next j.recording.steps n step e) (unrecorded j xs w (take (suc n) j.recording.steps) more a r.run) in
      let front : map sent_at marks ≡ take (suc (length (take n j.recording.steps))) (map sent_at more) =
      sent ∙ (sym (take_within (suc n) (suc (suc n)) j.recording.sent (omega arith)) ∙ (ap (take (suc n)) (sym r.sent) ∙ ap (λ k. take (suc k) (map sent_at more)) (sym many))) in
      let last : slice_get (map sent_at more) (suc (length (take n j.recording.steps))) ≡ Some p =
      ap (λ k. slice_get (map sent_at more) (suc k)) many ∙ (ap (λ t. slice_get t (suc n)) r.sent ∙ (get_taken (suc (suc n)) j.recording.sent (suc n) (omega arith) ∙ f)) in
      stops w (take n j.recording.steps) step marks more p run s stop (let b = slice_get_within j.recording.steps n step e in omega (arith, many, b, few)) longer front last

-- the mark before the first step isn't one of a run
pub breaks_first : (j : JudgedRecord) (xs : List FinishedExchange) (w : Wires) (run : RunState) → AreOf j xs w → IsFirstOf w run → (slice_get j.recording.sent 0 ≡ Some (sent_at (marks_at run)) → AreStanding run → ⊥) → BreaksRunAt j xs 0
breaks_first j xs w run a f n = record { within = omega arith; before = λ k l. absurd (omega (arith, l)); broken = λ r. broken r.0 r.1 } where
  broken : (more : List Mark) → RunsBy j xs 0 more → ⊥
  broken more r =
      let run0 : IsRun w.kind w.client w.server [] more = unrecorded j xs w [] more a r.run in
      let c : run0.first.0.client ≡ run.client.mark = run0.first.2.of_client ∙ sym (first_of w.client run.client.facts (line_of w.server) run.client w.client_kept f.client_facts f.client) in
      let s : run0.first.0.server ≡ run.server.mark = run0.first.2.of_server ∙ sym (first_of w.server run.server.facts (line_of w.client) run.server w.server_kept f.server_facts f.server) in
      let pair : sent_at run0.first.0 ≡ sent_at (marks_at run) = same_pair run0.first.0.client.sent run.client.mark.sent run0.first.0.server.sent run.server.mark.sent (ap (λ (m : SideMark). m.sent) c) (ap (λ (m : SideMark). m.sent) s) in
      let at : slice_get j.recording.sent 0 ≡ Some (sent_at (marks_at run)) = sym (get_taken 1 j.recording.sent 0 (omega arith)) ∙ (ap (λ t. slice_get t 0) (sym r.sent) ∙ (get_in_map sent_at more 0 run0.first.0 run0.first.1 ∙ ap Some pair)) in
      n at (stands_by_run w run more a.wires f run0)
    where
      same_pair : (a b c d : ℕ) → a ≡ b → c ≡ d → record { client = a; server = c } ≡ (let t : SentPair = record { client = b; server = d } in t)
      same_pair a b c d e f = ap (λ x. let t : SentPair = record { client = x; server = c } in t) e ∙ ap (λ x. let t : SentPair = record { client = b; server = x } in t) f
