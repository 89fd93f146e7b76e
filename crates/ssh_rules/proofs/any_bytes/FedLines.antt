-- The version line of all bytes that a side was fed, by the pieces in which they came.
use Rattle.std.proofs.Common.{◌≡◌, ℕ, zero, suc, ◌+◌, ◌-◌, ◌≤◌, List, [], ◌∷◌, ◌++◌, length, drop, refl, sym, ◌∙◌, ap, subst, arith, Bool, true, false, Option, Some, None, append_assoc, length-drop}
use Rattle.std.specs.Prelude.{Result, Ok, Err}
use Rattle.std.proofs.lemmas.List.{drop-append-le}
use Rattle.std.proofs.Math.Seq.{drop-append-add}
use Rattle.ssh_wire.specs.Lines.{IdFound, NotYet, Id, Version, found_behind, id_of, line_end, Line, Unfinished, IdLine, OtherLine, TooLong, line_of}
use Rattle.ssh_wire.specs.Reading.{IdReading, Waiting, Heard, Failed, still_allowed, by_end, reading_left, Decides, Feeds}
use Rattle.ssh_wire.specs.declared.error.Error.{Error}
use Rattle.ssh_wire.specs.declared.error.Error.TheVariants as error
use Rattle.ssh_wire.specs.declared.read_id.IdProgress.{IdProgress}
use Rattle.ssh_wire.specs.declared.read_id.IdProgress.TheVariants as progress
use Rattle.ssh_wire.specs.declared.side.Side.{Side}
use Rattle.ssh_wire.specs.declared.side.Side.TheVariants.{Client, Server}
use Rattle.ssh_wire.proofs.Lemmas.{decided_stays, from_left, beyond, next, id_of_line, end_of_other, end_of_id, left_other, left_unfinished, line_end-within}
use Rattle.ssh_rules.specs.Handled.{heard_in, id_text_in, packets_in}
use Rattle.ssh_kex.specs.Setting.{Says}
use Rattle.ssh_kex.specs.declared.config.Config.{Config}
use Rattle.ssh_rules.specs.Machine.{Event, SideState, Steps}
use Rattle.ssh_rules.proofs.turns.CallTurns.{heard_stays}
use Rattle.ssh_rules.specs.Standing.{HearsFrom, IsNoId, ReadsLineFrom, lets_pass}

heard_is : (side : Side) (fed : List ℕ) → heard_in side fed ≡ id_of (still_allowed (lets_pass side) 0) fed
heard_is Client fed = refl
heard_is Server fed = refl

-- ---- an id line lies within the bytes

behind_id : (n : ℕ) (f : IdFound) (t : List ℕ) (e : ℕ) → found_behind n f ≡ Id t e → (k : ℕ) × (f ≡ Id t k) × (n + k ≡ e)
behind_id n NotYet t e h = absurd (cc)
behind_id n Version t e h = absurd (cc)
behind_id n (Id s k) t e h =
    let texts : s ≡ t = cc in
    let ends : n + k ≡ e = cc in
    (k, ap (λ x. Id x k) texts, ends)

within_by : (left : ℕ) (b : List ℕ) → ((n : ℕ) (t : List ℕ) (e : ℕ) → n ≤ length b → next left b n ≡ Id t e → e ≤ length b) → (line : Line) → line_of b ≡ line → (t : List ℕ) (e : ℕ) → id_of left b ≡ Id t e → e ≤ length b
within_by left b deeper Unfinished m t e h = absurd (let z = sym (id_of_line left b Unfinished m) ∙ h in cc)
within_by left b deeper TooLong m t e h = absurd (let z = sym (id_of_line left b TooLong m) ∙ h in cc)
within_by left b deeper (IdLine s n) m t e h =
    let found : Id s n ≡ Id t e = sym (id_of_line left b (IdLine s n) m) ∙ h in
    let same : n ≡ e = cc in
    let w = line_end-within b n (end_of_id b (line_end b) s n m) in
    omega (arith, w, same)
within_by left b deeper (OtherLine n) m t e h = deeper n t e (line_end-within b n (end_of_other b (line_end b) n m)) (sym (id_of_line left b (OtherLine n) m) ∙ h)

pub id_within : (left : ℕ) (b t : List ℕ) (e : ℕ) → id_of left b ≡ Id t e → e ≤ length b
id_within zero b t e h = within_by zero b (λ n s f w k. absurd (cc)) (line_of b) refl t e h
id_within (suc k) b t e h =
    within_by (suc k) b (λ n s f w j.
    let found = behind_id n (id_of k (drop n b)) s f j in
    let more = id_within k (drop n b) s found.0 found.1 in
    let size = length-drop n b in
    let sum = found.2 in
    omega (arith, size, more, sum, w)) (line_of b) refl t e h

-- ---- the bytes so far

-- what all bytes so far say of the version line, and how far its reading is
abbrev pub LineSoFar : Side → List ℕ → IdReading → Type 0
LineSoFar side fed (Waiting bytes others) = (heard_in side fed ≡ NotYet) × (reading_left (still_allowed (lets_pass side) 0) fed 0 ≡ Waiting bytes others)
LineSoFar side fed (Heard text) = (end : ℕ) × (heard_in side fed ≡ Id text end)
LineSoFar side fed Failed = ⊥

-- a side that was fed nothing
pub line_first : (side : Side) → LineSoFar side [] (Waiting [] 0)
line_first Client = (refl, refl)
line_first Server = (refl, refl)

-- what is left of bytes that decide nothing decides nothing
one_fewer : (allow : Bool) (o k : ℕ) → suc k ≡ still_allowed allow o → k ≡ still_allowed allow (o + 1)
one_fewer false o k h = absurd (omega (arith, h))
one_fewer true o k h = omega (arith, h)

behind_not : (n : ℕ) (f : IdFound) → found_behind n f ≡ NotYet → f ≡ NotYet
behind_not n NotYet h = refl
behind_not n Version h = cc
behind_not n (Id s k) h = cc

same_waiting : (allow : Bool) (left : ℕ) (b w : List ℕ) (o p : ℕ) → left ≡ still_allowed allow o → id_of left b ≡ NotYet → Waiting b o ≡ Waiting w p → id_of (still_allowed allow p) w ≡ NotYet
same_waiting allow left b w o p same h e =
    let bytes : b ≡ w = cc in
    let others : o ≡ p = cc in
    ap (λ l. id_of (still_allowed allow p) l) (sym bytes) ∙ (ap (λ n. id_of (still_allowed allow n) b) (sym others) ∙ (ap (λ n. id_of n b) (sym same) ∙ h))

left_by : (allow : Bool) (left : ℕ) (b w : List ℕ) (o p : ℕ) → ((n : ℕ) → line_of b ≡ OtherLine n → next left b n ≡ NotYet → id_of (still_allowed allow p) w ≡ NotYet) → left ≡ still_allowed allow o → (line : Line) → line_of b ≡ line → id_of left b ≡ NotYet → reading_left left b o ≡ Waiting w p → id_of (still_allowed allow p) w ≡ NotYet
left_by allow left b w o p deeper same Unfinished m h e = same_waiting allow left b w o p same h (sym (left_unfinished left b o m) ∙ e)
left_by allow left b w o p deeper same TooLong m h e = absurd (let z = sym (id_of_line left b TooLong m) ∙ h in cc)
left_by allow left b w o p deeper same (IdLine s n) m h e = absurd (let z = sym (id_of_line left b (IdLine s n) m) ∙ h in cc)
left_by allow left b w o p deeper same (OtherLine n) m h e = deeper n m (sym (id_of_line left b (OtherLine n) m) ∙ h)

left_none : (allow : Bool) (left : ℕ) (b w : List ℕ) (o p : ℕ) → left ≡ still_allowed allow o → id_of left b ≡ NotYet → reading_left left b o ≡ Waiting w p → id_of (still_allowed allow p) w ≡ NotYet
left_none allow zero b w o p same h e = left_by allow zero b w o p (λ n m k. absurd (cc)) same (line_of b) refl h e
left_none allow (suc k) b w o p same h e = left_by allow (suc k) b w o p (λ n m j. left_none allow k (drop n b) w (o + 1) p (one_fewer allow o k same) (behind_not n (id_of k (drop n b)) j) (sym (left_other k b o n m) ∙ e)) same (line_of b) refl h e

-- what the piece and the bytes that waited decide, all bytes decide: the same text, which ends as far behind
pub record SameLine (side : Side) (fed piece bytes : List ℕ) (others : ℕ) : Type 0 where
  pub none : id_of (still_allowed (lets_pass side) others) (bytes ++ piece) ≡ NotYet → (heard_in side (fed ++ piece) ≡ NotYet) × (reading_left (still_allowed (lets_pass side) 0) (fed ++ piece) 0 ≡ reading_left (still_allowed (lets_pass side) others) (bytes ++ piece) others)
  pub some : (text : List ℕ) (end : ℕ) → id_of (still_allowed (lets_pass side) others) (bytes ++ piece) ≡ Id text end → (all : ℕ) × (heard_in side (fed ++ piece) ≡ Id text all) × (drop all (fed ++ piece) ≡ drop end (bytes ++ piece))
  pub bad : id_of (still_allowed (lets_pass side) others) (bytes ++ piece) ≡ Version → heard_in side (fed ++ piece) ≡ Version

-- from what decides, by the answer
none_from : (found : IdFound) (had : ℕ) (left new : IdReading) → Decides found had left (Ok progress.NotYet) new → (found ≡ NotYet) × (new ≡ left)
none_from NotYet had left new h = (refl, h.1)
none_from Version had left new h = absurd (let q = h.0 in cc)
none_from (Id t e) had left new h = absurd (let q = h.0 in cc)

some_from : (found : IdFound) (had used : ℕ) (left : IdReading) (text : List ℕ) → Decides found had left (Ok (progress.Id used)) (Heard text) → (all : ℕ) × (found ≡ Id text all) × (all - had ≡ used)
some_from NotYet had used left text h = absurd (let q = h.0 in cc)
some_from Version had used left text h = absurd (let q = h.0 in cc)
some_from (Id t e) had used left text h =
    let texts : text ≡ t = (let q = h.1 in cc) in
    let places : used ≡ e - had = (let q = h.0 in cc) in
    (e, ap (λ x. Id x e) (sym texts), sym places)

bad_from : (found : IdFound) (had : ℕ) (left : IdReading) → Decides found had left (Err error.Version) Failed → found ≡ Version
bad_from NotYet had left h = absurd (let q = h.0 in cc)
bad_from Version had left h = refl
bad_from (Id t e) had left h = absurd (let q = h.0 in cc)

pub same_line : (side : Side) (fed piece bytes : List ℕ) (others : ℕ) → LineSoFar side fed (Waiting bytes others) → SameLine side fed piece bytes others
same_line side fed piece bytes others so_far = record { none = none; some = some; bad = bad } where
  allow : Bool
  allow = lets_pass side

  first : id_of (still_allowed (lets_pass side) 0) fed ≡ NotYet
  first = sym (heard_is side fed) ∙ so_far.0

  all : (r : Result IdProgress Error) (new : IdReading) → Feeds (lets_pass side) (Waiting bytes others) piece r new → Decides (id_of (still_allowed (lets_pass side) 0) (fed ++ piece)) (length fed) (reading_left (still_allowed (lets_pass side) 0) (fed ++ piece) 0) r new
  all r new f = from_left (lets_pass side) (still_allowed (lets_pass side) 0) 0 fed piece r new refl first (subst (λ i. Feeds (lets_pass side) i piece r new) (sym so_far.1) f)

  none : id_of (still_allowed (lets_pass side) others) (bytes ++ piece) ≡ NotYet → (heard_in side (fed ++ piece) ≡ NotYet) × (reading_left (still_allowed (lets_pass side) 0) (fed ++ piece) 0 ≡ reading_left (still_allowed (lets_pass side) others) (bytes ++ piece) others)
  none e =
      let left = reading_left (still_allowed (lets_pass side) others) (bytes ++ piece) others in
      let d = none_from _ _ _ _ (all (Ok progress.NotYet) left (subst (λ f. Decides f (length bytes) left (Ok progress.NotYet) left) (sym e) (refl, refl))) in
      (heard_is side (fed ++ piece) ∙ d.0, sym d.1)

  some : (text : List ℕ) (end : ℕ) → id_of (still_allowed (lets_pass side) others) (bytes ++ piece) ≡ Id text end → (all : ℕ) × (heard_in side (fed ++ piece) ≡ Id text all) × (drop all (fed ++ piece) ≡ drop end (bytes ++ piece))
  some text end e =
      let left = reading_left (still_allowed (lets_pass side) others) (bytes ++ piece) others in
      let d = some_from _ _ _ _ text (all (Ok (progress.Id (end - length bytes))) (Heard text) (subst (λ f. Decides f (length bytes) left (Ok (progress.Id (end - length bytes))) (Heard text)) (sym e) (refl, refl))) in
      let far : length fed ≤ d.0 = beyond (still_allowed (lets_pass side) 0) fed piece text d.0 first d.1 in
      let near : length bytes ≤ end = near_end e in
      let sizes = d.2 in
      let k : d.0 ≡ length fed + (end - length bytes) = omega (arith, far, sizes) in
      let j : length bytes + (end - length bytes) ≡ end = omega (arith, near) in
      (d.0, heard_is side (fed ++ piece) ∙ d.1, ap (λ n. drop n (fed ++ piece)) k ∙ (drop-append-add fed piece (end - length bytes) ∙ (sym (drop-append-add bytes piece (end - length bytes)) ∙ ap (λ n. drop n (bytes ++ piece)) j)))
    where
      near_end : id_of (still_allowed (lets_pass side) others) (bytes ++ piece) ≡ Id text end → length bytes ≤ end
      near_end e = beyond (still_allowed (lets_pass side) others) bytes piece text end (left_none (lets_pass side) (still_allowed (lets_pass side) 0) fed bytes 0 others refl first so_far.1) e

  bad : id_of (still_allowed (lets_pass side) others) (bytes ++ piece) ≡ Version → heard_in side (fed ++ piece) ≡ Version
  bad e =
      let left = reading_left (still_allowed (lets_pass side) others) (bytes ++ piece) others in
      heard_is side (fed ++ piece) ∙ bad_from _ _ _ (all (Err error.Version) Failed (subst (λ f. Decides f (length bytes) left (Err error.Version) Failed) (sym e) (refl, refl)))

-- ---- bytes behind

decided_not : (f : IdFound) (t : List ℕ) (e : ℕ) → f ≡ Id t e → f ≡ NotYet → ⊥
decided_not f t e h k = (let z : Id t e ≡ NotYet = sym h ∙ k in cc)

version_not : (f : IdFound) → f ≡ Version → f ≡ NotYet → ⊥
version_not f h k = (let z : Version ≡ NotYet = sym h ∙ k in cc)

pub heard_stays_so : (side : Side) (fed more text : List ℕ) (end : ℕ) → heard_in side fed ≡ Id text end → heard_in side (fed ++ more) ≡ Id text end
heard_stays_so side fed more text end h = heard_is side (fed ++ more) ∙ (decided_stays (still_allowed (lets_pass side) 0) fed more (decided_not _ text end (sym (heard_is side fed) ∙ h)) ∙ (sym (heard_is side fed) ∙ h))

pub version_stays : (side : Side) (fed more : List ℕ) → heard_in side fed ≡ Version → heard_in side (fed ++ more) ≡ Version
version_stays side fed more h = heard_is side (fed ++ more) ∙ (decided_stays (still_allowed (lets_pass side) 0) fed more (version_not _ (sym (heard_is side fed) ∙ h)) ∙ (sym (heard_is side fed) ∙ h))

-- what stands behind a line that was found, with more bytes
pub behind_more : (side : Side) (fed more text : List ℕ) (end : ℕ) → heard_in side fed ≡ Id text end → packets_in (heard_in side (fed ++ more)) (fed ++ more) ≡ packets_in (heard_in side fed) fed ++ more
behind_more side fed more text end h =
    ap (λ f. packets_in f (fed ++ more)) (heard_stays_so side fed more text end h)
    ∙ (drop-append-le end fed more (id_within (still_allowed (lets_pass side) 0) fed text end (sym (heard_is side fed) ∙ h))
    ∙ ap (λ f. packets_in f fed ++ more) (sym h))

-- ---- a piece

-- a reading that decides nothing waits
waiting_by : (k : ℕ) (b : List ℕ) (o : ℕ) → ((n : ℕ) → (w : List ℕ) × (p : ℕ) × (reading_left k (drop n b) (o + 1) ≡ Waiting w p)) → (e : Option ℕ) → (w : List ℕ) × (p : ℕ) × (by_end (Waiting b o) (λ n. reading_left k (drop n b) (o + 1)) e ≡ Waiting w p)
waiting_by k b o deeper None = (b, o, refl)
waiting_by k b o deeper (Some n) = deeper n

waiting_left : (left : ℕ) (b : List ℕ) (o : ℕ) → (w : List ℕ) × (p : ℕ) × (reading_left left b o ≡ Waiting w p)
waiting_left zero b o = (b, o, refl)
waiting_left (suc k) b o = waiting_by k b o (λ n. waiting_left k (drop n b) (o + 1)) (line_end b)

nil_front : (a b : List ℕ) → [] ≡ a ++ b → (a ≡ []) × (b ≡ [])
nil_front [] b e = (refl, sym e)
nil_front (x ∷ a) b e = cc

-- what a piece leaves: `done` are the bytes behind the line that were handled before it
pub record LineGoes (side : Side) (fed done : List ℕ) (heard : Option (List ℕ)) (line : IdReading) (behind : List ℕ) : Type 0 where
  pub line_is : LineSoFar side fed line
  pub read : packets_in (heard_in side fed) fed ≡ done ++ behind
  pub heard_as : heard ≡ id_text_in (heard_in side fed)

pub line_goes : (says : Says) (side : Side) (config : Config) (own_id fed piece done waiting : List ℕ) (line line' : IdReading) (events : List Event) (behind : List ℕ) (st st' : SideState) → LineGoes side fed done st.heard line waiting → Steps says side config own_id st events st' → ReadsLineFrom side line waiting piece events line' behind → LineGoes side (fed ++ piece) done st'.heard line' behind
line_goes says side config own_id fed piece done waiting (Waiting bytes others) line' events behind st st' g h r = by (id_of (still_allowed (lets_pass side) others) (bytes ++ piece)) refl r where
  m : SameLine side fed piece bytes others
  m = same_line side fed piece bytes others g.line_is

  nothing : (done ≡ []) × (waiting ≡ [])
  nothing = nil_front done waiting (ap (λ f. packets_in f fed) (sym g.line_is.0) ∙ g.read)

  by : (found : IdFound) → id_of (still_allowed (lets_pass side) others) (bytes ++ piece) ≡ found → HearsFrom side found (bytes ++ piece) others events line' behind → LineGoes side (fed ++ piece) done st'.heard line' behind
  by NotYet e f =
      let n = m.none e in
      let w = waiting_left (still_allowed (lets_pass side) others) (bytes ++ piece) others in
      let same : st' ≡ st = subst (λ es. Steps says side config own_id st es st') f.0 h in
      record {
        line_is = subst (λ l. LineSoFar side (fed ++ piece) l) (sym (f.1 ∙ w.2)) (n.0, n.1 ∙ w.2);
        read = ap (λ q. packets_in q (fed ++ piece)) n.0 ∙ (ap (λ q. q ++ []) (sym nothing.0) ∙ ap (λ q. done ++ q) (sym f.2));
        heard_as = ap (λ (s : SideState). s.heard) same ∙ (g.heard_as ∙ (ap id_text_in g.line_is.0 ∙ ap id_text_in (sym n.0)));
      }
  by (Id text end) e f =
      let s = m.some text end e in
      let steps = subst (λ es. Steps says side config own_id st es st') f.0.1 h in
      let heard : st'.heard ≡ Some text = heard_stays says side config own_id f.0.0 steps.0 st' f.0.2 steps.2 ∙ ap (λ (q : SideState). q.heard) steps.1.becomes in
      record {
        line_is = subst (λ l. LineSoFar side (fed ++ piece) l) (sym f.1) (s.0, s.1);
        read = ap (λ q. packets_in q (fed ++ piece)) s.1 ∙ (s.2 ∙ (sym f.2 ∙ ap (λ q. q ++ behind) (sym nothing.0)));
        heard_as = heard ∙ ap id_text_in (sym s.1);
      }
  by Version e f = absurd f
line_goes says side config own_id fed piece done waiting (Heard text) line' events behind st st' g h r =
    let l = g.line_is in
    let on = heard_stays_so side fed piece text l.0 l.1 in
    record {
      line_is = subst (λ q. LineSoFar side (fed ++ piece) q) (sym r.1) (l.0, on);
      read = behind_more side fed piece text l.0 l.1 ∙ (ap (λ q. q ++ piece) g.read ∙ (append_assoc done waiting piece ∙ ap (λ q. done ++ q) (sym r.2)));
      heard_as = heard_stays says side config own_id events st st' r.0 h ∙ (g.heard_as ∙ (ap id_text_in l.1 ∙ ap id_text_in (sym on)));
    }
line_goes says side config own_id fed piece done waiting Failed line' events behind st st' g h r = absurd r

-- a piece with which the line is none
pub line_ends : (side : Side) (fed piece done waiting : List ℕ) (line : IdReading) (events : List Event) (heard : Option (List ℕ)) → LineGoes side fed done heard line waiting → IsNoId side line piece events → (heard_in side (fed ++ piece) ≡ Version) × (done ≡ []) × (waiting ≡ []) × (events ≡ []) × (heard ≡ None)
line_ends side fed piece done waiting (Waiting bytes others) events heard g n =
    let m = same_line side fed piece bytes others g.line_is in
    let z = nil_front done waiting (ap (λ f. packets_in f fed) (sym g.line_is.0) ∙ g.read) in
    (m.bad n.1, z.0, z.1, n.0, g.heard_as ∙ ap id_text_in g.line_is.0)
line_ends side fed piece done waiting (Heard text) events heard g n = absurd n
line_ends side fed piece done waiting Failed events heard g n = absurd n
