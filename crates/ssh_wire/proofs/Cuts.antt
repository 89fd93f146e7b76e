-- Reading depends on the bytes and not on their cuts.
use Rattle.std.proofs.Common.{◌≡◌, ℕ, zero, suc, ◌+◌, ◌-◌, ◌<◌, ◌≤◌, Bool, true, false, List, [], ◌∷◌, ◌++◌, length, take, drop, Option, Some, None, Result, Ok, if◌then◌else◌, nat_lt, nat_le, refl, sym, ap, ◌∙◌, subst, append_assoc, length-append, length-drop, arith}
use Rattle.std.proofs.lemmas.Bool.Decides.{nat_tests}
use Rattle.std.proofs.lemmas.List.{take-append-le, drop-append-le}
use Rattle.ssh_wire.specs.Lines.{IdFound, NotYet, Id, Version, found_behind, id_of, line_end, line_text, is_id_text, Line, Unfinished, IdLine, OtherLine, TooLong, line_to, line_of, longest_line}
use Rattle.ssh_wire.specs.Reading.{IdReading, Waiting, Heard, Failed, still_allowed, reading_left, Decides, Feeds}
use Rattle.ssh_wire.specs.Stepping.{shifted_answer}
use Rattle.ssh_wire.specs.declared.error.Error.{Error}
use Rattle.ssh_wire.specs.declared.read_id.IdProgress.{IdProgress}
use Rattle.ssh_wire.specs.declared.read_id.IdProgress.TheVariants as progress
use Rattle.ssh_wire.proofs.LineLaws.{line_end-stays, line_end-within, lf_end-within}
use Rattle.ssh_wire.proofs.Ends.{line_end-append}
use Rattle.ssh_wire.proofs.LineByLine.{next, id_of_line, left_other, left_unfinished, end_of_other, end_of_id, no_end}

-- a line that was found, and what is known of its end
line_stays : (b q : List ℕ) (n : ℕ) → line_end b ≡ Some n → line_of (b ++ q) ≡ line_of b
line_stays b q n e =
    let within : n ≤ length b = line_end-within b n e in
    ap (line_to (b ++ q)) (line_end-stays b q n e)
    ∙ (ap (λ l. if nat_lt longest_line n then TooLong else if is_id_text (line_text l) then IdLine (line_text l) n else OtherLine n) (take-append-le n b q within)
    ∙ ap (line_to b) (sym e))

-- a line that is too long stays so
end_behind : (b q : List ℕ) (n : ℕ) → 0 < length b → line_end b ≡ None → line_end (b ++ q) ≡ Some n → length b < n
end_behind b q n some none e = let place = lf_end-within (length b) q n (sym (line_end-append b q some none) ∙ e) in place.0

long_stays : (b q : List ℕ) → line_of b ≡ TooLong → line_of (b ++ q) ≡ TooLong
long_stays b q h = by_end_of (line_end b) refl h
  where
    longer : longest_line ≤ length b → (e : Option ℕ) → line_end b ≡ None → line_end (b ++ q) ≡ e → line_to (b ++ q) e ≡ TooLong
    longer long None none f =
        let more : nat_le longest_line (length (b ++ q)) ≡ true = (let size = length-append b q in grind (arith, nat_tests)) in
        ap (λ t. if t then TooLong else Unfinished) more
    longer long (Some n) none f =
        let beyond : length b < n = end_behind b q n (omega arith) none f in
        let more : nat_lt longest_line n ≡ true = grind (arith, nat_tests) in
        ap (λ t. if t then TooLong else if is_id_text (line_text (take n (b ++ q))) then IdLine (line_text (take n (b ++ q))) n else OtherLine n) more

    by_length : (t : Bool) → nat_le longest_line (length b) ≡ t → line_end b ≡ None → (if t then TooLong else Unfinished) ≡ TooLong → line_of (b ++ q) ≡ TooLong
    by_length true f e k = longer (grind (arith, nat_tests)) (line_end (b ++ q)) e refl
    by_length false f e k = cc

    by_end_of : (e : Option ℕ) → line_end b ≡ e → line_to b e ≡ TooLong → line_of (b ++ q) ≡ TooLong
    by_end_of None e k = by_length (nat_le longest_line (length b)) refl e k
    by_end_of (Some n) e k = line_stays b q n e ∙ h

-- what was decided stays so
stays_by : (left : ℕ) (b q : List ℕ) → ((n : ℕ) → n ≤ length b → (next left b n ≡ NotYet → ⊥) → next left (b ++ q) n ≡ next left b n) → (line : Line) → line_of b ≡ line → (id_of left b ≡ NotYet → ⊥) → id_of left (b ++ q) ≡ id_of left b
stays_by left b q behind_it Unfinished m decided = absurd (decided (id_of_line left b Unfinished m))
stays_by left b q behind_it TooLong m decided = id_of_line left (b ++ q) TooLong (long_stays b q m) ∙ sym (id_of_line left b TooLong m)
stays_by left b q behind_it (IdLine t n) m decided =
    id_of_line left (b ++ q) (IdLine t n) (line_stays b q n (end_of_id b (line_end b) t n m) ∙ m) ∙ sym (id_of_line left b (IdLine t n) m)
stays_by left b q behind_it (OtherLine n) m decided =
    let end : line_end b ≡ Some n = end_of_other b (line_end b) n m in
    id_of_line left (b ++ q) (OtherLine n) (line_stays b q n end ∙ m)
    ∙ (behind_it n (line_end-within b n end) (λ z. decided (id_of_line left b (OtherLine n) m ∙ z)) ∙ sym (id_of_line left b (OtherLine n) m))

pub decided_stays : (left : ℕ) (b q : List ℕ) → (id_of left b ≡ NotYet → ⊥) → id_of left (b ++ q) ≡ id_of left b
decided_stays zero b q decided = stays_by zero b q (λ n w g. refl) (line_of b) refl decided
decided_stays (suc k) b q decided =
    stays_by (suc k) b q (λ n w g. ap (λ l. found_behind n (id_of k l)) (drop-append-le n b q w) ∙ ap (found_behind n) (decided_stays k (drop n b) q (λ z. g (ap (found_behind n) z)))) (line_of b) refl decided

-- what is behind a line
behind_id : (n : ℕ) (f : IdFound) (t : List ℕ) (e : ℕ) → found_behind n f ≡ Id t e → (k : ℕ) × (f ≡ Id t k) × (n + k ≡ e)
behind_id n NotYet t e h = absurd (cc)
behind_id n Version t e h = absurd (cc)
behind_id n (Id s k) t e h =
    let texts : s ≡ t = cc in
    let ends : n + k ≡ e = cc in
    (k, ap (λ x. Id x k) texts, ends)

pub behind_not : (n : ℕ) (f : IdFound) → found_behind n f ≡ NotYet → f ≡ NotYet
behind_not n NotYet h = refl
behind_not n Version h = cc
behind_not n (Id s k) h = cc

-- an id line that bytes complete ends behind what stood before them
next_beyond : (left : ℕ) (b : List ℕ) (n : ℕ) (t : List ℕ) (e : ℕ) → next left b n ≡ Id t e → n ≤ e
next_beyond zero b n t e h = absurd (cc)
next_beyond (suc k) b n t e h = let f = behind_id n (id_of k (drop n b)) t e h in omega (arith, f.2)

ends_beyond : (left : ℕ) (b q t : List ℕ) (e : ℕ) → 0 < length b → line_end b ≡ None → (line : Line) → line_of (b ++ q) ≡ line → id_of left (b ++ q) ≡ Id t e → length b ≤ e
ends_beyond left b q t e some none Unfinished m h = absurd (let q = sym (id_of_line left (b ++ q) Unfinished m) ∙ h in cc)
ends_beyond left b q t e some none TooLong m h = absurd (let q = sym (id_of_line left (b ++ q) TooLong m) ∙ h in cc)
ends_beyond left b q t e some none (IdLine s n) m h =
    let found : Id s n ≡ Id t e = sym (id_of_line left (b ++ q) (IdLine s n) m) ∙ h in
    let same : n ≡ e = cc in
    omega (arith, end_behind b q n some none (end_of_id (b ++ q) (line_end (b ++ q)) s n m))
ends_beyond left b q t e some none (OtherLine n) m h =
    let place = next_beyond left (b ++ q) n t e (sym (id_of_line left (b ++ q) (OtherLine n) m) ∙ h) in
    omega (arith, end_behind b q n some none (end_of_other (b ++ q) (line_end (b ++ q)) n m))

beyond_by : (left : ℕ) (b q t : List ℕ) (e : ℕ) → ((n : ℕ) → n ≤ length b → next left b n ≡ NotYet → next left (b ++ q) n ≡ Id t e → length b ≤ e) → (line : Line) → line_of b ≡ line → id_of left b ≡ NotYet → id_of left (b ++ q) ≡ Id t e → length b ≤ e
beyond_by left [] q t e behind_it line m h f = omega arith
beyond_by left (x ∷ b) q t e behind_it Unfinished m h f = ends_beyond left (x ∷ b) q t e (omega arith) (no_end (x ∷ b) (line_end (x ∷ b)) m) (line_of ((x ∷ b) ++ q)) refl f
beyond_by left (x ∷ b) q t e behind_it TooLong m h f = absurd (let z = sym (id_of_line left (x ∷ b) TooLong m) ∙ h in cc)
beyond_by left (x ∷ b) q t e behind_it (IdLine s n) m h f = absurd (let z = sym (id_of_line left (x ∷ b) (IdLine s n) m) ∙ h in cc)
beyond_by left (x ∷ b) q t e behind_it (OtherLine n) m h f =
    let end : line_end (x ∷ b) ≡ Some n = end_of_other (x ∷ b) (line_end (x ∷ b)) n m in
    behind_it n (line_end-within (x ∷ b) n end) (sym (id_of_line left (x ∷ b) (OtherLine n) m) ∙ h)
    (sym (id_of_line left ((x ∷ b) ++ q) (OtherLine n) (line_stays (x ∷ b) q n end ∙ m)) ∙ f)

pub beyond : (left : ℕ) (b q t : List ℕ) (e : ℕ) → id_of left b ≡ NotYet → id_of left (b ++ q) ≡ Id t e → length b ≤ e
beyond zero b q t e h f = beyond_by zero b q t e (λ n w g k. absurd (cc)) (line_of b) refl h f
beyond (suc k) b q t e h f =
    beyond_by (suc k) b q t e (λ n w g j.
    let found = behind_id n (id_of k (drop n (b ++ q))) t e j in
    let rest : id_of k (drop n b ++ q) ≡ Id t found.0 = ap (id_of k) (sym (drop-append-le n b q w)) ∙ found.1 in
    let more : length (drop n b) ≤ found.0 = beyond k (drop n b) q t found.0 (behind_not n (id_of k (drop n b)) g) rest in
    omega (arith, length-drop n b, found.2)) (line_of b) refl h f

-- a piece fed to what is left, as one fed behind all bytes
decides_before : (size n : ℕ) (found : IdFound) (left : IdReading) (r : Result IdProgress Error) (new : IdReading) → n ≤ size → Decides found (size - n) left r new → Decides (found_behind n found) size left r new
decides_before size n NotYet left r new w h = h
decides_before size n Version left r new w h = h
decides_before size n (Id t e) left r new w h = let place : e - (size - n) ≡ n + e - size = omega arith in (h.0 ∙ ap (λ k. Ok (progress.Id k)) place, h.1)

one_fewer : (allow : Bool) (o k : ℕ) → suc k ≡ still_allowed allow o → k ≡ still_allowed allow (o + 1)
one_fewer false o k h = absurd (omega arith)
one_fewer true o k h = omega arith

left_by : (allow : Bool) (left o : ℕ) (b q : List ℕ) (r : Result IdProgress Error) (new : IdReading)
    → ((n : ℕ) → n ≤ length b → line_of b ≡ OtherLine n → next left b n ≡ NotYet → Feeds allow (reading_left left b o) q r new → Decides (id_of left (b ++ q)) (length b) (reading_left left (b ++ q) o) r new)
    → left ≡ still_allowed allow o → (line : Line) → line_of b ≡ line → id_of left b ≡ NotYet → Feeds allow (reading_left left b o) q r new → Decides (id_of left (b ++ q)) (length b) (reading_left left (b ++ q) o) r new
left_by allow left o b q r new behind_it same Unfinished m h f =
    let P : ℕ → Type 0 = λ k. Decides (id_of k (b ++ q)) (length b) (reading_left k (b ++ q) o) r new in
    let Q : IdReading → Type 0 = λ i. Feeds allow i q r new in
    subst P (sym same) (subst Q (left_unfinished left b o m) f)
left_by allow left o b q r new behind_it same TooLong m h f = absurd (let z = sym (id_of_line left b TooLong m) ∙ h in cc)
left_by allow left o b q r new behind_it same (IdLine s n) m h f = absurd (let z = sym (id_of_line left b (IdLine s n) m) ∙ h in cc)
left_by allow left o b q r new behind_it same (OtherLine n) m h f =
    behind_it n (line_end-within b n (end_of_other b (line_end b) n m)) m (sym (id_of_line left b (OtherLine n) m) ∙ h) f

pub from_left : (allow : Bool) (left o : ℕ) (b q : List ℕ) (r : Result IdProgress Error) (new : IdReading) → left ≡ still_allowed allow o → id_of left b ≡ NotYet → Feeds allow (reading_left left b o) q r new → Decides (id_of left (b ++ q)) (length b) (reading_left left (b ++ q) o) r new
from_left allow zero o b q r new same h f = left_by allow zero o b q r new (λ n w m g k. absurd (cc)) same (line_of b) refl h f
from_left allow (suc k) o b q r new same h f =
    left_by allow (suc k) o b q r new (λ n w m g j.
    let Q : IdReading → Type 0 = λ i. Feeds allow i q r new in
    let stays : line_of (b ++ q) ≡ OtherLine n = line_stays b q n (end_of_other b (line_end b) n m) ∙ m in
    let rest : drop n (b ++ q) ≡ drop n b ++ q = drop-append-le n b q w in
    let found : id_of (suc k) (b ++ q) ≡ found_behind n (id_of k (drop n b ++ q)) = id_of_line (suc k) (b ++ q) (OtherLine n) stays ∙ ap (λ l. found_behind n (id_of k l)) rest in
    let kept : reading_left (suc k) (b ++ q) o ≡ reading_left k (drop n b ++ q) (o + 1) = left_other k (b ++ q) o n stays ∙ ap (λ l. reading_left k l (o + 1)) rest in
    let deeper = from_left allow k (o + 1) (drop n b) q r new (one_fewer allow o k same) (behind_not n (id_of k (drop n b)) g) (subst Q (left_other k b o n m) j) in
    let P : ℕ → Type 0 = λ s. Decides (id_of k (drop n b ++ q)) s (reading_left k (drop n b ++ q) (o + 1)) r new in
    let R : IdFound → Type 0 = λ x. Decides x (length b) (reading_left (suc k) (b ++ q) o) r new in
    let S : IdReading → Type 0 = λ x. Decides (found_behind n (id_of k (drop n b ++ q))) (length b) x r new in
    subst R (sym found) (subst S (sym kept) (decides_before (length b) n (id_of k (drop n b ++ q)) (reading_left k (drop n b ++ q) (o + 1)) r new w (subst P (length-drop n b) deeper))))
    same (line_of b) refl h f

-- two pieces fed, as one
decides_shift : (found : IdFound) (had more : ℕ) (left : IdReading) (r : Result IdProgress Error) (new : IdReading) → ((t : List ℕ) (e : ℕ) → found ≡ Id t e → had + more ≤ e) → Decides found (had + more) left r new → Decides found had left (shifted_answer more r) new
decides_shift NotYet had more left r new far h = (ap (shifted_answer more) h.0, h.1)
decides_shift Version had more left r new far h = (ap (shifted_answer more) h.0, h.1)
decides_shift (Id t e) had more left r new far h =
    let past : had + more ≤ e = far t e refl in
    let place : more + (e - (had + more)) ≡ e - had = omega arith in
    (ap (shifted_answer more) h.0 ∙ ap (λ k. Ok (progress.Id k)) place, h.1)

pub not_yet : (found : IdFound) (had : ℕ) (left new : IdReading) → Decides found had left (Ok progress.NotYet) new → (found ≡ NotYet) × (new ≡ left)
not_yet NotYet had left new h = (refl, h.1)
not_yet Version had left new h = absurd (let q = h.0 in cc)
not_yet (Id t e) had left new h = absurd (let q = h.0 in cc)

pub fed_twice : (allow : Bool) (old mid new : IdReading) (p q : List ℕ) (r : Result IdProgress Error) → Feeds allow old p (Ok progress.NotYet) mid → Feeds allow mid q r new → Feeds allow old (p ++ q) (shifted_answer (length p) r) new
fed_twice allow (Waiting w o) mid new p q r h f =
    let first = not_yet (id_of (still_allowed allow o) (w ++ p)) (length w) (reading_left (still_allowed allow o) (w ++ p) o) mid h in
    let Q : IdReading → Type 0 = λ i. Feeds allow i q r new in
    let both = from_left allow (still_allowed allow o) o (w ++ p) q r new refl first.0 (subst Q first.1 f) in
    let P : ℕ → Type 0 = λ s. Decides (id_of (still_allowed allow o) ((w ++ p) ++ q)) s (reading_left (still_allowed allow o) ((w ++ p) ++ q) o) r new in
    let shift = decides_shift (id_of (still_allowed allow o) ((w ++ p) ++ q)) (length w) (length p) (reading_left (still_allowed allow o) ((w ++ p) ++ q) o) r new
    (λ t e g. let far = beyond (still_allowed allow o) (w ++ p) q t e first.0 g in omega (arith, length-append w p)) (subst P (length-append w p) both) in
    let R : List ℕ → Type 0 = λ l. Decides (id_of (still_allowed allow o) l) (length w) (reading_left (still_allowed allow o) l o) (shifted_answer (length p) r) new in
    subst R (append_assoc w p q) shift
fed_twice allow (Heard t) mid new p q r h f = absurd (let z = h.0 in cc)
fed_twice allow Failed mid new p q r h f = absurd (let z = h.0 in cc)

-- bytes behind what decided change nothing
decided : (found : IdFound) (had : ℕ) (left new : IdReading) (r : Result IdProgress Error) → (r ≡ Ok progress.NotYet → ⊥) → Decides found had left r new → found ≡ NotYet → ⊥
decided found had left new r not h e = let P : IdFound → Type 0 = λ f. Decides f had left r new in let k = subst P e h in not k.0

other_left : (found : IdFound) (had : ℕ) (left other new : IdReading) (r : Result IdProgress Error) → (found ≡ NotYet → ⊥) → Decides found had left r new → Decides found had other r new
other_left NotYet had left other new r not h = absurd (not refl)
other_left Version had left other new r not h = h
other_left (Id t e) had left other new r not h = h

pub fed_more : (allow : Bool) (old new : IdReading) (p q : List ℕ) (r : Result IdProgress Error) → (r ≡ Ok progress.NotYet → ⊥) → Feeds allow old p r new → Feeds allow old (p ++ q) r new
fed_more allow (Waiting w o) new p q r not h =
    let left : ℕ = still_allowed allow o in
    let yes = decided (id_of (still_allowed allow o) (w ++ p)) (length w) (reading_left (still_allowed allow o) (w ++ p) o) new r not h in
    let same : id_of (still_allowed allow o) (w ++ (p ++ q)) ≡ id_of (still_allowed allow o) (w ++ p) = ap (id_of (still_allowed allow o)) (sym (append_assoc w p q)) ∙ decided_stays (still_allowed allow o) (w ++ p) q yes in
    let P : IdFound → Type 0 = λ f. Decides f (length w) (reading_left (still_allowed allow o) (w ++ (p ++ q)) o) r new in
    subst P (sym same) (other_left (id_of (still_allowed allow o) (w ++ p)) (length w) (reading_left (still_allowed allow o) (w ++ p) o) (reading_left (still_allowed allow o) (w ++ (p ++ q)) o) new r yes h)
fed_more allow (Heard t) new p q r not h = h
fed_more allow Failed new p q r not h = h
