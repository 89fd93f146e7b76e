-- A version line that comes in pieces is read as one that comes at once.
use Rattle.std.proofs.Common.{◌≡◌, ℕ, zero, suc, ◌+◌, ◌≤◌, Bool, true, false, List, [], ◌++◌, length, drop, Some, if◌then◌else◌, nat_lt, refl, sym, ap, ◌∙◌, subst, arith, append_assoc, append-nil, length-drop}
use Rattle.std.proofs.lemmas.List.{drop-append-le, drop-drop, take-append-le}
use Rattle.ssh_wire.specs.Lines as lines
use Rattle.ssh_wire.specs.Lines.{IdFound, IdLine, Line, OtherLine, TooLong, Unfinished, found_behind, id_of, is_id_text, line_end, line_of, line_text, line_to, longest_line}
use Rattle.ssh_wire.specs.Reading.{IdReading, Waiting, Heard, Failed, reading_left, still_allowed}
use Rattle.ssh_wire.specs.declared.side.Side.{Side}
use Rattle.ssh_wire.proofs.Lemmas.{behind_not, decided_stays, end_of_id, end_of_other, id_of_line, left_other, left_unfinished, next, line_end-stays, line_end-within}
use Rattle.ssh_rules.specs.Machine.{Event}
use Rattle.ssh_rules.specs.Standing.{HearsFrom, ReadsLineFrom, lets_pass, line_with, waiting_with}
use Rattle.ssh_transport.proofs.Lemmas.{silent_more}

-- ---- an id line ends within the bytes that it is found in

behind_within : (n : ℕ) (f : IdFound) (size : ℕ) (t : List ℕ) (e : ℕ) → ((s : List ℕ) (k : ℕ) → f ≡ lines.Id s k → n + k ≤ size) → found_behind n f ≡ lines.Id t e → e ≤ size
behind_within n lines.NotYet size t e w h = absurd (cc)
behind_within n lines.Version size t e w h = absurd (cc)
behind_within n (lines.Id s k) size t e w h =
    let ends : n + k ≡ e = cc in
    let p = w s k refl in omega (arith, p, ends)

within_by : (left : ℕ) (b t : List ℕ) (e : ℕ) → ((n : ℕ) → n ≤ length b → next left b n ≡ lines.Id t e → e ≤ length b) → (line : Line) → line_of b ≡ line → id_of left b ≡ lines.Id t e → e ≤ length b
within_by left b t e rest Unfinished m h = absurd (let q = sym (id_of_line left b Unfinished m) ∙ h in cc)
within_by left b t e rest TooLong m h = absurd (let q = sym (id_of_line left b TooLong m) ∙ h in cc)
within_by left b t e rest (IdLine s n) m h =
    let found : lines.Id s n ≡ lines.Id t e = sym (id_of_line left b (IdLine s n) m) ∙ h in
    let same : n ≡ e = cc in
    let w = line_end-within b n (end_of_id b (line_end b) s n m) in omega (arith, w, same)
within_by left b t e rest (OtherLine n) m h = rest n (line_end-within b n (end_of_other b (line_end b) n m)) (sym (id_of_line left b (OtherLine n) m) ∙ h)

pub id_within : (left : ℕ) (b t : List ℕ) (e : ℕ) → id_of left b ≡ lines.Id t e → e ≤ length b
id_within zero b t e h = within_by zero b t e (λ n w g. absurd (cc)) (line_of b) refl h
id_within (suc k) b t e h = within_by (suc k) b t e (λ n w g. behind_within n (id_of k (drop n b)) (length b) t e (λ s j f. let p = id_within k (drop n b) s j f in omega (arith, length-drop n b, p, w)) g) (line_of b) refl h

-- ---- what is left of a line, with more behind it

line_stays : (b q : List ℕ) (n : ℕ) → line_end b ≡ Some n → line_of (b ++ q) ≡ line_of b
line_stays b q n e =
    ap (line_to (b ++ q)) (line_end-stays b q n e)
    ∙ (ap (λ l. if nat_lt longest_line n then TooLong else if is_id_text (line_text l) then IdLine (line_text l) n else OtherLine n) (take-append-le n b q (line_end-within b n e))
    ∙ ap (line_to b) (sym e))

one_fewer : (allow : Bool) (o k : ℕ) → suc k ≡ still_allowed allow o → k ≡ still_allowed allow (o + 1)
one_fewer false o k h = absurd (omega arith)
one_fewer true o k h = omega arith

-- behind a line that is none
hears_behind : (side : Side) (n o : ℕ) (b q : List ℕ) (events : List Event) (new : IdReading) (behind : List ℕ) (found : IdFound) → n ≤ length b → reading_left (still_allowed (lets_pass side) o) (b ++ q) o ≡ reading_left (still_allowed (lets_pass side) (o + 1)) (drop n b ++ q) (o + 1) → HearsFrom side found (drop n b ++ q) (o + 1) events new behind → HearsFrom side (found_behind n found) (b ++ q) o events new behind
hears_behind side n o b q events new behind lines.NotYet w kept h = (h.0, h.1 ∙ sym kept, h.2)
hears_behind side n o b q events new behind (lines.Id t e) w kept h = (h.0, h.1, h.2 ∙ (ap (drop e) (sym (drop-append-le n b q w)) ∙ drop-drop e n (b ++ q)))
hears_behind side n o b q events new behind lines.Version w kept h = absurd h

left_by : (side : Side) (left o : ℕ) (b q at : List ℕ) (events : List Event) (new : IdReading) (behind : List ℕ)
    → ((n : ℕ) → n ≤ length b → line_of b ≡ OtherLine n → next left b n ≡ lines.NotYet → ReadsLineFrom side (reading_left left b o) at q events new behind → HearsFrom side (id_of left (b ++ q)) (b ++ q) o events new behind)
    → left ≡ still_allowed (lets_pass side) o → (line : Line) → line_of b ≡ line → id_of left b ≡ lines.NotYet → ReadsLineFrom side (reading_left left b o) at q events new behind → HearsFrom side (id_of left (b ++ q)) (b ++ q) o events new behind
left_by side left o b q at events new behind behind_it same Unfinished m h f =
    let P : ℕ → Type 0 = λ k. HearsFrom side (id_of k (b ++ q)) (b ++ q) o events new behind in
    let Q : IdReading → Type 0 = λ i. ReadsLineFrom side i at q events new behind in
    subst P (sym same) (subst Q (left_unfinished left b o m) f)
left_by side left o b q at events new behind behind_it same TooLong m h f = absurd (let z = sym (id_of_line left b TooLong m) ∙ h in cc)
left_by side left o b q at events new behind behind_it same (IdLine s n) m h f = absurd (let z = sym (id_of_line left b (IdLine s n) m) ∙ h in cc)
left_by side left o b q at events new behind behind_it same (OtherLine n) m h f =
    behind_it n (line_end-within b n (end_of_other b (line_end b) n m)) m (sym (id_of_line left b (OtherLine n) m) ∙ h) f

left_hears : (side : Side) (left o : ℕ) (b q at : List ℕ) (events : List Event) (new : IdReading) (behind : List ℕ) → left ≡ still_allowed (lets_pass side) o → id_of left b ≡ lines.NotYet → ReadsLineFrom side (reading_left left b o) at q events new behind → HearsFrom side (id_of left (b ++ q)) (b ++ q) o events new behind
left_hears side zero o b q at events new behind same h f = left_by side zero o b q at events new behind (λ n w m g k. absurd (cc)) same (line_of b) refl h f
left_hears side (suc k) o b q at events new behind same h f =
    left_by side (suc k) o b q at events new behind (λ n w m g j.
    let Q : IdReading → Type 0 = λ i. ReadsLineFrom side i at q events new behind in
    let stays : line_of (b ++ q) ≡ OtherLine n = line_stays b q n (end_of_other b (line_end b) n m) ∙ m in
    let rest : drop n (b ++ q) ≡ drop n b ++ q = drop-append-le n b q w in
    let fewer : k ≡ still_allowed (lets_pass side) (o + 1) = one_fewer (lets_pass side) o k same in
    let kept : reading_left (still_allowed (lets_pass side) o) (b ++ q) o ≡ reading_left (still_allowed (lets_pass side) (o + 1)) (drop n b ++ q) (o + 1) =
    ap (λ (x : ℕ). reading_left x (b ++ q) o) (sym same)
    ∙ (left_other k (b ++ q) o n stays ∙ (ap (λ l. reading_left k l (o + 1)) rest ∙ ap (λ (x : ℕ). reading_left x (drop n b ++ q) (o + 1)) fewer)) in
    let found : id_of (suc k) (b ++ q) ≡ found_behind n (id_of k (drop n b ++ q)) = id_of_line (suc k) (b ++ q) (OtherLine n) stays ∙ ap (λ l. found_behind n (id_of k l)) rest in
    let deeper = left_hears side k (o + 1) (drop n b) q at events new behind fewer (behind_not n (id_of k (drop n b)) g) (subst Q (left_other k b o n m) j) in
    let R : IdFound → Type 0 = λ x. HearsFrom side x (b ++ q) o events new behind in
    subst R (sym found) (hears_behind side n o b q events new behind (id_of k (drop n b ++ q)) w kept deeper))
    same (line_of b) refl h f

-- ---- two pieces

-- what both read of the line, and what stands behind it in both
pub record LinesJoin (side : Side) (line : IdReading) (waiting bytes read : List ℕ) (events : List Event) (new : IdReading) (behind : List ℕ) : Type 0 where
  pub all : List ℕ
  pub reads : ReadsLineFrom side line waiting bytes events new all
  pub rest : all ≡ read ++ behind

join_found : (side : Side) (mid new : IdReading) (bytes piece more waiting at read : List ℕ) (others : ℕ) (a b : List Event) (behind behind' : List ℕ) (found : IdFound) → id_of (still_allowed (lets_pass side) others) (bytes ++ piece) ≡ found → HearsFrom side found (bytes ++ piece) others a mid behind → (a ≡ [] → read ≡ []) → behind ≡ read ++ at → ReadsLineFrom side mid at more b new behind' → LinesJoin side (Waiting bytes others) waiting (piece ++ more) read (a ++ b) new behind'
join_found side mid new bytes piece more waiting at read others a b behind behind' lines.NotYet f h none e k =
    let P : List ℕ → Type 0 = λ x. HearsFrom side (id_of (still_allowed (lets_pass side) others) x) x others b new behind' in
    let later = left_hears side (still_allowed (lets_pass side) others) others (bytes ++ piece) more at b new behind' refl f (subst (λ i. ReadsLineFrom side i at more b new behind') h.1 k) in
    let R : List Event → Type 0 = λ x. ReadsLineFrom side (Waiting bytes others) waiting (piece ++ more) (x ++ b) new behind' in
    record { all = behind'; reads = subst R (sym h.0) (subst P (append_assoc bytes piece more) later); rest = ap (λ x. x ++ behind') (sym (none h.0)) }
join_found side mid new bytes piece more waiting at read others a b behind behind' (lines.Id text end) f h none e k =
    let allowed : ℕ = still_allowed (lets_pass side) others in
    let heard = subst (λ i. ReadsLineFrom side i at more b new behind') h.1 k in
    let whole : id_of (still_allowed (lets_pass side) others) (bytes ++ (piece ++ more)) ≡ lines.Id text end =
    ap (id_of (still_allowed (lets_pass side) others)) (sym (append_assoc bytes piece more)) ∙ (decided_stays (still_allowed (lets_pass side) others) (bytes ++ piece) more (λ z. let q : lines.Id text end ≡ lines.NotYet = sym f ∙ z in cc) ∙ f) in
    let cut : drop end (bytes ++ (piece ++ more)) ≡ drop end (bytes ++ piece) ++ more = ap (drop end) (sym (append_assoc bytes piece more)) ∙ drop-append-le end (bytes ++ piece) more (id_within (still_allowed (lets_pass side) others) (bytes ++ piece) text end f) in
    let P : IdFound → Type 0 = λ x. HearsFrom side x (bytes ++ (piece ++ more)) others (a ++ b) new (drop end (bytes ++ (piece ++ more))) in
    record {
      all = drop end (bytes ++ (piece ++ more));
      reads = subst P (sym whole) ((h.0.0 ++ b, ap (λ x. x ++ b) h.0.1, silent_more h.0.0 b h.0.2 heard.0), heard.1, refl);
      rest = cut ∙ (ap (λ x. x ++ more) (sym h.2 ∙ e) ∙ (append_assoc read at more ∙ ap (λ x. read ++ x) (sym heard.2)));
    }
join_found side mid new bytes piece more waiting at read others a b behind behind' lines.Version f h none e k = absurd h

pub lines_join : (side : Side) (line mid new : IdReading) (piece more waiting at read : List ℕ) (a b : List Event) (behind behind' : List ℕ) → ReadsLineFrom side line waiting piece a mid behind → (a ≡ [] → read ≡ []) → behind ≡ read ++ at → ReadsLineFrom side mid at more b new behind' → LinesJoin side line waiting (piece ++ more) read (a ++ b) new behind'
lines_join side (Waiting bytes others) mid new piece more waiting at read a b behind behind' h none e k = join_found side mid new bytes piece more waiting at read others a b behind behind' (id_of (still_allowed (lets_pass side) others) (bytes ++ piece)) refl h none e k
lines_join side (Heard text) mid new piece more waiting at read a b behind behind' h none e k =
    let heard = subst (λ i. ReadsLineFrom side i at more b new behind') h.1 k in
    record {
      all = waiting ++ (piece ++ more);
      reads = (silent_more a b h.0 heard.0, heard.1, refl);
      rest = sym (append_assoc waiting piece more) ∙ (ap (λ x. x ++ more) (sym h.2 ∙ e) ∙ (append_assoc read at more ∙ ap (λ x. read ++ x) (sym heard.2)));
    }
lines_join side Failed mid new piece more waiting at read a b behind behind' h none e k = absurd h

-- ---- input that was kept

pub line_back : (side : Side) (line : IdReading) (waiting more : List ℕ) (events : List Event) (new : IdReading) (behind : List ℕ) → ReadsLineFrom side (line_with line more) (waiting_with line waiting more) [] events new behind → ReadsLineFrom side line waiting more events new behind
line_back side (Waiting bytes others) waiting more events new behind h = subst (λ (x : List ℕ). HearsFrom side (id_of (still_allowed (lets_pass side) others) x) x others events new behind) (append-nil (bytes ++ more)) h
line_back side (Heard text) waiting more events new behind h = (h.0, h.1, h.2 ∙ append-nil (waiting ++ more))
line_back side Failed waiting more events new behind h = absurd h
