-- What bytes begin with, by their first line.
use Rattle.std.proofs.Common.{◌≡◌, ℕ, zero, suc, ◌+◌, ◌-◌, ◌<◌, ◌≤◌, Bool, true, false, List, [], ◌++◌, length, take, drop, Option, Some, None, Result, Ok, Err, if◌then◌else◌, nat_lt, nat_le, refl, sym, ap, ◌∙◌, subst, arith}
use Rattle.std.proofs.lemmas.Bool.Decides.{nat_tests}
use Rattle.std.proofs.Math.Seq.{drop-append-add, take-length}
use Rattle.std.proofs.lemmas.List.{drop-drop, length-drop}
use Rattle.ssh_wire.specs.Lines.{IdFound, NotYet, Id, Version, found_behind, found_by_line, id_of, line_end, line_text, is_id_text, Line, Unfinished, IdLine, OtherLine, TooLong, line_to, line_of, longest_line, other_line_limit}
use Rattle.ssh_wire.specs.Reading.{IdReading, Waiting, Heard, Failed, still_allowed, by_end, reading_left, Decides, Feeds}
use Rattle.ssh_wire.specs.Stepping.{ReadsTo, ReadsLine, may_pass, PassesOther, shifted_answer, GoesOn}
use Rattle.ssh_wire.specs.declared.error.Error.{Error}
use Rattle.ssh_wire.specs.declared.error.Error.TheVariants as error
use Rattle.ssh_wire.specs.declared.read_id.IdProgress.{IdProgress}
use Rattle.ssh_wire.specs.declared.read_id.IdProgress.TheVariants as progress
use Rattle.ssh_wire.specs.declared.read_id.LineRead.{LineRead}
use Rattle.ssh_wire.specs.declared.read_id.LineRead.TheVariants as read

-- what an other line of n bytes leads to
abbrev pub next : ℕ → List ℕ → ℕ → IdFound
next zero bytes n = Version
next (suc left) bytes n = found_behind n (id_of left (drop n bytes))

pub id_of_line : (left : ℕ) (bytes : List ℕ) (line : Line) → line_of bytes ≡ line → id_of left bytes ≡ found_by_line (λ n. next left bytes n) line
id_of_line zero bytes line e = ap (found_by_line (λ n. Version)) e
id_of_line (suc left) bytes line e = ap (found_by_line (λ n. found_behind n (id_of left (drop n bytes)))) e

pub end_of_other : (bytes : List ℕ) (e : Option ℕ) (n : ℕ) → line_to bytes e ≡ OtherLine n → e ≡ Some n
end_of_other bytes None n h = absurd (step (nat_le longest_line (length bytes)) h)
  where
    step : (t : Bool) → (if t then TooLong else Unfinished) ≡ OtherLine n → ⊥
    step true h = cc
    step false h = cc
end_of_other bytes (Some m) n h = step (nat_lt longest_line m) (is_id_text (line_text (take m bytes))) h
  where
    step : (t u : Bool) → (if t then TooLong else if u then IdLine (line_text (take m bytes)) m else OtherLine m) ≡ OtherLine n → Some m ≡ Some n
    step true u h = cc
    step false true h = cc
    step false false h = cc

pub end_of_id : (bytes : List ℕ) (e : Option ℕ) (text : List ℕ) (n : ℕ) → line_to bytes e ≡ IdLine text n → e ≡ Some n
end_of_id bytes None text n h = absurd (step (nat_le longest_line (length bytes)) h)
  where
    step : (t : Bool) → (if t then TooLong else Unfinished) ≡ IdLine text n → ⊥
    step true h = cc
    step false h = cc
end_of_id bytes (Some m) text n h = step (nat_lt longest_line m) (is_id_text (line_text (take m bytes))) h
  where
    step : (t u : Bool) → (if t then TooLong else if u then IdLine (line_text (take m bytes)) m else OtherLine m) ≡ IdLine text n → Some m ≡ Some n
    step true u h = cc
    step false true h = let same : m ≡ n = cc in ap (λ x. Some x) same
    step false false h = cc

pub no_end : (bytes : List ℕ) (e : Option ℕ) → line_to bytes e ≡ Unfinished → e ≡ None
no_end bytes None h = refl
no_end bytes (Some m) h = absurd (step (nat_lt longest_line m) (is_id_text (line_text (take m bytes))) h)
  where
    step : (t u : Bool) → (if t then TooLong else if u then IdLine (line_text (take m bytes)) m else OtherLine m) ≡ Unfinished → ⊥
    step true u h = cc
    step false true h = cc
    step false false h = cc

pub left_other : (left : ℕ) (bytes : List ℕ) (others n : ℕ) → line_of bytes ≡ OtherLine n → reading_left (suc left) bytes others ≡ reading_left left (drop n bytes) (others + 1)
left_other left bytes others n h = ap (by_end (Waiting bytes others) (λ n. reading_left left (drop n bytes) (others + 1))) (end_of_other bytes (line_end bytes) n h)

pub left_unfinished : (left : ℕ) (bytes : List ℕ) (others : ℕ) → line_of bytes ≡ Unfinished → reading_left left bytes others ≡ Waiting bytes others
left_unfinished zero bytes others h = refl
left_unfinished (suc left) bytes others h = ap (by_end (Waiting bytes others) (λ n. reading_left left (drop n bytes) (others + 1))) (no_end bytes (line_end bytes) h)

-- the first line's end ends a reading: it isn't ended, an id's, or too long
ends_unfinished : (allow : Bool) (w p : List ℕ) (o : ℕ) (new : IdReading) (line : Line) → line_of (w ++ p) ≡ line → ReadsTo line (length w) (w ++ p) o read.Unfinished new → Feeds allow (Waiting w o) p (Ok progress.NotYet) new
ends_unfinished allow w p o new Unfinished e h =
    rw (id_of_line (still_allowed allow o) (w ++ p) Unfinished e, left_unfinished (still_allowed allow o) (w ++ p) o e) (refl, h.1)
ends_unfinished allow w p o new (IdLine t n) e h = let q = h.0 in cc
ends_unfinished allow w p o new (OtherLine n) e h = let q = h.0 in cc
ends_unfinished allow w p o new TooLong e h = let q = h.0 in cc

pub exit_unfinished : (allow : Bool) (now : IdReading) (p : List ℕ) (new : IdReading) → ReadsLine now p read.Unfinished new → Feeds allow now p (Ok progress.NotYet) new
exit_unfinished allow (Waiting w o) p new h = ends_unfinished allow w p o new (line_of (w ++ p)) refl h
exit_unfinished allow (Heard t) p new h = let q = h.0 in cc
exit_unfinished allow Failed p new h = let q = h.0 in cc

same_used : (m n : ℕ) → read.IdLine m ≡ read.IdLine n → progress.Id m ≡ progress.Id n
same_used m n h = cc

ends_id : (allow : Bool) (w p : List ℕ) (o more : ℕ) (new : IdReading) (line : Line) → line_of (w ++ p) ≡ line → ReadsTo line (length w) (w ++ p) o (read.IdLine more) new → Feeds allow (Waiting w o) p (Ok (progress.Id more)) new
ends_id allow w p o more new Unfinished e h = let q = h.0 in cc
ends_id allow w p o more new (IdLine t n) e h = rw (id_of_line (still_allowed allow o) (w ++ p) (IdLine t n) e) (ap (λ x. Ok x) (same_used more (n - length w) h.0), h.1)
ends_id allow w p o more new (OtherLine n) e h = let q = h.0 in cc
ends_id allow w p o more new TooLong e h = let q = h.0 in cc

pub exit_id : (allow : Bool) (now : IdReading) (p : List ℕ) (more : ℕ) (new : IdReading) → ReadsLine now p (read.IdLine more) new → Feeds allow now p (Ok (progress.Id more)) new
exit_id allow (Waiting w o) p more new h = ends_id allow w p o more new (line_of (w ++ p)) refl h
exit_id allow (Heard t) p more new h = (ap (λ x. Ok x) (same_used more 0 h.0), h.1)
exit_id allow Failed p more new h = let q = h.0 in cc

ends_long : (allow : Bool) (w p : List ℕ) (o : ℕ) (new : IdReading) (line : Line) → line_of (w ++ p) ≡ line → ReadsTo line (length w) (w ++ p) o read.TooLong new → Feeds allow (Waiting w o) p (Err error.Version) new
ends_long allow w p o new Unfinished e h = let q = h.0 in cc
ends_long allow w p o new (IdLine t n) e h = let q = h.0 in cc
ends_long allow w p o new (OtherLine n) e h = let q = h.0 in cc
ends_long allow w p o new TooLong e h = rw (id_of_line (still_allowed allow o) (w ++ p) TooLong e) (refl, h.1)

pub exit_long : (allow : Bool) (now : IdReading) (p : List ℕ) (new : IdReading) → ReadsLine now p read.TooLong new → Feeds allow now p (Err error.Version) new
exit_long allow (Waiting w o) p new h = ends_long allow w p o new (line_of (w ++ p)) refl h
exit_long allow (Heard t) p new h = let q = h.0 in cc
exit_long allow Failed p new h = (refl, h.1)

-- the rest of a piece, as it is lent
pub rest_of : (now : IdReading) (p : List ℕ) (used : ℕ) (line : LineRead) (new : IdReading) → ReadsLine now (take (length p - used) (drop used p)) line new → ReadsLine now (drop used p) line new
rest_of now p used line new h =
    let P : List ℕ → Type 0 = λ l. ReadsLine now l line new in
    let size : length p - used ≡ length (drop used p) = sym (length-drop used p) in
    subst P (ap (λ n. take n (drop used p)) size ∙ take-length (drop used p)) h

-- an other line that isn't allowed
none_allowed : (allow : Bool) (o : ℕ) → false ≡ may_pass allow o → still_allowed allow o ≡ 0
none_allowed false o h = refl
none_allowed true o h = let past : other_line_limit ≤ o = grind (arith, nat_tests) in omega arith

ends_other : (allow : Bool) (w p : List ℕ) (o more : ℕ) (mid new : IdReading) (line : Line) → line_of (w ++ p) ≡ line → ReadsTo line (length w) (w ++ p) o (read.OtherLine more) mid → PassesOther allow mid false new → Feeds allow (Waiting w o) p (Err error.Version) new
ends_other allow w p o more mid new Unfinished e h f = let q = h.0 in cc
ends_other allow w p o more mid new (IdLine t n) e h f = let q = h.0 in cc
ends_other allow w p o more mid new TooLong e h f = let q = h.0 in cc
ends_other allow w p o more mid new (OtherLine n) e h f =
    let P : IdReading → Type 0 = λ m. PassesOther allow m false new in
    let g : PassesOther allow (Waiting [] o) false new = subst P h.1 f in
    rw (none_allowed allow o g.0, id_of_line 0 (w ++ p) (OtherLine n) e) (refl, g.1)

pub exit_other : (allow : Bool) (now : IdReading) (p : List ℕ) (more : ℕ) (mid new : IdReading) → ReadsLine now p (read.OtherLine more) mid → PassesOther allow mid false new → Feeds allow now p (Err error.Version) new
exit_other allow (Waiting w o) p more mid new h f = ends_other allow w p o more mid new (line_of (w ++ p)) refl h f
exit_other allow (Heard t) p more mid new h f = let q = h.0 in cc
exit_other allow Failed p more mid new h f = let q = h.0 in cc

-- an other line that is allowed
pub decides_behind : (end more had : ℕ) (found : IdFound) (left : IdReading) (r : Result IdProgress Error) (new : IdReading) → end ≡ had + more → Decides found 0 left r new → Decides (found_behind end found) had left (shifted_answer more r) new
decides_behind end more had NotYet left r new e h = (ap (shifted_answer more) h.0, h.1)
decides_behind end more had (Id t n) left r new e h =
    let place : more + (n - 0) ≡ end + n - had = omega arith in
    (ap (shifted_answer more) h.0 ∙ ap (λ k. Ok (progress.Id k)) place, h.1)
decides_behind end more had Version left r new e h = (ap (shifted_answer more) h.0, h.1)

one_allowed : (o : ℕ) → true ≡ may_pass true o → (o < other_line_limit) × (other_line_limit - o ≡ suc (other_line_limit - (o + 1)))
one_allowed o h = let below : o < other_line_limit = grind (arith, nat_tests) in (below, omega arith)

pub read_step : (w p : List ℕ) (o n more : ℕ) (r : Result IdProgress Error) (last : IdReading) → line_of (w ++ p) ≡ OtherLine n → n ≡ length w + more → other_line_limit - o ≡ suc (other_line_limit - (o + 1)) → Feeds true (Waiting [] (o + 1)) (drop more p) r last → Feeds true (Waiting w o) p (shifted_answer more r) last
read_step w p o n more r last e size one h =
    let k : ℕ = other_line_limit - (o + 1) in
    let rest : drop n (w ++ p) ≡ drop more p = ap (λ m. drop m (w ++ p)) size ∙ drop-append-add w p more in
    let found : id_of (suc (other_line_limit - (o + 1))) (w ++ p) ≡ found_behind n (id_of (other_line_limit - (o + 1)) (drop more p)) = id_of_line (suc (other_line_limit - (o + 1))) (w ++ p) (OtherLine n) e ∙ ap (λ l. found_behind n (id_of (other_line_limit - (o + 1)) l)) rest in
    let left : reading_left (suc (other_line_limit - (o + 1))) (w ++ p) o ≡ reading_left (other_line_limit - (o + 1)) (drop more p) (o + 1) = left_other (other_line_limit - (o + 1)) (w ++ p) o n e ∙ ap (λ l. reading_left (other_line_limit - (o + 1)) l (o + 1)) rest in
    let P : ℕ → Type 0 = λ m. Decides (id_of m (w ++ p)) (length w) (reading_left m (w ++ p) o) (shifted_answer more r) last in
    let Q : IdFound → Type 0 = λ f. Decides f (length w) (reading_left (suc (other_line_limit - (o + 1))) (w ++ p) o) (shifted_answer more r) last in
    let R : IdReading → Type 0 = λ l. Decides (found_behind n (id_of (other_line_limit - (o + 1)) (drop more p))) (length w) l (shifted_answer more r) last in
    subst P (sym one) (subst Q (sym found) (subst R (sym left)
    (decides_behind n more (length w) (id_of (other_line_limit - (o + 1)) (drop more p)) (reading_left (other_line_limit - (o + 1)) (drop more p) (o + 1)) r last size h)))

goes_other : (allow : Bool) (w p : List ℕ) (o more : ℕ) (mid new : IdReading) (r : Result IdProgress Error) (last : IdReading) (line : Line) → line_of (w ++ p) ≡ line → ReadsTo line (length w) (w ++ p) o (read.OtherLine more) mid → PassesOther allow mid true new → Feeds allow new (drop more p) r last → Feeds allow (Waiting w o) p (shifted_answer more r) last
goes_other allow w p o more mid new r last Unfinished e h f g = let q = h.0 in cc
goes_other allow w p o more mid new r last (IdLine t n) e h f g = let q = h.0 in cc
goes_other allow w p o more mid new r last TooLong e h f g = let q = h.0 in cc
goes_other false w p o more mid new r last (OtherLine n) e h f g =
    let P : IdReading → Type 0 = λ m. PassesOther false m true new in
    let at : PassesOther false (Waiting [] o) true new = subst P h.1 f in
    let q : true ≡ false = at.0 in
    cc
goes_other true w p o more mid new r last (OtherLine n) e h f g =
    let P : IdReading → Type 0 = λ m. PassesOther true m true new in
    let at : PassesOther true (Waiting [] o) true new = subst P h.1 f in
    let one = one_allowed o at.0 in
    let used : more ≡ n - length w = same_other more (n - length w) h.0 in
    let within : length w ≤ n = h.2 in
    let Q : IdReading → Type 0 = λ m. Feeds true m (drop more p) r last in
    read_step w p o n more r last e (omega arith) one.1 (subst Q at.1 g)
  where
    same_other : (m n : ℕ) → read.OtherLine m ≡ read.OtherLine n → m ≡ n
    same_other m n h = cc

pub one_more : (allow : Bool) (now mid new : IdReading) (p : List ℕ) (more : ℕ) (r : Result IdProgress Error) (last : IdReading) → ReadsLine now p (read.OtherLine more) mid → PassesOther allow mid true new → Feeds allow new (drop more p) r last → Feeds allow now p (shifted_answer more r) last
one_more allow (Waiting w o) mid new p more r last h f g = goes_other allow w p o more mid new r last (line_of (w ++ p)) refl h f g
one_more allow (Heard t) mid new p more r last h f g = let q = h.0 in cc
one_more allow Failed mid new p more r last h f g = let q = h.0 in cc

pub shifted_twice : (m n : ℕ) (r : Result IdProgress Error) → shifted_answer m (shifted_answer n r) ≡ shifted_answer (m + n) r
shifted_twice m n (Ok progress.NotYet) = refl
shifted_twice m n (Ok (progress.Id k)) = let same : m + (n + k) ≡ m + n + k = omega arith in ap (λ x. Ok (progress.Id x)) same
shifted_twice m n (Err e) = refl

pub goes_further : (allow : Bool) (old now mid new : IdReading) (piece : List ℕ) (used more : ℕ) → GoesOn allow old piece used now → ReadsLine now (drop used piece) (read.OtherLine more) mid → PassesOther allow mid true new → GoesOn allow old piece (used + more) new
goes_further allow old now mid new piece used more before h f = λ r last g.
    let P : List ℕ → Type 0 = λ l. Feeds allow new l r last in
    let Q : Result IdProgress Error → Type 0 = λ x. Feeds allow old piece x last in
    subst Q (shifted_twice used more r)
    (before (shifted_answer more r) last (one_more allow now mid new (drop used piece) more r last h f (subst P (sym (drop-drop more used piece)) g)))
