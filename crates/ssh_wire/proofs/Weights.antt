-- How much of a version line and the lines before it may still come: each turn leaves less.
use Rattle.std.proofs.Common.{◌≡◌, ℕ, zero, suc, ◌+◌, ◌-◌, ◌*◌, ◌<◌, ◌≤◌, Bool, true, false, List, ◌++◌, length, take, drop, Option, Some, None, Ok, if◌then◌else◌, nat_lt, nat_le, refl, sym, ap, ◌∙◌, length-append, length-drop, arith}
use Rattle.std.proofs.lemmas.Bool.Decides.{nat_tests}
use Rattle.ssh_wire.specs.Lines.{NotYet, id_of, line_end, line_text, is_id_text, Line, Unfinished, IdLine, OtherLine, TooLong, line_to, line_of, longest_line, other_line_limit}
use Rattle.ssh_wire.specs.Reading.{IdReading, Waiting, Heard, Failed, still_allowed, by_end, reading_left, Feeds, IsShort, waiting_length}
use Rattle.ssh_wire.specs.FromSource.{reading_room}
use Rattle.ssh_wire.specs.declared.read_id.IdProgress.TheVariants as progress
use Rattle.ssh_wire.proofs.LineLaws.{line_end-within}
use Rattle.ssh_wire.proofs.LineByLine.{next, id_of_line, left_other, left_unfinished, end_of_other}
use Rattle.ssh_wire.proofs.Cuts.{not_yet, behind_not}

-- the bytes of lines that were read, each other line as long as it may be
abbrev pub weight : IdReading → ℕ
weight (Waiting bytes others) = longest_line * others + length bytes
weight (Heard text) = 0
weight Failed = 0

-- the bytes that may still be taken before a line decides, where all other lines are allowed
abbrev pub room_left : IdReading → ℕ
room_left now = longest_line * (other_line_limit + 1) - weight now

short_other : (bytes : List ℕ) (e : Option ℕ) (n : ℕ) → line_to bytes e ≡ OtherLine n → n ≤ longest_line
short_other bytes None n h = absurd (step (nat_le longest_line (length bytes)) h)
  where
    step : (t : Bool) → (if t then TooLong else Unfinished) ≡ OtherLine n → ⊥
    step true h = cc
    step false h = cc
short_other bytes (Some m) n h = step (nat_lt longest_line m) refl (is_id_text (line_text (take m bytes))) h
  where
    step : (t : Bool) → nat_lt longest_line m ≡ t → (u : Bool) → (if t then TooLong else if u then IdLine (line_text (take m bytes)) m else OtherLine m) ≡ OtherLine n → n ≤ longest_line
    step true e u h = absurd (cc)
    step false e true h = absurd (cc)
    step false e false h = let same : m ≡ n = cc in let small : m ≤ longest_line = grind (arith, nat_tests) in omega arith

weighs_by : (left o : ℕ) (b : List ℕ) → ((n : ℕ) → n ≤ length b → n ≤ longest_line → line_of b ≡ OtherLine n → next left b n ≡ NotYet → longest_line * o + length b ≤ weight (reading_left left b o)) → (line : Line) → line_of b ≡ line → id_of left b ≡ NotYet → longest_line * o + length b ≤ weight (reading_left left b o)
weighs_by left o b behind_it Unfinished m h = let same = ap weight (left_unfinished left b o m) in omega (arith, same)
weighs_by left o b behind_it TooLong m h = absurd (let z = sym (id_of_line left b TooLong m) ∙ h in cc)
weighs_by left o b behind_it (IdLine s n) m h = absurd (let z = sym (id_of_line left b (IdLine s n) m) ∙ h in cc)
weighs_by left o b behind_it (OtherLine n) m h =
    behind_it n (line_end-within b n (end_of_other b (line_end b) n m)) (short_other b (line_end b) n m) m (sym (id_of_line left b (OtherLine n) m) ∙ h)

weighs : (left o : ℕ) (b : List ℕ) → id_of left b ≡ NotYet → longest_line * o + length b ≤ weight (reading_left left b o)
weighs zero o b h = weighs_by zero o b (λ n w s m g. absurd (cc)) (line_of b) refl h
weighs (suc k) o b h =
    weighs_by (suc k) o b (λ n w s m g.
    let deeper : longest_line * (o + 1) + length (drop n b) ≤ weight (reading_left k (drop n b) (o + 1)) = weighs k (o + 1) (drop n b) (behind_not n (id_of k (drop n b)) g) in
    let same = ap weight (left_other k b o n m) in
    omega (arith, deeper, same, length-drop n b)) (line_of b) refl h

-- what decides nothing weighs as much as its bytes at least
heavier : (allow : Bool) (now mid : IdReading) (p : List ℕ) → Feeds allow now p (Ok progress.NotYet) mid → weight now + length p ≤ weight mid
heavier allow (Waiting w o) mid p h =
    let first = not_yet (id_of (still_allowed allow o) (w ++ p)) (length w) (reading_left (still_allowed allow o) (w ++ p) o) mid h in
    let more = weighs (still_allowed allow o) o (w ++ p) first.0 in
    let same = ap weight first.1 in
    omega (arith, more, same, length-append w p)
heavier allow (Heard t) mid p h = absurd (let q = h.0 in cc)
heavier allow Failed mid p h = absurd (let q = h.0 in cc)

light : (i : IdReading) → IsShort i → weight i < longest_line * (other_line_limit + 1)
light (Waiting w o) h = omega (arith, h.0, h.2)
light (Heard t) h = omega arith
light Failed h = omega arith

pub less_room : (allow : Bool) (now mid : IdReading) (p : List ℕ) → IsShort mid → Feeds allow now p (Ok progress.NotYet) mid → 0 < length p → room_left mid < room_left now
less_room allow now mid p short h some = omega (arith, heavier allow now mid p h, light mid short)

-- less than a line waits
pub held-short : (i : IdReading) → IsShort i → waiting_length i < longest_line
held-short (Waiting w o) h = h.0
held-short (Heard t) h = omega arith
held-short Failed h = omega arith

-- no more other lines stand before what waits than were allowed
abbrev pub others_of : IdReading → ℕ
others_of (Waiting w o) = o
others_of (Heard t) = 0
others_of Failed = 0

others_within : (left o : ℕ) (b : List ℕ) → others_of (reading_left left b o) ≤ o + left
others_within zero o b = omega arith
others_within (suc k) o b = step (λ n. others_within k (o + 1) (drop n b)) (line_end b)
  where
    step : ((n : ℕ) → others_of (reading_left k (drop n b) (o + 1)) ≤ o + 1 + k) → (e : Option ℕ) → others_of (by_end (Waiting b o) (λ n. reading_left k (drop n b) (o + 1)) e) ≤ o + suc k
    step deeper None = omega arith
    step deeper (Some n) = omega (arith, deeper n)

weight_of : (left o : ℕ) (b : List ℕ) → weight (reading_left left b o) ≡ longest_line * others_of (reading_left left b o) + waiting_length (reading_left left b o)
weight_of zero o b = refl
weight_of (suc k) o b = step (λ n. weight_of k (o + 1) (drop n b)) (line_end b)
  where
    step : ((n : ℕ) → weight (reading_left k (drop n b) (o + 1)) ≡ longest_line * others_of (reading_left k (drop n b) (o + 1)) + waiting_length (reading_left k (drop n b) (o + 1))) → (e : Option ℕ) → weight (by_end (Waiting b o) (λ n. reading_left k (drop n b) (o + 1)) e) ≡ longest_line * others_of (by_end (Waiting b o) (λ n. reading_left k (drop n b) (o + 1)) e) + waiting_length (by_end (Waiting b o) (λ n. reading_left k (drop n b) (o + 1)) e)
    step deeper None = refl
    step deeper (Some n) = deeper n

-- what was taken and decides nothing, and the rest of the line in the making
pub fits_room : (allow : Bool) (old now : IdReading) (taken : List ℕ) (more : ℕ) → Feeds allow old taken (Ok progress.NotYet) now → waiting_length now + more ≤ longest_line → length taken + more ≤ reading_room allow old
fits_room allow (Heard t) now taken more h line = absurd (let q = h.0 in cc)
fits_room allow Failed now taken more h line = absurd (let q = h.0 in cc)
fits_room allow (Waiting w o) now taken more h line =
    let first = not_yet (id_of (still_allowed allow o) (w ++ taken)) (length w) (reading_left (still_allowed allow o) (w ++ taken) o) now h in
    let heavy = weighs (still_allowed allow o) o (w ++ taken) first.0 in
    let same = ap waiting_length first.1 in
    let within = others_within (still_allowed allow o) o (w ++ taken) in
    let parts = weight_of (still_allowed allow o) o (w ++ taken) in
    omega (arith, heavy, same, within, parts, length-append w taken)
