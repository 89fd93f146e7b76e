-- An id line that was found stays found, and less than it decides nothing.
use Rattle.std.proofs.Common.{◌≡◌, ℕ, zero, suc, ◌+◌, ◌<◌, ◌≤◌, Bool, true, false, List, [], ◌∷◌, ◌++◌, length, take, Option, Some, None, if◌then◌else◌, nat_eq, nat_lt, nat_le, refl, ap, subst, ◌∙◌, arith}
use Rattle.std.proofs.lemmas.Grind.{common_steps}
use Rattle.std.proofs.lemmas.Bool.Decides.{nat_tests}
use Rattle.std.proofs.lemmas.List.{take-append-le}
use Rattle.ssh_wire.specs.Lines.{lf_end, line_end, line_text, is_id_text, Unfinished, IdLine, OtherLine, TooLong, line_to, line_of, longest_line, found_by_line, id_of, NotYet, Id, Version}

-- a line end that was found stays where it is
lf_end-stays : (at : ℕ) (b more : List ℕ) (n : ℕ) → lf_end at b ≡ Some n → lf_end at (b ++ more) ≡ Some n
lf_end-stays at [] more n h = cc
lf_end-stays at (x ∷ b) more n h = step (nat_eq x 10) (λ e. lf_end-stays (at + 1) b more n e) h
  where
    step : (t : Bool) → (lf_end (at + 1) b ≡ Some n → lf_end (at + 1) (b ++ more) ≡ Some n) → (if t then Some (at + 1) else lf_end (at + 1) b) ≡ Some n → (if t then Some (at + 1) else lf_end (at + 1) (b ++ more)) ≡ Some n
    step true behind h = h
    step false behind h = behind h

-- a line end lies behind the place where the bytes begin, and within them
pub lf_end-within : (at : ℕ) (b : List ℕ) (n : ℕ) → lf_end at b ≡ Some n → (at < n) × (n ≤ at + length b)
lf_end-within at [] n h = cc
lf_end-within at (x ∷ b) n h = step (nat_eq x 10) (λ e. lf_end-within (at + 1) b n e) h
  where
    step : (t : Bool) → (lf_end (at + 1) b ≡ Some n → (at + 1 < n) × (n ≤ at + 1 + length b)) → (if t then Some (at + 1) else lf_end (at + 1) b) ≡ Some n → (at < n) × (n ≤ at + length (x ∷ b))
    step true behind h = let e : at + 1 ≡ n = cc in (omega arith, omega arith)
    step false behind h = let w : (at + 1 < n) × (n ≤ at + 1 + length b) = behind h in (omega arith, omega arith)

-- fewer bytes have no line end
lf_end-before : (at : ℕ) (b : List ℕ) (n k : ℕ) → lf_end at b ≡ Some n → at + k < n → lf_end at (take k b) ≡ None
lf_end-before at b n zero h small = refl
lf_end-before at [] n (suc k) h small = refl
lf_end-before at (x ∷ b) n (suc k) h small = step (nat_eq x 10) (λ e. lf_end-before (at + 1) b n k e (omega arith)) h
  where
    step : (t : Bool) → (lf_end (at + 1) b ≡ Some n → lf_end (at + 1) (take k b) ≡ None) → (if t then Some (at + 1) else lf_end (at + 1) b) ≡ Some n → (if t then Some (at + 1) else lf_end (at + 1) (take k b)) ≡ None
    step true behind h = let e : at + 1 ≡ n = cc in absurd (omega arith)
    step false behind h = behind h

pub line_end-stays : (b more : List ℕ) (n : ℕ) → line_end b ≡ Some n → line_end (b ++ more) ≡ Some n
line_end-stays [] more n h = cc
line_end-stays (x ∷ b) more n h = lf_end-stays 1 b more n h

pub line_end-within : (b : List ℕ) (n : ℕ) → line_end b ≡ Some n → n ≤ length b
line_end-within [] n h = cc
line_end-within (x ∷ b) n h = let w = lf_end-within 1 b n h in omega arith

line_end-before : (b : List ℕ) (n k : ℕ) → line_end b ≡ Some n → k < n → line_end (take k b) ≡ None
line_end-before [] n k h small = cc
line_end-before (x ∷ b) n zero h small = refl
line_end-before (x ∷ b) n (suc k) h small = lf_end-before 1 b n k h (omega arith)

-- what a line that is an id's is
record IsIdLine (bytes : List ℕ) (end : Option ℕ) (text : List ℕ) (n : ℕ) : Type 0 where
  found : end ≡ Some n
  short : n ≤ longest_line
  id : is_id_text (line_text (take n bytes)) ≡ true
  text_is : line_text (take n bytes) ≡ text

id_line-found : (bytes : List ℕ) (end : Option ℕ) (text : List ℕ) (n : ℕ) → found_by_line (λ m. Version) (line_to bytes end) ≡ Id text n → IsIdLine bytes end text n
id_line-found bytes None text n h = absurd (step (nat_le longest_line (length bytes)) h)
  where
    step : (t : Bool) → found_by_line (λ m. Version) (if t then TooLong else Unfinished) ≡ Id text n → ⊥
    step true h = cc
    step false h = cc
id_line-found bytes (Some m) text n h = step (nat_lt longest_line m) refl (is_id_text (line_text (take m bytes))) refl h
  where
    step : (t : Bool) → nat_lt longest_line m ≡ t → (u : Bool) → is_id_text (line_text (take m bytes)) ≡ u → found_by_line (λ m. Version) (if t then TooLong else if u then IdLine (line_text (take m bytes)) m else OtherLine m) ≡ Id text n → IsIdLine bytes (Some m) text n
    step true e u f h = absurd (cc)
    step false e false f h = absurd (cc)
    step false e true f h =
        let same : m ≡ n = cc in
        let texts : line_text (take m bytes) ≡ text = cc in
        let P : ℕ → Type 0 = λ k. IsIdLine bytes (Some m) text k in
        subst P same (record { found = refl; short = grind (arith, nat_tests); id = f; text_is = texts })

found-id_line : (bytes text : List ℕ) (n : ℕ) → IsIdLine bytes (line_end bytes) text n → id_of 0 bytes ≡ Id text n
found-id_line bytes text n h =
    ap (λ e. found_by_line (λ m. Version) (line_to bytes e)) h.found ∙ by_test (nat_lt longest_line n) (grind (arith, nat_tests)) _ h.id
  where
    by_test : (t : Bool) → t ≡ false → (u : Bool) → u ≡ true → found_by_line (λ m. Version) (if t then TooLong else if u then IdLine (line_text (take n bytes)) n else OtherLine n) ≡ Id text n
    by_test t e u f = rw (e, f) (ap (λ s. Id s n) h.text_is)

-- an id line that was found stays found when bytes come behind
pub id_stays : (bytes more text : List ℕ) (end : ℕ) → id_of 0 bytes ≡ Id text end → id_of 0 (bytes ++ more) ≡ Id text end
id_stays bytes more text end h =
    let line : IsIdLine bytes (line_end bytes) text end = id_line-found bytes (line_end bytes) text end h in
    let same : take end (bytes ++ more) ≡ take end bytes = take-append-le end bytes more (line_end-within bytes end line.found) in
    found-id_line (bytes ++ more) text end (record {
      found = line_end-stays bytes more end line.found;
      short = line.short;
      id = ap (λ l. is_id_text (line_text l)) same ∙ line.id;
      text_is = ap line_text same ∙ line.text_is;
    })

-- fewer bytes than an id line
pub line_unfinished : (bytes : List ℕ) → length bytes < longest_line → line_end bytes ≡ None → line_of bytes ≡ Unfinished
line_unfinished bytes small h = ap (line_to bytes) h ∙ ap (λ t. if t then TooLong else Unfinished) below
  where
    below : nat_le longest_line (length bytes) ≡ false
    below = grind (arith, nat_tests)

-- less than a whole id line decides nothing
pub less_than_a_line : (line text : List ℕ) (n : ℕ) → id_of 0 line ≡ Id text (length line) → n < length line → id_of 0 (take n line) ≡ NotYet
less_than_a_line line text n h small =
    let whole : IsIdLine line (line_end line) text (length line) = id_line-found line (line_end line) text (length line) h in
    let size : length (take n line) ≡ n = grind (arith, common_steps) in
    let short : length line ≤ longest_line = whole.short in
    ap (found_by_line (λ m. Version)) (line_unfinished (take n line) (omega arith) (line_end-before line (length line) n whole.found small))
