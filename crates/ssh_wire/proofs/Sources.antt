-- Reading a version line from a source: what was answered of a piece is answered of all bytes.
use Rattle.std.proofs.Common.{◌≡◌, ℕ, zero, suc, ◌+◌, ◌-◌, ◌<◌, ◌≤◌, Bool, true, List, [], ◌++◌, length, take, drop, Option, Some, None, IfSome, Result, Ok, Err, refl, sym, ap, ◌∙◌, subst, append_assoc, append-nil, length-append, arith}
use Rattle.std.proofs.lemmas.List.{take-append-drop, length-take-le, drop-take}
use Rattle.ssh_wire.specs.Lines.{IdFound, NotYet, Id, Version, id_of, line_end, Unfinished, longest_line}
use Rattle.ssh_wire.specs.Outside.{IsAtEnd, TakesNext, TakesFront}
use Rattle.ssh_wire.specs.Reading.{IdReading, Waiting, Heard, Failed, still_allowed, by_end, reading_left, Decides, Feeds, IsShort, waiting_length, waits, used_in, end_answer}
use Rattle.ssh_wire.specs.Stepping.{shifted_answer}
use Rattle.ssh_wire.specs.FromSource.{reading_room, TakesUndecided, DecidesByPiece, FindsId, FindsNoId, GivesNoId, StandsAfter, TakesNone}
use Rattle.ssh_wire.specs.declared.error.Error.{Error}
use Rattle.ssh_wire.specs.declared.error.Error.TheVariants as error
use Rattle.ssh_wire.specs.declared.error.IdError.{IdError}
use Rattle.ssh_wire.specs.declared.error.IdError.TheVariants as id_errors
use Rattle.ssh_wire.specs.declared.read_id.IdProgress.{IdProgress}
use Rattle.ssh_wire.specs.declared.read_id.IdProgress.TheVariants as progress
use Rattle.ssh_wire.proofs.LineByLine.{id_of_line, left_unfinished}
use Rattle.ssh_wire.proofs.LineLaws.{line_unfinished}
use Rattle.ssh_wire.proofs.Cuts.{fed_twice, fed_more, not_yet}
use Rattle.ssh_wire.proofs.Weights.{fits_room, held-short}

-- what is known of a source in a turn, where its bytes were told
abbrev pub IsSoFar : Bool → IdReading → Option (List ℕ) → Option (List ℕ) → IdReading → Type 0
IsSoFar allow old before left now = IfSome before (λ bytes. (taken : List ℕ) × TakesUndecided allow old bytes left taken now)

-- what waits decides nothing
waits_on : (allow : Bool) (w : List ℕ) (o : ℕ) → length w < longest_line → line_end w ≡ None → Feeds allow (Waiting w o) [] (Ok progress.NotYet) (Waiting w o)
waits_on allow w o small none =
    let P : List ℕ → Type 0 = λ l. Decides (id_of (still_allowed allow o) l) (length w) (reading_left (still_allowed allow o) l o) (Ok progress.NotYet) (Waiting w o) in
    let line = line_unfinished w small none in
    let found = id_of_line (still_allowed allow o) w Unfinished line in
    let rest = left_unfinished (still_allowed allow o) w o line in
    subst P (sym (append-nil w)) (rw (found, rest) (refl, refl))

stays_waiting : (allow : Bool) (now : IdReading) → waits now ≡ true → IsShort now → Feeds allow now [] (Ok progress.NotYet) now
stays_waiting allow (Waiting w o) going short = waits_on allow w o short.0 short.1
stays_waiting allow (Heard t) going short = absurd (cc)
stays_waiting allow Failed going short = absurd (cc)

pub so_far-start : (allow : Bool) (old : IdReading) (o : Option (List ℕ)) → waits old ≡ true → IsShort old → IsSoFar allow old o o old
so_far-start allow old None going short = tt
so_far-start allow old (Some bytes) going short =
    let on = stays_waiting allow old going short in
    ([], record { took = (bytes, refl, refl); undecided = on; fits = fits allow old on (held-short old short) })
  where
    fits : (allow : Bool) (old : IdReading) → Feeds allow old [] (Ok progress.NotYet) old → waiting_length old < longest_line → 0 ≤ reading_room allow old
    fits allow old on small = omega arith

front_taken : (n : ℕ) (buffer bytes taken : List ℕ) (left now : Option (List ℕ)) → TakesFront taken (Some bytes) left → TakesNext n buffer left now → TakesFront (taken ++ take n buffer) (Some bytes) now
front_taken n buffer bytes taken left now f t =
    let P : Option (List ℕ) → Type 0 = λ l. TakesNext n buffer l now in
    let next : (n ≤ length f.0) × (take n buffer ≡ take n f.0) × (now ≡ Some (drop n f.0)) = subst P f.2 t in
    let front : f.0 ≡ take n buffer ++ drop n f.0 = sym (take-append-drop n f.0) ∙ ap (λ l. l ++ drop n f.0) (sym next.1) in
    (drop n f.0, f.1 ∙ (ap (λ l. taken ++ l) front ∙ sym (append_assoc taken (take n buffer) (drop n f.0))), next.2)

-- a piece that decides nothing
further : (allow : Bool) (old now mid : IdReading) (bytes buffer : List ℕ) (n : ℕ) (left after : Option (List ℕ)) (taken : List ℕ) → IsShort mid → TakesUndecided allow old bytes left taken now → TakesNext n buffer left after → Feeds allow now (take n buffer) (Ok progress.NotYet) mid → TakesUndecided allow old bytes after (taken ++ take n buffer) mid
further allow old now mid bytes buffer n left after taken short s t f =
    let on = fed_twice allow old now mid taken (take n buffer) (Ok progress.NotYet) s.undecided f in
    let small = held-short mid short in
    let fits = fits_room allow old mid (taken ++ take n buffer) 0 on (omega (arith, small)) in
    record { took = front_taken n buffer bytes taken left after s.took t; undecided = on; fits = omega (arith, fits) }

pub so_far-next : (allow : Bool) (old now mid : IdReading) (buffer : List ℕ) (n : ℕ) (o left after : Option (List ℕ)) → IsShort mid → IsSoFar allow old o left now → TakesNext n buffer left after → Feeds allow now (take n buffer) (Ok progress.NotYet) mid → IsSoFar allow old o after mid
so_far-next allow old now mid buffer n None left after short s t f = tt
so_far-next allow old now mid buffer n (Some bytes) left after short s t f = (s.0 ++ take n buffer, further allow old now mid bytes buffer n left after s.0 short s.1 t f)

-- a piece that decides
decides : (allow : Bool) (old now new : IdReading) (bytes buffer : List ℕ) (n : ℕ) (left after : Option (List ℕ)) (answer : Result IdProgress Error) (taken : List ℕ) → (shifted_answer (length taken) answer ≡ Ok progress.NotYet → ⊥) → n ≤ length buffer → waiting_length now + n ≤ longest_line → TakesUndecided allow old bytes left taken now → TakesNext n buffer left after → Feeds allow now (take n buffer) answer new → DecidesByPiece allow old bytes after (take n buffer) answer new
decides allow old now new bytes buffer n left after answer taken not within line s t f =
    let front = front_taken n buffer bytes taken left after s.took t in
    let size : length (take n buffer) ≡ n = length-take-le n buffer within in
    let both = fed_twice allow old now new taken (take n buffer) answer s.undecided f in
    let P : List ℕ → Type 0 = λ l. Feeds allow old l (shifted_answer (length taken) answer) new in
    let fits = fits_room allow old now taken n s.undecided line in
    record {
      before = taken;
      mid = now;
      took = front;
      undecided = s.undecided;
      decided = f;
      all = subst P (sym front.1) (fed_more allow old new (taken ++ take n buffer) front.0 (shifted_answer (length taken) answer) not both);
      line = omega (arith, size, line);
      fits = omega (arith, fits, size, length-append taken (take n buffer));
    }

id_decides : (n k : ℕ) → shifted_answer n (Ok (progress.Id k)) ≡ Ok progress.NotYet → ⊥
id_decides n k h = cc

version_decides : (n : ℕ) → shifted_answer n (Err error.Version) ≡ Ok progress.NotYet → ⊥
version_decides n h = cc

-- the buffer from the id line's end on
sliced : (xs : List ℕ) (a b : ℕ) → a ≤ b → take (b - a) (drop a xs) ≡ drop a (take b xs)
sliced xs a b h =
    let whole : a + (b - a) ≡ b = omega arith in
    sym (drop-take a (b - a) xs) ∙ ap (λ n. drop a (take n xs)) whole

pub finds : (allow : Bool) (old now new : IdReading) (buffer : List ℕ) (n used : ℕ) (o left after : Option (List ℕ)) → n ≤ length buffer → waiting_length now + n ≤ longest_line → used ≤ n → IsSoFar allow old o left now → TakesNext n buffer left after → Feeds allow now (take n buffer) (Ok (progress.Id used)) new → IfSome o (λ bytes. FindsId allow old bytes after new (take (n - used) (drop used buffer)))
finds allow old now new buffer n used None left after within line fits s t f = tt
finds allow old now new buffer n used (Some bytes) left after within line fits s t f =
    let size : length (take n buffer) ≡ n = length-take-le n buffer within in
    record {
      piece = take n buffer;
      used = used;
      decides = decides allow old now new bytes buffer n left after (Ok (progress.Id used)) s.0 (id_decides (length s.0) used) within line s.1 t f;
      within = omega (arith, size, fits);
      behind_is = sliced buffer used n fits;
    }

by_version : (found : IdFound) (had : ℕ) (left new : IdReading) (e : Error) → Decides found had left (Err e) new → (e ≡ error.Version) × (new ≡ Failed)
by_version NotYet had left new e h = let q = h.0 in cc
by_version (Id t n) had left new e h = let q = h.0 in cc
by_version Version had left new e h = let q = h.0 in (cc, h.1)

only_version : (allow : Bool) (now : IdReading) (p : List ℕ) (e : Error) (new : IdReading) → Feeds allow now p (Err e) new → (e ≡ error.Version) × (new ≡ Failed)
only_version allow (Waiting w o) p e new h = by_version (id_of (still_allowed allow o) (w ++ p)) (length w) (reading_left (still_allowed allow o) (w ++ p) o) new e h
only_version allow (Heard t) p e new h = let q = h.0 in cc
only_version allow Failed p e new h = let q = h.0 in (cc, h.1)

pub refuses : (allow : Bool) (old now new : IdReading) (buffer : List ℕ) (n : ℕ) (e : Error) (o left after : Option (List ℕ)) → n ≤ length buffer → waiting_length now + n ≤ longest_line → IsSoFar allow old o left now → TakesNext n buffer left after → Feeds allow now (take n buffer) (Err e) new → IfSome o (λ bytes. FindsNoId allow old bytes after new)
refuses allow old now new buffer n e None left after within line s t f = tt
refuses allow old now new buffer n e (Some bytes) left after within line s t f =
    let P : Error → Type 0 = λ x. Feeds allow now (take n buffer) (Err x) new in
    (take n buffer, decides allow old now new bytes buffer n left after (Err error.Version) s.0 (version_decides (length s.0)) within line s.1 t (subst P (only_version allow now (take n buffer) e new f).0 f))

pub fails_for_good : (allow : Bool) (now : IdReading) (p : List ℕ) (e : Error) (new : IdReading) → Feeds allow now p (Err e) new → new ≡ Failed
fails_for_good allow now p e new h = (only_version allow now p e new h).1

-- no piece came
all_taken : (allow : Bool) (old now : IdReading) (bytes buffer taken : List ℕ) (left after : Option (List ℕ)) → TakesUndecided allow old bytes left taken now → IsAtEnd left → TakesNext 0 buffer left after → TakesUndecided allow old bytes after bytes now
all_taken allow old now bytes buffer taken left after s end t =
    let P : Option (List ℕ) → Type 0 = λ l. IsAtEnd l in
    let none : s.took.0 ≡ [] = subst P s.took.2 end in
    let whole : taken ≡ bytes = sym (append-nil taken) ∙ (ap (λ l. taken ++ l) (sym none) ∙ sym s.took.1) in
    let N : Option (List ℕ) → Type 0 = λ l. TakesNext 0 buffer l after in
    let next : (0 ≤ length s.took.0) × (take 0 buffer ≡ take 0 s.took.0) × (after ≡ Some (drop 0 s.took.0)) = subst N s.took.2 t in
    let Q : List ℕ → Type 0 = λ l. TakesUndecided allow old bytes after l now in
    subst Q whole (record { took = (s.took.0, s.took.1, next.2); undecided = s.undecided; fits = s.fits })

pub none_comes : (allow : Bool) (old now : IdReading) (buffer : List ℕ) (e : IdError) (o left after : Option (List ℕ)) → IsSoFar allow old o left now → TakesNone buffer left after e → IfSome o (λ bytes. GivesNoId allow old bytes after e now)
none_comes allow old now buffer e None left after s h = tt
none_comes allow old now buffer id_errors.Version (Some bytes) left after s h = absurd h
none_comes allow old now buffer id_errors.Disconnect (Some bytes) left after s h = all_taken allow old now bytes buffer s.0 left after s.1 h.0 h.1
none_comes allow old now buffer id_errors.IO (Some bytes) left after s h =
    let P : Option (List ℕ) → Type 0 = λ l. TakesUndecided allow old bytes l s.0 now in
    (s.0, subst P (sym h) s.1)

pub still_waits : (buffer : List ℕ) (e : IdError) (left after : Option (List ℕ)) (now : IdReading) → TakesNone buffer left after e → waits now ≡ true → StandsAfter {A = ℕ × ℕ} (Err e) now
still_waits buffer id_errors.Version left after now h going = absurd h
still_waits buffer id_errors.Disconnect left after now h going = going
still_waits buffer id_errors.IO left after now h going = going

by_id : (found : IdFound) (had : ℕ) (left new : IdReading) (n : ℕ) → Decides found had left (Ok (progress.Id n)) new → end_answer new ≡ Ok tt
by_id NotYet had left new n h = let q = h.0 in cc
by_id Version had left new n h = let q = h.0 in cc
by_id (Id t e) had left new n h = ap end_answer h.1

pub heard_is : (allow : Bool) (now : IdReading) (p : List ℕ) (n : ℕ) (new : IdReading) → Feeds allow now p (Ok (progress.Id n)) new → end_answer new ≡ Ok tt
heard_is allow (Waiting w o) p n new h = by_id (id_of (still_allowed allow o) (w ++ p)) (length w) (reading_left (still_allowed allow o) (w ++ p) o) new n h
heard_is allow (Heard t) p n new h = ap end_answer h.1
heard_is allow Failed p n new h = let q = h.0 in cc

-- what decides nothing leaves a reading that waits
left_waits : (left : ℕ) (b : List ℕ) (o : ℕ) → waits (reading_left left b o) ≡ true
left_waits zero b o = refl
left_waits (suc k) b o = step (λ n. left_waits k (drop n b) (o + 1)) (line_end b)
  where
    step : ((n : ℕ) → waits (reading_left k (drop n b) (o + 1)) ≡ true) → (e : Option ℕ) → waits (by_end (Waiting b o) (λ n. reading_left k (drop n b) (o + 1)) e) ≡ true
    step deeper None = refl
    step deeper (Some n) = deeper n

pub waits_after : (allow : Bool) (now mid : IdReading) (p : List ℕ) → Feeds allow now p (Ok progress.NotYet) mid → waits mid ≡ true
waits_after allow (Waiting w o) mid p h =
    let first = not_yet (id_of (still_allowed allow o) (w ++ p)) (length w) (reading_left (still_allowed allow o) (w ++ p) o) mid h in
    ap waits first.1 ∙ left_waits (still_allowed allow o) (w ++ p) o
waits_after allow (Heard t) mid p h = absurd (let q = h.0 in cc)
waits_after allow Failed mid p h = absurd (let q = h.0 in cc)

-- an answer under another name
pub shown : (allow : Bool) (now : IdReading) (p : List ℕ) (x y : IdProgress) (new : IdReading) → x ≡ y → Feeds allow now p (Ok x) new → Feeds allow now p (Ok y) new
shown allow now p x y new e h = let P : IdProgress → Type 0 = λ z. Feeds allow now p (Ok z) new in subst P e h

pub used_within : (buffer : List ℕ) (end : ℕ) (x : IdProgress) (used : ℕ) → end ≤ length buffer → x ≡ progress.Id used → used_in x ≤ length (take end buffer) → used ≤ end
used_within buffer end x used within e h =
    let P : IdProgress → Type 0 = λ z. used_in z ≤ length (take end buffer) in
    let at : used ≤ length (take end buffer) = subst P e h in
    omega (arith, length-take-le end buffer within)
