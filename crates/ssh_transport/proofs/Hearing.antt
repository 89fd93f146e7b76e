-- What is heard of the peer's version line.
use Rattle.std.proofs.Common.{◌≡◌, ℕ, zero, suc, ◌+◌, ◌-◌, ◌≤◌, ◌==◌, Bool, true, false, if◌then◌else◌, nat_le, nat_lt, List, [], ◌++◌, length, take, drop, slice_index, Option, Some, None, Result, Ok, refl, sym, ap, ◌∙◌, subst, arith}
use Rattle.std.proofs.lemmas.Bool.Decides.{nat_tests}
use Rattle.std.proofs.lemmas.List.{length-drop, length-take}
use Rattle.ssh_wire.specs.Lines as lines
use Rattle.ssh_wire.specs.Lines.{IdFound, Unfinished, IdLine, OtherLine, TooLong, found_behind, found_by_line, id_of, is_id_text, line_end, line_of, line_text, line_to, longest_line, without_cr}
use Rattle.ssh_wire.specs.Reading.{IdReading, Waiting, Heard, Failed, Decides, Feeds, by_end, reading_left, still_allowed, text_heard}
use Rattle.ssh_wire.specs.declared.error.Error.{Error}
use Rattle.ssh_wire.specs.declared.read_id.IdProgress.{IdProgress}
use Rattle.ssh_wire.specs.declared.read_id.IdProgress.TheVariants as progress
use Rattle.ssh_wire.proofs.Lemmas.{end_of_id, end_of_other, id_of_line, line_end-within, next}
use Rattle.ssh_rules.specs.Machine.{Silent, Inside, Where}
use Rattle.ssh_transport.specs.Saying.{Begins, IsSettled}
use Rattle.ssh_transport.specs.States.{WaitsBehind, heard_of, is_silent, stands_of}
use Rattle.ssh_transport.specs.declared.session.Session.{Session}
use Rattle.ssh_transport.proofs.Saying.{settled_inside}
use Rattle.ssh_rules.specs.Standing.{is_outside}

-- ---- the text of a line is short

cr_short : (t : List ℕ) → length (without_cr t) ≤ length t
cr_short t = step (slice_index t (length t - 1) == 13)
  where
    step : (b : Bool) → length (if b then take (length t - 1) t else t) ≤ length t
    step true = let e = length-take (length t - 1) t in omega (arith, e)
    step false = omega arith

text_short : (bytes : List ℕ) (n : ℕ) → length (line_text (take n bytes)) ≤ n
text_short bytes n =
    let a = cr_short (take (length (take n bytes) - 1) (take n bytes)) in
    let b = length-take (length (take n bytes) - 1) (take n bytes) in
    let c = length-take n bytes in
    omega (arith, a, b, c)

within : (limit n : ℕ) → nat_lt limit n ≡ false → n ≤ limit
within limit n h = grind (arith, nat_tests)

line_short : (bytes : List ℕ) (e : Option ℕ) (text : List ℕ) (n : ℕ) → line_to bytes e ≡ IdLine text n
    → length text ≤ longest_line
line_short bytes None text n h = absurd (step (nat_le longest_line (length bytes)) h)
  where
    step : (t : Bool) → (if t then TooLong else Unfinished) ≡ IdLine text n → ⊥
    step true h = cc
    step false h = cc
line_short bytes (Some m) text n h = step (nat_lt longest_line m) refl (is_id_text (line_text (take m bytes))) h
  where
    step : (t : Bool) → nat_lt longest_line m ≡ t → (u : Bool)
        → (if t then TooLong else if u then IdLine (line_text (take m bytes)) m else OtherLine m) ≡ IdLine text n
        → length text ≤ longest_line
    step true e u h = cc
    step false e true h =
        let same : line_text (take m bytes) ≡ text = cc in
        let l = within longest_line m e in
        let s = text_short bytes m in
        let k : length (line_text (take m bytes)) ≡ length text = ap length same in
        omega (arith, l, s, k)
    step false e false h = cc

behind_id : (n : ℕ) (f : IdFound) (text : List ℕ) (end : ℕ) → found_behind n f ≡ lines.Id text end
    → (m : ℕ) × (f ≡ lines.Id text m)
behind_id n lines.NotYet text end h = cc
behind_id n (lines.Id x m) text end h = (m, (let same : x ≡ text = cc in ap (λ (y : List ℕ). lines.Id y m) same))
behind_id n lines.Version text end h = cc

by_line : (other : ℕ → IdFound) (bytes : List ℕ) (line : lines.Line) (text : List ℕ) (end : ℕ) → line_of bytes ≡ line
    → ((n : ℕ) → other n ≡ lines.Id text end → length text ≤ longest_line)
    → found_by_line other line ≡ lines.Id text end → length text ≤ longest_line
by_line other bytes Unfinished text end e o h = cc
by_line other bytes (IdLine x n) text end e o h =
    let same : x ≡ text = cc in
    line_short bytes (line_end bytes) text n (e ∙ ap (λ (y : List ℕ). IdLine y n) same)
by_line other bytes (OtherLine n) text end e o h = o n h
by_line other bytes TooLong text end e o h = cc

pub found_short : (others : ℕ) (bytes text : List ℕ) (end : ℕ) → id_of others bytes ≡ lines.Id text end
    → length text ≤ longest_line
found_short zero bytes text end h = by_line (λ n. lines.Version) bytes (line_of bytes) text end refl (λ n e. cc) h
found_short (suc others) bytes text end h = by_line (λ n. found_behind n (id_of others (drop n bytes))) bytes
    (line_of bytes) text end refl (λ n e. let f = behind_id n (id_of others (drop n bytes)) text end e in found_short
    others (drop n bytes) text f.0 f.1) h

-- ---- a line ends within the bytes in which it was found

end_of_found : (n : ℕ) (f : IdFound) (text : List ℕ) (end : ℕ) → found_behind n f ≡ lines.Id text end
    → (m : ℕ) × (f ≡ lines.Id text m) × (n + m ≡ end)
end_of_found n lines.NotYet text end h = cc
end_of_found n (lines.Id x m) text end h =
    let same : x ≡ text = cc in
    let ends : n + m ≡ end = cc in
    (m, ap (λ (y : List ℕ). lines.Id y m) same, ends)
end_of_found n lines.Version text end h = cc

within_by : (others : ℕ) (bytes : List ℕ) → ((n : ℕ) (text : List ℕ) (end : ℕ) → n ≤ length bytes
    → next others bytes n ≡ lines.Id text end → end ≤ length bytes) → (line : lines.Line) → line_of bytes ≡ line
    → (text : List ℕ) (end : ℕ) → id_of others bytes ≡ lines.Id text end → end ≤ length bytes
within_by others bytes deeper Unfinished m text end h = absurd
    (let z = sym (id_of_line others bytes Unfinished m) ∙ h in cc)
within_by others bytes deeper TooLong m text end h = absurd (let z = sym (id_of_line others bytes TooLong m) ∙ h in cc)
within_by others bytes deeper (IdLine s n) m text end h =
    let found : lines.Id s n ≡ lines.Id text end = sym (id_of_line others bytes (IdLine s n) m) ∙ h in
    let same : n ≡ end = cc in
    let w = line_end-within bytes n (end_of_id bytes (line_end bytes) s n m) in
    omega (arith, w, same)
within_by others bytes deeper (OtherLine n) m text end h = deeper n text end
    (line_end-within bytes n (end_of_other bytes (line_end bytes) n m))
    (sym (id_of_line others bytes (OtherLine n) m) ∙ h)

pub found_within : (others : ℕ) (bytes text : List ℕ) (end : ℕ) → id_of others bytes ≡ lines.Id text end
    → end ≤ length bytes
found_within zero bytes text end h = within_by zero bytes (λ n s f w k. cc) (line_of bytes) refl text end h
found_within (suc k) bytes text end h =
    within_by (suc k) bytes (λ n s f w j.
    let found = end_of_found n (id_of k (drop n bytes)) s f j in
    let more = found_within k (drop n bytes) s found.0 found.1 in
    let size = length-drop n bytes in
    let sum = found.2 in
    omega (arith, size, more, sum, w)) (line_of bytes) refl text end h

-- ---- what a piece leaves

end_waits : (unfinished : IdReading) (other : ℕ → IdReading) (e : Option ℕ) → text_heard unfinished ≡ []
    → ((m : ℕ) → text_heard (other m) ≡ []) → text_heard (by_end unfinished other e) ≡ []
end_waits unfinished other None u o = u
end_waits unfinished other (Some m) u o = o m

left_waits : (k : ℕ) (bytes : List ℕ) (n : ℕ) → text_heard (reading_left k bytes n) ≡ []
left_waits zero bytes n = refl
left_waits (suc k) bytes n = end_waits (Waiting bytes n) (λ m. reading_left k (drop m bytes) (n + 1)) (line_end bytes)
    refl (λ m. left_waits k (drop m bytes) (n + 1))

decided_short : (found : IdFound) (k : ℕ) (bytes : List ℕ) (had n : ℕ) (answer : Result IdProgress Error)
    (new : IdReading) → id_of k bytes ≡ found → Decides found had (reading_left k bytes n) answer new
    → length (text_heard new) ≤ longest_line
decided_short lines.NotYet k bytes had n answer new e d = let t : text_heard new ≡ [] = ap text_heard d.1
    ∙ left_waits k bytes n in let l = ap length t in omega (arith, l)
decided_short (lines.Id text end) k bytes had n answer new e d = let s = found_short k bytes text end e in let l :
    length (text_heard new) ≡ length text = ap (λ (r : IdReading). length (text_heard r)) d.1 in omega (arith, s, l)
decided_short lines.Version k bytes had n answer new e d = let l : length (text_heard new) ≡ 0 = ap
    (λ (r : IdReading). length (text_heard r)) d.1 in omega (arith, l)

pub heard_short : (allow : Bool) (old : IdReading) (piece : List ℕ) (answer : Result IdProgress Error) (new : IdReading)
    → Feeds allow old piece answer new → length (text_heard old) ≤ longest_line → length (text_heard new) ≤ longest_line
heard_short allow (Waiting bytes others) piece answer new h s = decided_short
    (id_of (still_allowed allow others) (bytes ++ piece)) (still_allowed allow others) (bytes ++ piece) (length bytes)
    others answer new refl h
heard_short allow (Heard text) piece answer new h s = let l : length (text_heard new) ≡ length text = ap
    (λ (r : IdReading). length (text_heard r)) h.1 in omega (arith, s, l)
heard_short allow Failed piece answer new h s = let l : length (text_heard new) ≡ 0 = ap
    (λ (r : IdReading). length (text_heard r)) h.1 in omega (arith, l)

-- ---- packets wait behind a line

none_behind : (line : IdReading) (waiting : List ℕ) → waiting ≡ [] → WaitsBehind line waiting
none_behind (Waiting bytes others) waiting e = e
none_behind (Heard text) waiting e = tt
none_behind Failed waiting e = e

pub behind_kept : (allow : Bool) (old : IdReading) (piece : List ℕ) (answer : Result IdProgress Error) (new : IdReading)
    (waiting : List ℕ) → Feeds allow old piece answer new → WaitsBehind old waiting → WaitsBehind new waiting
behind_kept allow (Waiting bytes others) piece answer new waiting h w = none_behind new waiting w
behind_kept allow (Heard text) piece answer new waiting h w = subst (λ (r : IdReading). WaitsBehind r waiting) (sym h.1)
    tt
behind_kept allow Failed piece answer new waiting h w = none_behind new waiting w

decided_behind : (found : IdFound) (had : ℕ) (left new : IdReading) (used : ℕ) (waiting : List ℕ)
    → Decides found had left (Ok (progress.Id used)) new → WaitsBehind new waiting
decided_behind lines.NotYet had left new used waiting d = absurd
    (let e : Ok (progress.Id used) ≡ Ok progress.NotYet = d.0 in cc)
decided_behind (lines.Id text end) had left new used waiting d = subst (λ (r : IdReading). WaitsBehind r waiting)
    (sym d.1) tt
decided_behind lines.Version had left new used waiting d = absurd (let e = d.0 in cc)

pub behind_heard : (allow : Bool) (old : IdReading) (piece : List ℕ) (used : ℕ) (new : IdReading) (waiting : List ℕ)
    → Feeds allow old piece (Ok (progress.Id used)) new → WaitsBehind new waiting
behind_heard allow (Waiting bytes others) piece used new waiting h = decided_behind
    (id_of (still_allowed allow others) (bytes ++ piece)) (length bytes)
    (reading_left (still_allowed allow others) (bytes ++ piece) others) new used waiting h
behind_heard allow (Heard text) piece used new waiting h = subst (λ (r : IdReading). WaitsBehind r waiting) (sym h.1) tt
behind_heard allow Failed piece used new waiting h = absurd (let e = h.0 in cc)

-- ---- nothing is left to do behind a piece of it

unheard_end : (unfinished : IdReading) (other : ℕ → IdReading) (e : Option ℕ) → heard_of unfinished ≡ None
    → ((m : ℕ) → heard_of (other m) ≡ None) → heard_of (by_end unfinished other e) ≡ None
unheard_end unfinished other None u o = u
unheard_end unfinished other (Some m) u o = o m

pub left_unheard : (k : ℕ) (bytes : List ℕ) (n : ℕ) → heard_of (reading_left k bytes n) ≡ None
left_unheard zero bytes n = refl
left_unheard (suc k) bytes n = unheard_end (Waiting bytes n) (λ m. reading_left k (drop m bytes) (n + 1))
    (line_end bytes) refl (λ m. left_unheard k (drop m bytes) (n + 1))

decided_unheard : (found : IdFound) (k : ℕ) (bytes : List ℕ) (had n : ℕ) (new : IdReading)
    → Decides found had (reading_left k bytes n) (Ok progress.NotYet) new → heard_of new ≡ None
decided_unheard lines.NotYet k bytes had n new d = ap heard_of d.1 ∙ left_unheard k bytes n
decided_unheard (lines.Id text end) k bytes had n new d = absurd
    (let e : Ok progress.NotYet ≡ Ok (progress.Id (end - had)) = d.0 in cc)
decided_unheard lines.Version k bytes had n new d = absurd (let e = d.0 in cc)

pub unheard_yet : (allow : Bool) (old : IdReading) (piece : List ℕ) (new : IdReading)
    → Feeds allow old piece (Ok progress.NotYet) new → heard_of new ≡ None
unheard_yet allow (Waiting bytes others) piece new h = decided_unheard
    (id_of (still_allowed allow others) (bytes ++ piece)) (still_allowed allow others) (bytes ++ piece) (length bytes)
    others new h
unheard_yet allow (Heard text) piece new h = absurd (let e = h.0 in cc)
unheard_yet allow Failed piece new h = absurd (let e = h.0 in cc)

settled_line : (s s' : Session) (line : IdReading) (read : ℕ) → s' ≡ record s { line = line }
    → (stands_of s.finished.items s.kex ≡ Silent → heard_of line ≡ None) → IsSettled s read → IsSettled s' read
settled_line s s' line read e h q = subst (λ (x : Session). IsSettled x read) (sym e)
    (λ at. let p = q at in record {
      owes = refl;
      not_called = refl;
      silent = h;
      sent = p.sent;
      below_write =
          p.below_write;
      below_read = p.below_read;
    })

pub settled_not_yet : (allow : Bool) (s s' : Session) (line : IdReading) (piece : List ℕ) (got : IdProgress) (read : ℕ)
    → Feeds allow s.line piece (Ok got) line → got ≡ progress.NotYet → s' ≡ record s { line = line } → IsSettled s read
    → IsSettled s' read
settled_not_yet allow s s' line piece got read h g e q = settled_line s s' line read e
    (λ k. unheard_yet allow s.line piece line (subst (λ (x : IdProgress). Feeds allow s.line piece (Ok x) line) g h)) q

not_silent : (w : Where) → is_silent w ≡ false → w ≡ Silent → ⊥
not_silent w e f = let g : true ≡ false = sym (ap is_silent f) ∙ e in cc

pub settled_late : (s s' : Session) (line : IdReading) (read : ℕ) (due : Bool)
    → due ≡ is_silent (stands_of s.finished.items s.kex) → due ≡ false → s' ≡ record s { line = line }
    → IsSettled s read → IsSettled s' read
settled_late s s' line read due d f e q = settled_line s s' line read e
    (λ k. absurd (not_silent (stands_of s.finished.items s.kex) (sym d ∙ f) k)) q

pub settled_begun : (s s' : Session) (read : ℕ) → Begins s s' → IsSettled s' read
settled_begun s s' read b = settled_inside s' read (ap is_outside stands)
    (λ k. absurd (let f : Silent ≡ Inside b.machine.stage = sym k ∙ stands in cc))
  where
    stands : stands_of s'.finished.items s'.kex ≡ Inside b.machine.stage
    stands = ap (λ (x : Session). stands_of x.finished.items x.kex) b.becomes
