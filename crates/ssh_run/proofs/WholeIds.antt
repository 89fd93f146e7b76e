-- A version line that passes the test of a configuration is read as its text, since it is UTF-8.
use Rattle.std.proofs.Common.{◌≡◌, ℕ, zero, suc, ◌+◌, ◌-◌, ◌<◌, ◌≤◌, ◌==◌, ◌||◌, ◌&&◌, List, [], ◌∷◌, ◌++◌, length, take, get_or, nat_le, nat_lt, nat_eq, not, refl, sym, ◌∙◌, ap, subst, arith, Bool, true, false, Option, Some, None, codes, slice_index, if◌then◌else◌, append_assoc, length-append}
use Rattle.std.proofs.Math.Seq.{take-length, take-suc}
use Rattle.std.proofs.lemmas.Bool.Decides.{nat_tests}
use Rattle.std.proofs.lemmas.List.{take_at}
use Rattle.std.proofs.lemmas.Str.{IsCharBoundary-before_ascii, IsUtf8-from_is_utf8, IsUtf8-take, is_utf8-from_IsUtf8}
use Rattle.std.specs.List.{list_any, starts_with}
use Rattle.std.specs.Str.{IsUtf8, is_utf8}
use Rattle.ssh_wire.specs.Lines.{Id, IdLine, OtherLine, TooLong, Version, before_trimmed_rest, found_by_line, id_line, id_of, id_text, is_id_text, is_line_end, lf_end, line_end, line_text, line_to, without_cr, without_line_ends}
use Rattle.ssh_wire.specs.declared.error.ConfigFault.{ConfigFault}
use Rattle.ssh_wire.specs.declared.error.ConfigFault.TheVariants as faults
use Rattle.ssh_wire.specs.declared.side.Side.{Side}
use Rattle.ssh_wire.specs.declared.ssh_id.SshId.{SshId}
use Rattle.ssh_wire.specs.declared.ssh_id.SshId.TheVariants.{Standard, Raw}
use Rattle.ssh_kex.specs.declared.config.Config.{Config}
use Rattle.ssh_rules.specs.Snapshots.{IsWholeId}
use Rattle.ssh_run.specs.Carrying.{text_of_id}
use Rattle.ssh_rules.specs.Valid.{config_fault, id_line_text, is_good_id, is_id_line_text}

-- how a line ends: by LF, or by CR LF
abbrev ending_of : Bool → List ℕ
ending_of false = 10 ∷ []
ending_of true = 13 ∷ 10 ∷ []

abbrev NoEnds : List ℕ → Type 0
NoEnds xs = list_any is_line_end xs ≡ false

or_false : (a b : Bool) → (a || b) ≡ false → (a ≡ false) × (b ≡ false)
or_false false b h = (refl, h)
or_false true b h = cc

and_true : (a b : Bool) → (a && b) ≡ true → (a ≡ true) × (b ≡ true)
and_true true b h = (refl, h)
and_true false b h = cc

not_true : (b : Bool) → not b ≡ true → b ≡ false
not_true false h = refl
not_true true h = cc

otherwise : {A : Type 0} (b : Bool) (p q : A) → b ≡ false → (if b then p else q) ≡ q
otherwise b p q e = ap (λ c. if c then p else q) e

lf_behind : (crlf : Bool) (at : ℕ) → lf_end at (ending_of crlf) ≡ Some (at + length (ending_of crlf))
lf_behind false at = refl
lf_behind true at = ap Some (let e : at + 1 + 1 ≡ at + 2 = omega arith in e)

lf_of : (crlf : Bool) (at : ℕ) (xs : List ℕ) → NoEnds xs → lf_end at (xs ++ ending_of crlf) ≡ Some (at + length (xs ++ ending_of crlf))
lf_of crlf at [] h = lf_behind crlf at
lf_of crlf at (x ∷ xs) h =
    let p = or_false (is_line_end x) (list_any is_line_end xs) h in
    let q = or_false (x == 13) (x == 10) p.0 in
    otherwise (x == 10) (Some (at + 1)) (lf_end (at + 1) (xs ++ ending_of crlf)) q.1 ∙ (lf_of crlf (at + 1) xs p.1 ∙ ap Some (let n = length (xs ++ ending_of crlf) in let e : at + 1 + n ≡ at + suc n = omega arith in e))

line_end_of : (crlf : Bool) (xs : List ℕ) → NoEnds xs → 0 < length xs → line_end (xs ++ ending_of crlf) ≡ Some (length (xs ++ ending_of crlf))
line_end_of crlf [] h l = absurd (omega (arith, l))
line_end_of crlf (x ∷ xs) h l = lf_of crlf 1 xs (or_false (is_line_end x) (list_any is_line_end xs) h).1 ∙ ap Some (let n = length (xs ++ ending_of crlf) in let e : 1 + n ≡ suc n = omega arith in e)

-- a line without its LF
without_last : (xs : List ℕ) (b : ℕ) → take (length (xs ++ b ∷ []) - 1) (xs ++ b ∷ []) ≡ xs
without_last xs b = take_at xs (b ∷ []) (length (xs ++ b ∷ []) - 1) (let e = length-append xs (b ∷ []) in omega (arith, e))

last_of : (xs : List ℕ) (b : ℕ) → get_or (xs ++ b ∷ []) (length (xs ++ b ∷ []) - 1) 0 ≡ b
last_of xs b = ap (λ n. get_or (xs ++ b ∷ []) n 0) (let e = length-append xs (b ∷ []) in omega (arith, e)) ∙ at_end xs where
  at_end : (ys : List ℕ) → get_or (ys ++ b ∷ []) (length ys) 0 ≡ b
  at_end [] = refl
  at_end (y ∷ ys) = at_end ys

-- no CR stands at the end of a text that ends no line
no_cr : (xs : List ℕ) → NoEnds xs → without_cr xs ≡ xs
no_cr xs h = otherwise (slice_index xs (length xs - 1) == 13) (take (length xs - 1) xs) xs (by xs (length xs - 1) h) where
  by : (ys : List ℕ) (n : ℕ) → NoEnds ys → (slice_index ys n == 13) ≡ false
  by [] n g = refl
  by (y ∷ ys) zero g = (or_false (y == 13) (y == 10) (or_false (is_line_end y) (list_any is_line_end ys) g).0).0
  by (y ∷ ys) (suc n) g = by ys n (or_false (is_line_end y) (list_any is_line_end ys) g).1

without_cr_of : (xs : List ℕ) → without_cr (xs ++ 13 ∷ []) ≡ xs
without_cr_of xs = ap (λ b. if b == 13 then take (length (xs ++ 13 ∷ []) - 1) (xs ++ 13 ∷ []) else xs ++ 13 ∷ []) (last_of xs 13) ∙ without_last xs 13

line_text_of : (crlf : Bool) (xs : List ℕ) → NoEnds xs → line_text (xs ++ ending_of crlf) ≡ xs
line_text_of false xs h = ap without_cr (without_last xs 10) ∙ no_cr xs h
line_text_of true xs h = ap (λ q. line_text q) (sym (append_assoc xs (13 ∷ []) (10 ∷ []))) ∙ (ap without_cr (without_last (xs ++ 13 ∷ []) 10) ∙ without_cr_of xs)

-- all line ends at the end are trimmed
trimmed : (crlf : Bool) (xs : List ℕ) → NoEnds xs → without_line_ends (xs ++ ending_of crlf) ≡ xs
trimmed false [] h = refl
trimmed true [] h = refl
trimmed crlf (x ∷ xs) h =
    let p = or_false (is_line_end x) (list_any is_line_end xs) h in
    ap (before_trimmed_rest x) (trimmed crlf xs p.1) ∙ by xs p.0 where
      by : (ys : List ℕ) → is_line_end x ≡ false → before_trimmed_rest x ys ≡ x ∷ ys
      by [] e = otherwise (is_line_end x) [] (x ∷ []) e
      by (y ∷ ys) e = refl

found_as : (b : Bool) (n : ℕ) (t core : List ℕ) → b ≡ false → t ≡ core → is_id_text core ≡ true → found_by_line (λ m. Version) (if b then TooLong else if is_id_text t then IdLine t n else OtherLine n) ≡ Id core n
found_as true n t core e f g = cc
found_as false n t core e f g = ap (λ q. found_by_line (λ m. Version) (if is_id_text q then IdLine q n else OtherLine n)) f ∙ ap (λ b. found_by_line (λ m. Version) (if b then IdLine core n else OtherLine n)) g

line_found : (crlf : Bool) (core : List ℕ) → NoEnds core → 0 < length core → length (core ++ ending_of crlf) ≤ 255 → is_id_text core ≡ true → id_of 0 (core ++ ending_of crlf) ≡ Id core (length (core ++ ending_of crlf))
line_found crlf core h some short good =
    let bytes = core ++ ending_of crlf in
    ap (λ o. found_by_line (λ m. Version) (line_to bytes o)) (line_end_of crlf core h some)
    ∙ found_as (nat_lt 255 (length bytes)) (length bytes) (line_text (take (length bytes) bytes)) core (at_most (length bytes) short) (ap (λ q. line_text q) (take-length bytes) ∙ line_text_of crlf core h) good where
      at_most : (n : ℕ) → n ≤ 255 → nat_lt 255 n ≡ false
      at_most n l = grind (arith, nat_tests)

-- ---- a version line of a configuration

split_last : (xs : List ℕ) (b : ℕ) → 0 < length xs → get_or xs (length xs - 1) 0 ≡ b → xs ≡ take (length xs - 1) xs ++ b ∷ []
split_last xs b l e =
    let n : suc (length xs - 1) ≡ length xs = omega (arith, l) in
    sym (take-length xs) ∙ (ap (λ m. take m xs) (sym n) ∙ (take-suc xs (length xs - 1) 0 (omega (arith, l)) ∙ ap (λ y. take (length xs - 1) xs ++ y ∷ []) e))

starts_some : (xs : List ℕ) → (starts_with nat_eq xs (codes "SSH-2.0-") || starts_with nat_eq xs (codes "SSH-1.99-")) ≡ true → 0 < length xs
starts_some [] h = cc
starts_some (x ∷ xs) h = omega arith

utf8_front : (xs ys : List ℕ) (b : ℕ) → b < 128 → is_utf8 (xs ++ b ∷ ys) ≡ true → is_utf8 xs ≡ true
utf8_front xs ys b l h = is_utf8-from_IsUtf8 xs (subst IsUtf8 (take_at xs (b ∷ ys) (length xs) refl) (IsUtf8-take (xs ++ b ∷ ys) (length xs) (IsUtf8-from_is_utf8 (xs ++ b ∷ ys) h)
    (IsCharBoundary-before_ascii (xs ++ b ∷ ys) (length xs) (let e = length-append xs (b ∷ ys) in let z : length (b ∷ ys) ≡ suc (length ys) = refl in omega (arith, e, z)) (subst (λ c. c < 128) (sym (at_seam xs)) l)))) where
      at_seam : (zs : List ℕ) → get_or (zs ++ b ∷ ys) (length zs) 0 ≡ b
      at_seam [] = refl
      at_seam (z ∷ zs) = at_seam zs

utf8_core : (crlf : Bool) (core : List ℕ) → is_utf8 (core ++ ending_of crlf) ≡ true → is_utf8 core ≡ true
utf8_core false core h = utf8_front core [] 10 (omega arith) h
utf8_core true core h = utf8_front core (10 ∷ []) 13 (omega arith) h

-- what a line is made of
record IsMade (line : List ℕ) (core : List ℕ) : Type 0 where
  pub crlf : Bool
  pub line_is : line ≡ core ++ ending_of crlf
  pub begins : (starts_with nat_eq core (codes "SSH-2.0-") || starts_with nat_eq core (codes "SSH-1.99-")) ≡ true
  pub no_ends : NoEnds core

made_found : (line core : List ℕ) → IsMade line core → length line ≤ 255 → is_utf8 core ≡ true → id_of 0 line ≡ Id core (length line)
made_found line core m short text = subst (λ q. id_of 0 q ≡ Id core (length q)) (sym m.line_is)
    (line_found m.crlf core m.no_ends (starts_some core m.begins) (subst (λ q. length q ≤ 255) m.line_is short) (ap (λ b. b && is_utf8 core) m.begins ∙ text))

raw_made : (text : List ℕ) → is_id_line_text (id_line_text (Raw text)) ≡ true → (core : List ℕ) × IsMade text core
raw_made text h = by (slice_index text (length text - 1) == 10) refl h where
  front : List ℕ
  front = take (length text - 1) text

  ends_front : (b : Bool) → (slice_index front (length front - 1) == 13) ≡ b → (text ≡ front ++ 10 ∷ []) → is_id_line_text (Some (if b then take (length front - 1) front else front)) ≡ true → (core : List ℕ) × IsMade text core
  ends_front false e t g = (front, record { crlf = false; line_is = t; begins = (and_true _ (not (list_any is_line_end front)) g).0; no_ends = not_true (list_any is_line_end front) (and_true _ (not (list_any is_line_end front)) g).1 })
  ends_front true e t g =
      let core = take (length front - 1) front in (
        core,
        record {
          crlf = true;
          line_is = t ∙ (ap (λ q. q ++ 10 ∷ []) (split_last front 13 (some_front front e) (number_is e)) ∙ append_assoc core (13 ∷ []) (10 ∷ []));
          begins = (and_true _ (not (list_any is_line_end core)) g).0;
          no_ends = not_true (list_any is_line_end core) (and_true _ (not (list_any is_line_end core)) g).1;
        },
      ) where
        number_is : (get_or front (length front - 1) 0 == 13) ≡ true → get_or front (length front - 1) 0 ≡ 13
        number_is f = grind (arith, nat_tests)

        some_front : (xs : List ℕ) → (get_or xs (length xs - 1) 0 == 13) ≡ true → 0 < length xs
        some_front [] f = cc
        some_front (x ∷ xs) f = omega arith

  by : (b : Bool) → (slice_index text (length text - 1) == 10) ≡ b → is_id_line_text (if b then Some (without_cr front) else None) ≡ true → (core : List ℕ) × IsMade text core
  by false e g = cc
  by true e g = ends_front (slice_index front (length front - 1) == 13) refl (split_last text 10 (some_text text e) (number_is e)) g where
    number_is : (get_or text (length text - 1) 0 == 10) ≡ true → get_or text (length text - 1) 0 ≡ 10
    number_is f = grind (arith, nat_tests)

    some_text : (xs : List ℕ) → (get_or xs (length xs - 1) 0 == 10) ≡ true → 0 < length xs
    some_text [] f = cc
    some_text (x ∷ xs) f = omega arith

good_found : (id : SshId) → is_good_id id ≡ true → is_utf8 (text_of_id id) ≡ true → id_of 0 (id_line id) ≡ Id (id_text id) (length (id_line id))
good_found (Standard text) h u =
    let p = and_true (is_id_line_text (Some text)) (nat_le (length (id_line (Standard text))) 255) h in
    let q = and_true (starts_with nat_eq text (codes "SSH-2.0-") || starts_with nat_eq text (codes "SSH-1.99-")) (not (list_any is_line_end text)) p.0 in
    made_found (text ++ 13 ∷ 10 ∷ []) text (record { crlf = true; line_is = refl; begins = q.0; no_ends = not_true (list_any is_line_end text) q.1 }) (at_most (length (text ++ 13 ∷ 10 ∷ [])) p.1) u where
      at_most : (n : ℕ) → nat_le n 255 ≡ true → n ≤ 255
      at_most n e = grind (arith, nat_tests)
good_found (Raw text) h u =
    let p = and_true (is_id_line_text (id_line_text (Raw text))) (nat_le (length text) 255) h in
    let m = raw_made text p.0 in
    let core_is : id_text (Raw text) ≡ m.0 = ap without_line_ends m.1.line_is ∙ trimmed m.1.crlf m.0 m.1.no_ends in
    made_found text m.0 m.1 (at_most (length text) p.1) (utf8_core m.1.crlf m.0 (subst (λ q. is_utf8 q ≡ true) m.1.line_is u)) ∙ ap (λ q. Id q (length text)) (sym core_is) where
      at_most : (n : ℕ) → nat_le n 255 ≡ true → n ≤ 255
      at_most n e = grind (arith, nat_tests)

first_passes : (b : Bool) (fault : ConfigFault) (rest : Option ConfigFault) → (if not b then Some fault else rest) ≡ None → b ≡ true
first_passes true fault rest h = refl
first_passes false fault rest h = cc

good_id : (side : Side) (config : Config) → config_fault side config ≡ None → is_good_id config.id ≡ true
unfolding config_fault
good_id side config h = first_passes (is_good_id config.id) faults.Id _ h

pub whole_id : (side : Side) (config : Config) → config_fault side config ≡ None → is_utf8 (text_of_id config.id) ≡ true → IsWholeId config
whole_id side config h u = good_found config.id (good_id side config h) u
