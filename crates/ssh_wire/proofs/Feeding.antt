-- A line that a piece ends, as the reader keeps it.
use Rattle.std.proofs.Common.{◌≡◌, ℕ, ◌+◌, ◌-◌, ◌<◌, ◌≤◌, true, false, List, [], ◌++◌, length, take, Some, refl, sym, ap, ◌∙◌, arith}
use Rattle.std.proofs.Math.Seq.{take-append-add}
use Rattle.std.proofs.lemmas.List.{take-append-le, take-append-drop}
use Rattle.std.proofs.lemmas.Grind.{common_steps}
use Rattle.ssh_wire.specs.Lines.{line_end, line_text, is_id_text, longest_line}
use Rattle.ssh_wire.specs.Reading.{Waiting, Heard}
use Rattle.ssh_wire.specs.Stepping.{ReadsLine}
use Rattle.ssh_wire.specs.declared.read_id.LineRead.TheVariants as LineRead
use Rattle.ssh_wire.proofs.Ends.{line_of-end}

-- the piece's front stands behind what waited
pub record Ends (w p line : List ℕ) (had end : ℕ) : Type 0 where
  pub waited : length w ≡ had
  pub at : line_end (w ++ p) ≡ Some end
  pub beyond : had < end
  pub within : end ≤ had + length p
  pub short : end ≤ longest_line
  pub kept : take (had + length (take (end - had) p)) line ≡ w ++ take (end - had) p

line_kept : (w p line : List ℕ) (had end : ℕ) → Ends w p line had end → take end line ≡ take end (w ++ p)
line_kept w p line had end e =
    let front : take (length w + (end - had)) (w ++ p) ≡ w ++ take (end - had) p = take-append-add w p (end - had) in
    let size : had + length (take (end - had) p) ≡ end = grind (arith, common_steps) in
    let whole : length w + (end - had) ≡ end = omega (arith, e.waited, e.beyond) in
    (ap (λ n. take n line) (sym size) ∙ e.kept) ∙ (sym front ∙ ap (λ n. take n (w ++ p)) whole)

take_front : (line : List ℕ) (text end : ℕ) → text ≤ length (take end line) → take text line ≡ take text (take end line)
take_front line text end h = ap (take text) (sym (take-append-drop end line)) ∙ take-append-le text (take end line) _ h

pub hears : (w p line : List ℕ) (had end text others : ℕ) → Ends w p line had end → true ≡ is_id_text (line_text (take end line)) → take text (take end line) ≡ line_text (take end line) → text ≤ length (take end line) → ReadsLine (Waiting w others) p (LineRead.IdLine (end - had)) (Heard (take text line))
hears w p line had end text others e named text_of fits =
    let shown = take_front line text end fits ∙ text_of in
    let found = line_of-end (w ++ p) (take end line) true end e.at e.short (line_kept w p line had end e) named in
    rw (found, e.waited, shown) (refl, refl)

pub passes : (w p line : List ℕ) (had end others : ℕ) → Ends w p line had end → false ≡ is_id_text (line_text (take end line)) → ReadsLine (Waiting w others) p (LineRead.OtherLine (end - had)) (Waiting [] others)
passes w p line had end others e named =
    let found = line_of-end (w ++ p) (take end line) false end e.at e.short (line_kept w p line had end e) named in
    let beyond : had ≤ end = (let b = e.beyond in omega arith) in
    rw (found, e.waited) (refl, refl, beyond)
