-- Where a line ends that comes in two pieces, and what it is judged.
use Rattle.std.proofs.Common.{◌≡◌, ℕ, suc, ◌+◌, ◌<◌, ◌≤◌, Bool, true, false, List, [], ◌∷◌, ◌++◌, length, take, Some, None, if◌then◌else◌, nat_eq, sym, ap, ◌∙◌, arith}
use Rattle.std.proofs.lemmas.Bool.Decides.{nat_tests}
use Rattle.ssh_wire.specs.Lines.{lf_end, line_end, line_text, is_id_text, line_to, line_of, longest_line, IdLine, OtherLine}

-- what goes on behind bytes without an LF
pub lf_end-append : (at : ℕ) (w p : List ℕ) → lf_end at w ≡ None → lf_end at (w ++ p) ≡ lf_end (at + length w) p
lf_end-append at [] p h = ap (λ n. lf_end n p) (omega arith)
lf_end-append at (b ∷ w) p h = lf_end-step (nat_eq b 10) at w p h (lf_end-append (at + 1) w p)
  where
    lf_end-step : (t : Bool) (at : ℕ) (w p : List ℕ) → (if t then Some (at + 1) else lf_end (at + 1) w) ≡ None → (lf_end (at + 1) w ≡ None → lf_end (at + 1) (w ++ p) ≡ lf_end (at + 1 + length w) p) → (if t then Some (at + 1) else lf_end (at + 1) (w ++ p)) ≡ lf_end (at + suc (length w)) p
    lf_end-step true at w p h more = cc
    lf_end-step false at w p h more = more h ∙ ap (λ n. lf_end n p) (omega arith)

pub line_end-append : (w p : List ℕ) → 0 < length w → line_end w ≡ None → line_end (w ++ p) ≡ lf_end (length w) p
line_end-append [] p some h = absurd (omega arith)
line_end-append (b ∷ w) p some h = lf_end-append 1 w p h ∙ ap (λ n. lf_end n p) (omega arith)

pub line_of-end : (bytes kept : List ℕ) (t : Bool) (end : ℕ) → line_end bytes ≡ Some end → end ≤ longest_line → kept ≡ take end bytes → t ≡ is_id_text (line_text kept) → line_of bytes ≡ (if t then IdLine (line_text kept) end else OtherLine end)
line_of-end bytes kept t end at small e h = ap (line_to bytes) at ∙ judged kept e h
  where
    judged : (kept : List ℕ) → kept ≡ take end bytes → t ≡ is_id_text (line_text kept) → line_to bytes (Some end) ≡ (if t then IdLine (line_text kept) end else OtherLine end)
    judged kept e h = rw (sym e, sym h) (grind (arith, nat_tests))
