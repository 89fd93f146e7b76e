-- The text of a key's file, as a loop over its bytes leaves it and as its lines say it.
use Rattle.std.proofs.Common.{◌≡◌, ℕ, ◌==◌, ◌||◌, not, Bool, true, false, if◌then◌else◌, List, [], ◌∷◌, ◌++◌, refl, ap, sym, subst, ◌∙◌, length, drop, arith, append-nil}
use Rattle.std.specs.Prelude.{filter, flat_map}
use Rattle.std.proofs.lemmas.Grind.{common_steps}
use Rattle.ssh_lines.specs.Lines.{pieces, onto_first}
use Rattle.ssh_modp.specs.KeyFiles.{armour_line, armoured, is_kept}

-- a byte of a line, before what comes after it: line ends are left out, and so is a line that is skipped
abbrev pub before_rest : (ends skips : Bool) → ℕ → List ℕ → List ℕ
before_rest ends skips b rest = if ends || skips || b == 13 then rest else b ∷ rest

-- what is left of a text: where a line begins, its first byte decides whether it is skipped
abbrev pub text_in : (begins skips : Bool) → List ℕ → List ℕ
text_in begins skips [] = []
text_in begins skips (b ∷ rest) =
    before_rest (b == 10) (if begins then b == 45 else skips) b
    (text_in (b == 10) (if begins then b == 45 else skips) rest)

-- ---- the same by lines

-- what a line leaves whose begin was read
abbrev pub rest_of_line : (skips : Bool) → List ℕ → List ℕ
rest_of_line skips line = if skips then [] else filter is_kept line

-- what comes after a line's begin
abbrev pub from_inside : (skips : Bool) → List (List ℕ) → List ℕ
from_inside skips [] = rest_of_line skips [] ++ []
from_inside skips (line ∷ lines) = rest_of_line skips line ++ flat_map armour_line lines

abbrev pub from_lines : (begins skips : Bool) → List (List ℕ) → List ℕ
from_lines true skips lines = flat_map armour_line lines
from_lines false skips lines = from_inside skips lines

-- a line's end
no_line : (begins skips : Bool) (lines : List (List ℕ)) → flat_map armour_line lines ≡ from_lines begins skips ([] ∷ lines)
no_line true skips lines = refl
no_line false true lines = refl
no_line false false lines = refl

-- a byte of a line, with those after it
byte_kept : (is_cr : Bool) (b : ℕ) (line more : List ℕ) → (if is_cr then line ++ more else b ∷ (line ++ more)) ≡ (if not is_cr then b ∷ line else line) ++ more
byte_kept true b line more = refl
byte_kept false b line more = refl

byte_on : (skips : Bool) (b : ℕ) (line more : List ℕ) → before_rest false skips b (rest_of_line skips line ++ more) ≡ rest_of_line skips (b ∷ line) ++ more
byte_on true b line more = refl
byte_on false b line more = byte_kept (b == 13) b (filter is_kept line) more

byte_of_lines : (begins skips : Bool) (b : ℕ) (lines : List (List ℕ)) → before_rest false (if begins then b == 45 else skips) b (from_inside (if begins then b == 45 else skips) lines) ≡ from_lines begins skips (onto_first b lines)
byte_of_lines true skips b [] = byte_on (b == 45) b [] []
byte_of_lines true skips b (line ∷ lines) = byte_on (b == 45) b line (flat_map armour_line lines)
byte_of_lines false skips b [] = byte_on skips b [] []
byte_of_lines false skips b (line ∷ lines) = byte_on skips b line (flat_map armour_line lines)

-- a byte of a text
byte_of_text : (ends begins skips : Bool) (b : ℕ) (rest : List ℕ) (lines : List (List ℕ)) → rest ≡ from_lines ends (if begins then b == 45 else skips) lines → before_rest ends (if begins then b == 45 else skips) b rest ≡ from_lines begins skips (if ends then [] ∷ lines else onto_first b lines)
byte_of_text true begins skips b rest lines h = h ∙ no_line begins skips lines
byte_of_text false begins skips b rest lines h = ap (before_rest false (if begins then b == 45 else skips) b) h ∙ byte_of_lines begins skips b lines

text_is : (begins skips : Bool) (text : List ℕ) → text_in begins skips text ≡ from_lines begins skips (pieces 10 text)
text_is begins skips [] = no_line begins skips []
text_is begins skips (b ∷ rest) =
    byte_of_text (b == 10) begins skips b (text_in (b == 10) (if begins then b == 45 else skips) rest) (pieces 10 rest)
    (text_is (b == 10) (if begins then b == 45 else skips) rest)

none_left : (text : List ℕ) (n : ℕ) → n ≡ length text → drop n text ≡ []
none_left text n e = grind (arith, common_steps)

-- the text that a loop over the bytes made, at their end
pub at_end : (body text : List ℕ) (begins skips : Bool) (n : ℕ) → n ≡ length text → body ++ text_in begins skips (drop n text) ≡ text_in true false text → body ≡ armoured text
at_end body text begins skips n e h = sym (append-nil body) ∙ (subst (λ l. body ++ text_in begins skips l ≡ text_in true false text) (none_left text n e) h ∙ text_is true false text)
