-- The text of a script: lines, words, and what the lines of a command's forms say one after the other.
use Rattle.std.specs.Prelude.{ℕ, ◌+◌, ◌==◌, Bool, true, false, if◌then◌else◌, List, [], ◌∷◌, slice_index, filter, Result, Ok, Err}
use Rattle.ssh_wire.specs.Lines.{without_cr}
use Rattle.ssh_program.specs.Programs.{is_too_long}
use Rattle.ssh_lines.specs.declared.script.ScriptFault.{ScriptFault}
use Rattle.ssh_lines.specs.declared.script.ScriptKind.{ScriptKind}
use Rattle.ssh_lines.specs.declared.script.ScriptKind.TheVariants.{TooLong}

-- a byte before the first of the pieces
abbrev pub onto_first : ℕ → List (List ℕ) → List (List ℕ)
onto_first b [] = (b ∷ []) ∷ []
onto_first b (piece ∷ pieces) = (b ∷ piece) ∷ pieces

-- a text cut at each separator; there is one piece more than separators
abbrev pub pieces : ℕ → List ℕ → List (List ℕ)
pieces separator [] = [] ∷ []
pieces separator (b ∷ rest) = if b == separator then [] ∷ pieces separator rest else onto_first b (pieces separator rest)

abbrev pub is_filled : List ℕ → Bool
is_filled [] = false
is_filled (b ∷ rest) = true

-- the words of a line: what stands between spaces, a CR at the line's end left out
abbrev pub words_of : List ℕ → List (List ℕ)
words_of line = filter is_filled (pieces 32 (without_cr line))

-- a line without words, or whose first word begins with `#`, says nothing
abbrev pub is_comment : List ℕ → Bool
is_comment word = slice_index word 0 == 35

-- what a line makes of what those before it said: the same where it says nothing, else by its first word and those
-- behind it
abbrev pub line_makes : {X : Type 0} → (X → List ℕ → List (List ℕ) → Result X ScriptKind) → X → List (List ℕ) → Result X ScriptKind
line_makes form said [] = Ok said
line_makes form said (word ∷ words) = if is_comment word then Ok said else form said word words

-- line n, before the lines behind it: the first faulty line decides
abbrev pub said_then : {X : Type 0} → ℕ → Result X ScriptKind → (X → Result X ScriptFault) → Result X ScriptFault
said_then n (Err kind) more = Err (record { line = n; kind = kind })
said_then n (Ok said) more = more said

-- what lines that count from n make of what was said
abbrev pub said_from : {X : Type 0} → (X → List ℕ → List (List ℕ) → Result X ScriptKind) → ℕ → X → List (List ℕ) → Result X ScriptFault
said_from form n said [] = Ok said
said_from form n said (line ∷ lines) = said_then n (line_makes form said (words_of line))
    (λ next. said_from form (n + 1) next lines)

-- what a whole script makes of what was said before it, or its fault
abbrev pub said_by : {X : Type 0} → (X → List ℕ → List (List ℕ) → Result X ScriptKind) → X → List ℕ → Result X ScriptFault
said_by form first text = if is_too_long text then Err (record { line = 0; kind = TooLong }) else said_from form 1 first (pieces 10 text)
