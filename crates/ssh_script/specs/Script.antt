-- The text of a script of the command `clear`.
use Rattle.std.specs.Prelude.{◌≡◌, ℕ, ◌++◌, refl, if◌then◌else◌, List, [], ◌∷◌, codes, Result, Ok, Err}
use Rattle.std.specs.Option.{option_map}
use Rattle.std.specs.Str.{bytes_eq}
use Rattle.ssh_lines.specs.Fields.{form_makes, side_bytes, side_number}
use Rattle.ssh_lines.specs.Lines.{said_by}
use Rattle.ssh_lines.specs.declared.script.ScriptFault.{ScriptFault}
use Rattle.ssh_lines.specs.declared.script.ScriptKind.{ScriptKind}
use Rattle.ssh_lines.specs.declared.script.ScriptKind.TheVariants.{NotBuilt, Malformed}
use Rattle.ssh_wire.specs.declared.side.Side.TheVariants.{Server}
use Rattle.ssh_script.specs.declared.step.ClearStep.{ClearStep}
use Rattle.ssh_script.specs.declared.step.ClearStep.TheVariants.{Submit, Deliver}

-- what a line of the command `clear` says, by its first word and those behind it
abbrev pub clear_step : List ℕ → List (List ℕ) → Result ClearStep ScriptKind
clear_step word words =
    if bytes_eq word (codes "submit") then form_makes (option_map (λ said. Submit said.0 said.1) (side_bytes words))
    else if bytes_eq word (codes "deliver") then form_makes (option_map (λ said. Deliver said.0 said.1) (side_number words))
    else Err NotBuilt

-- one step more
abbrev pub with_clear : List ClearStep → Result ClearStep ScriptKind → Result (List ClearStep) ScriptKind
with_clear steps (Err kind) = Err kind
with_clear steps (Ok step) = Ok (steps ++ step ∷ [])

-- what a line makes of the steps of those before it
abbrev pub clear_form : List ClearStep → List ℕ → List (List ℕ) → Result (List ClearStep) ScriptKind
clear_form steps word words = with_clear steps (clear_step word words)

-- the steps of a script of the command `clear`, or its fault
abbrev pub clear_script : List ℕ → Result (List ClearStep) ScriptFault
clear_script text = said_by clear_form [] text

-- a comment, an empty line, a step with words far apart, and a CR at the end
script-example : clear_script (codes "# x" ++ 10 ∷ 10 ∷ codes " deliver  server 24 " ++ 13 ∷ 10 ∷ []) ≡ Ok (Deliver Server 24 ∷ [])
script-example = refl

zero-example : clear_script (codes "deliver server 01") ≡ Err (record { line = 1; kind = Malformed })
zero-example = refl

first-example : clear_script (10 ∷ codes "hop client" ++ 10 ∷ codes "deliver" ++ []) ≡ Err (record { line = 2; kind = NotBuilt })
first-example = refl
