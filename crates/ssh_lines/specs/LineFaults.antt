-- Why a line of a script says nothing, and what is answered where a script breaks its grammar.
use Rattle.std.specs.Prelude.{◌≡◌, ℕ, List, filter, Option, None, Result, Err}
use Rattle.ssh_lines.specs.Lines.{is_filled, pieces}
use Rattle.ssh_lines.specs.declared.line_fault.LineFault.{LineFault}
use Rattle.ssh_lines.specs.declared.line_fault.LineFault.TheVariants as fault
use Rattle.ssh_lines.specs.declared.script.ScriptError.{ScriptError}
use Rattle.ssh_lines.specs.declared.script.ScriptError.TheVariants as error
use Rattle.ssh_lines.specs.declared.script.ScriptFault.{ScriptFault}
use Rattle.ssh_lines.specs.declared.script.ScriptKind.{ScriptKind}
use Rattle.ssh_lines.specs.declared.script.ScriptKind.TheVariants.{NotBuilt, Malformed}

-- the line's own fault; memory may end at any time
abbrev pub IsLineFault : {X : Type 0} → Result X ScriptKind → LineFault → Type 0
IsLineFault line fault.NotBuilt = line ≡ Err NotBuilt
IsLineFault line fault.Malformed = line ≡ Err Malformed
IsLineFault line fault.Memory = Unit {0}

-- words that are wrong; memory may end at any time
abbrev pub AreWrong : {X : Type 0} → Option X → LineFault → Type 0
AreWrong read fault.NotBuilt = ⊥
AreWrong read fault.Malformed = read ≡ None
AreWrong read fault.Memory = Unit {0}

-- the fault of line n of a script
abbrev pub fault_at : ℕ → LineFault → ScriptError
fault_at n fault.NotBuilt = error.Fault (record { line = n; kind = NotBuilt })
fault_at n fault.Malformed = error.Fault (record { line = n; kind = Malformed })
fault_at n fault.Memory = error.Memory

-- a fault is the script's own; memory may end at any time
abbrev pub IsRefusal : {X : Type 0} → Result X ScriptFault → ScriptError → Type 0
IsRefusal script (error.Fault told) = script ≡ Err told
IsRefusal script error.Memory = Unit {0}

-- the words of a text without a line's end
abbrev pub words_in : List ℕ → List (List ℕ)
words_in text = filter is_filled (pieces 32 text)
