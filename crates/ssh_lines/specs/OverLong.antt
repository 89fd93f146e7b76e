-- A script that is too long has one fault, whatever its lines say.
use Rattle.std.specs.Prelude.{◌≡◌, ℕ, Bool, true, if◌then◌else◌, List, Result, Err}
use Rattle.std.proofs.Common.{ap}
use Rattle.ssh_program.specs.Programs.{is_too_long}
use Rattle.ssh_lines.specs.Lines.{said_by}
use Rattle.ssh_lines.specs.declared.script.ScriptFault.{ScriptFault}
use Rattle.ssh_lines.specs.declared.script.ScriptKind.{ScriptKind}
use Rattle.ssh_lines.specs.declared.script.ScriptKind.TheVariants.{TooLong}

-- how a script that is too long breaks its grammar
abbrev pub over_long : ScriptFault
over_long = record { line = 0; kind = TooLong }

by_test : {A : Type 0} (b : Bool) (x y : A) → b ≡ true → (if b then x else y) ≡ x
by_test b x y e = ap (λ c. if c then x else y) e

pub said_too_long : {X : Type 0} (form : X → List ℕ → List (List ℕ) → Result X ScriptKind) (first : X) (text : List ℕ) → is_too_long text ≡ true → said_by form first text ≡ Err over_long
said_too_long form first text h = by_test (is_too_long text) _ _ h
