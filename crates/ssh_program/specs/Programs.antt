-- What a program answers to the words that it was called with and the text that was left, and how it is told.
use Rattle.std.specs.Prelude.{◌≡◌, ℕ, ◌⊎◌, Bool, true, false, nat_lt, List, [], codes, drop, length, map, Option, Some, None, IfSome, Result, Ok, Err}
use Rattle.std.specs.Global.{Global}
use Rattle.std.specs.String.{string_bytes}
use Rattle.std.specs.Vec.Iter.{into_iter_items}
use Rattle.std.specs.declared.string.String.{String}
use Rattle.std.specs.declared.vec.IntoIter.{IntoIter}
use Rattle.ssh_wire.specs.Outside.{Appends, Rose, AppendsFront, ReachesEnd}
use Rattle.ssh_program.specs.Statuses.{no_command, sink_failed}

-- the words that a program was called with: those behind its name, or none where one of all isn't UTF-8
abbrev pub AreWords : {E : Type 0} → Result (IntoIter (String Global) Global) E → List (List ℕ) → Type 0
AreWords (Ok arguments) words = words ≡ map string_bytes (drop 1 (into_iter_items arguments))
AreWords (Err e) words = words ≡ []

-- the longest script, in bytes
abbrev pub longest_script : ℕ
longest_script = 67108864

abbrev pub is_too_long : List ℕ → Bool
is_too_long text = nat_lt longest_script (length text)

-- two texts that are too long are answered alike
abbrev pub AnswersAlike : {C A : Type 0} → (C → List ℕ → A → Type 0) → Type 0
AnswersAlike {C} {A} answers = (command : C) (a b : List ℕ) (answer : A) → is_too_long a ≡ true → is_too_long b ≡ true
    → answers command a answer → answers command b answer

-- the words of some command
abbrev pub IsCommand : {C : Type 0} → (List (List ℕ) → Option C) → List (List ℕ) → Type 0
IsCommand {C} command_in words = (command : C) × (command_in words ≡ Some command)

-- the words of a command that reads a script
abbrev pub IsReading : {C : Type 0} → (List (List ℕ) → Option C) → (C → Bool) → List (List ℕ) → Type 0
IsReading {C} command_in reads words = (command : C) × (command_in words ≡ Some command) × (reads command ≡ true)

-- What a command answers to what was left, all of it where that is told. A script that isn't too long is read to its
-- end.
abbrev pub AnswersLeft : {C A : Type 0} → (C → List ℕ → A → Type 0) → C → Option (List ℕ) → Option (List ℕ) → A → Type 0
AnswersLeft answers command old new answer = (text : List ℕ) × IfSome old (λ bytes. bytes ≡ text)
    × answers command text answer × (is_too_long text ≡ false → ReachesEnd old new)

-- what a command answers: to what was left, or to no text where it reads none
abbrev pub AnswersBy : {C A : Type 0} → Bool → (C → List ℕ → A → Type 0) → C → Option (List ℕ) → Option (List ℕ) → A → Type 0
AnswersBy true answers command old new answer = AnswersLeft answers command old new answer
AnswersBy false answers command old new answer = answers command [] answer

-- the answer of the command that has these words
abbrev pub AnswersWords : {C A : Type 0} → (List (List ℕ) → Option C) → (C → Bool) → (C → List ℕ → A → Type 0)
    → List (List ℕ) → Option (List ℕ) → Option (List ℕ) → A → Type 0
AnswersWords {C} command_in reads answers words old new answer = (command : C) × (command_in words ≡ Some command)
    × AnswersBy (reads command) answers command old new answer

-- what is answered to words that aren't a command, which is nothing, or else by their command
abbrev pub IsAnswer : {C A : Type 0} → (List (List ℕ) → Option C) → (C → Bool) → (C → List ℕ → A → Type 0)
    → List (List ℕ) → Option (List ℕ) → Option (List ℕ) → Option A → Type 0
IsAnswer command_in reads answers words old new None = ¬ (IsCommand command_in words)
IsAnswer command_in reads answers words old new (Some answer) = AnswersWords command_in reads answers words old new answer

-- The words are those of a command, and each of its answers to what was left has this status.
abbrev pub HasOneStatus : {C A : Type 0} → (List (List ℕ) → Option C) → (C → Bool) → (C → List ℕ → A → Type 0)
    → (A → ℕ) → List (List ℕ) → Option (List ℕ) → ℕ → Type 0
HasOneStatus {C} {A} command_in reads answers status words left told = IsCommand command_in words
    × ((new : Option (List ℕ)) (answer : A) → AnswersWords command_in reads answers words left new answer → status answer ≡ told)

-- what is written
abbrev pub text_told : {A : Type 0} → (A → List ℕ) → Option A → List ℕ
text_told text None = codes "usage\n"
text_told text (Some answer) = text answer

-- the exit status, once all is written
abbrev pub status_told : {A : Type 0} → (A → ℕ) → Option A → ℕ
status_told status None = no_command
status_told status (Some answer) = status answer

-- the text was written and the status is the answer's, or the sink failed behind a front of the text
abbrev pub IsWritten : List ℕ → ℕ → ℕ → Option (List ℕ) → Option (List ℕ) → ℕ → ℕ → Type 0
IsWritten text told status held now faults faults_now =
    ((status ≡ told) × Appends text held now) ⊎ ((status ≡ sink_failed) × Rose faults faults_now × AppendsFront text held now)
