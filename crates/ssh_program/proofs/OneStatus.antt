-- Where each answer of a command has one status, its call ends with that status.
use Rattle.std.proofs.Common.{◌≡◌, ◌≢◌, inl, inr, ◌∙◌, ℕ, Bool, true, false, List, [], Option, Some, IfSome, sym, subst}
use Rattle.ssh_program.specs.Programs.{AnswersBy, AnswersWords, HasOneStatus, IsWritten}
use Rattle.ssh_program.specs.Statuses.{sink_failed}

pub written_told : {A : Type 0} (status_for : A → ℕ) (answer : A) (text : List ℕ) (status told : ℕ) (held now : Option (List ℕ)) (faults faults_now : ℕ) → IsWritten text (status_for answer) status held now faults faults_now → status_for answer ≡ told → status ≢ sink_failed → status ≡ told
written_told status_for answer text status told held now faults faults_now (inl h) e sink = h.0 ∙ e
written_told status_for answer text status told held now faults faults_now (inr h) e sink = absurd (sink h.0)

pub one_of : {T : Type 0} (a b : T) (o : Option T) → o ≡ Some a → o ≡ Some b → a ≡ b
one_of a b o e f = cc

-- the command of these words answers by itself
of_command : {C A : Type 0} (command_in : List (List ℕ) → Option C) (reads : C → Bool) (answers : C → List ℕ → A → Type 0) (words : List (List ℕ)) (command : C) (left new : Option (List ℕ)) (answer : A) (b : Bool) → command_in words ≡ Some command → reads command ≡ b → AnswersWords command_in reads answers words left new answer → AnswersBy b answers command left new answer
of_command command_in reads answers words command left new answer b named r (other, named', by) =
    subst (λ t. AnswersBy t answers command left new answer) r
    (subst (λ k. AnswersBy (reads k) answers k left new answer) (one_of other command (command_in words) named' named) by)

the_text : (left : Option (List ℕ)) (text other : List ℕ) → left ≡ Some text → IfSome left (λ bytes. bytes ≡ other) → other ≡ text
the_text left text other e h = sym (subst (λ l. IfSome l (λ bytes. bytes ≡ other)) e h)

-- each answer to the script that is left has this status
pub one_to_script : {C A : Type 0} (command_in : List (List ℕ) → Option C) (reads : C → Bool) (answers : C → List ℕ → A → Type 0) (status_for : A → ℕ) (words : List (List ℕ)) (left : Option (List ℕ)) (told : ℕ) (command : C) (text : List ℕ) → command_in words ≡ Some command → reads command ≡ true → left ≡ Some text → ((answer : A) → answers command text answer → status_for answer ≡ told) → HasOneStatus command_in reads answers status_for words left told
one_to_script command_in reads answers status_for words left told command text named r at each = (
  (command, named),
  λ new answer by.
      let own = of_command command_in reads answers words command left new answer true named r by in
      each answer (subst (λ t. answers command t answer) (the_text left text own.0 at own.1) own.2),
)

-- each answer to no text has this status
pub one_to_none : {C A : Type 0} (command_in : List (List ℕ) → Option C) (reads : C → Bool) (answers : C → List ℕ → A → Type 0) (status_for : A → ℕ) (words : List (List ℕ)) (left : Option (List ℕ)) (told : ℕ) (command : C) → command_in words ≡ Some command → reads command ≡ false → ((answer : A) → answers command [] answer → status_for answer ≡ told) → HasOneStatus command_in reads answers status_for words left told
one_to_none command_in reads answers status_for words left told command named r each =
    ((command, named), λ new answer by. each answer (of_command command_in reads answers words command left new answer false named r by))
