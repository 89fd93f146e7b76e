-- The top call of the program: what it answers, and how it ends.
use Rattle.std.specs.Prelude.{◌≡◌, ℕ, Bool, true, if◌then◌else◌, List, [], ◌∷◌, codes, Option, Some, None, Result, Ok, Err}
use Rattle.std.specs.Str.{bytes_eq}
use Rattle.ssh_lines.specs.Printed.{fault_line}
use Rattle.ssh_lines.specs.declared.script.ScriptFault.{ScriptFault}
use Rattle.ssh_program.specs.Statuses.{report_written, script_faulty}
use Rattle.ssh_service.specs.Answers.{answers_from}
use Rattle.ssh_service.specs.Report.{answers_text}
use Rattle.ssh_service.specs.Script.{ServicePlan, service_script}
use Rattle.ssh_service.specs.declared.answer.ServiceAnswer.{ServiceAnswer}
use Rattle.ssh_service.specs.declared.program.ServiceMain.{ServiceMain}
use Rattle.ssh_service.specs.declared.service_program.ScriptAnswer.{ScriptAnswer}
use Rattle.ssh_service.specs.declared.service_program.ScriptAnswer.TheVariants.{Answered, Faulty}
use Rattle.ssh_service.specs.declared.service_program.ServiceCommand.{ServiceCommand}
use Rattle.ssh_service.specs.declared.service_program.ServiceCommand.TheVariants.{Service}

-- the command that has these words
abbrev pub service_command_in : List (List ℕ) → Option ServiceCommand
service_command_in [] = None
service_command_in (word ∷ []) = if bytes_eq word (codes "service") then Some Service else None
service_command_in (word ∷ more ∷ words) = None

-- the command reads a script
abbrev pub needs_messages : ServiceCommand → Bool
needs_messages Service = true

-- What is answered to what a script says: to each payload by those before it alone. To a script that says nothing its
-- fault is answered.
abbrev pub AnswersServiceScript : Result ServicePlan ScriptFault → ScriptAnswer → Type 0
AnswersServiceScript (Err fault) (Faulty told) = told ≡ fault
AnswersServiceScript (Err fault) (Answered answers) = ⊥
AnswersServiceScript (Ok plan) (Faulty told) = ⊥
AnswersServiceScript (Ok plan) (Answered answers) = answers.items ≡ answers_from plan.offered [] plan.payloads

-- what the command answers to the text of its script
abbrev pub AnswersServiceCommand : ServiceCommand → List ℕ → ScriptAnswer → Type 0
AnswersServiceCommand Service text answer = AnswersServiceScript (service_script text) answer

-- what is written
abbrev pub service_text : ScriptAnswer → List ℕ
service_text (Faulty fault) = fault_line fault
service_text (Answered answers) = answers_text answers.items

-- the exit status, once all is written
abbrev pub service_status : ScriptAnswer → ℕ
service_status (Faulty fault) = script_faulty
service_status (Answered answers) = report_written

abbrev pub shown_answers : Option ScriptAnswer → List ServiceAnswer
shown_answers None = []
shown_answers (Some (Faulty fault)) = []
shown_answers (Some (Answered answers)) = answers.items

abbrev pub shown_script_fault : Option ScriptAnswer → Option ScriptFault
shown_script_fault None = None
shown_script_fault (Some (Faulty fault)) = Some fault
shown_script_fault (Some (Answered answers)) = None

-- the end tells what was answered, if anything was, and nothing else
abbrev pub ShowsAnswers : Option ScriptAnswer → ServiceMain → Type 0
ShowsAnswers answer end = (end.answers.items ≡ shown_answers answer) × (end.fault ≡ shown_script_fault answer)

-- the end tells no answer
abbrev pub ShowsNoAnswers : ServiceMain → Type 0
ShowsNoAnswers end = (end.answers.items ≡ []) × (end.fault ≡ None)

-- The words are those of the command, and the text that is left is a script.
pub record IsAnswerable (words : List (List ℕ)) (left : Option (List ℕ)) : Type 0 where
  pub named : service_command_in words ≡ Some Service
  pub text : List ℕ
  pub left_is : left ≡ Some text
  pub plan : ServicePlan
  pub is_script : service_script text ≡ Ok plan

-- The words are those of the command, and the text that is left breaks the grammar of scripts.
pub record HasFault (words : List (List ℕ)) (left : Option (List ℕ)) : Type 0 where
  pub named : service_command_in words ≡ Some Service
  pub text : List ℕ
  pub left_is : left ≡ Some text
  pub fault : ScriptFault
  pub is_faulty : service_script text ≡ Err fault
