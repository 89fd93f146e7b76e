-- With which status a call of the program ends, and that it read the script to its end.
use Rattle.std.proofs.Common.{◌≡◌, ◌≢◌, inl, inr, ◌∙◌, ℕ, Bool, true, false, List, [], Option, Some, None, IfSome, Ok, Err, refl, sym, subst}
use Rattle.ssh_wire.specs.Outside.{ReachesEnd}
use Rattle.ssh_program.specs.Programs.{AnswersLeft, AnswersWords, HasOneStatus, IsAnswer, IsWritten, is_too_long, status_told}
use Rattle.ssh_program.specs.Statuses.{report_written, run_refused, script_faulty, sink_failed, source_failed, want_of_memory}
use Rattle.ssh_program.proofs.Lemmas.{one_to_script}
use Rattle.ssh_lines.specs.declared.script.ScriptFault.{ScriptFault}
use Rattle.ssh_service.specs.Alike.{too_long}
use Rattle.ssh_service.specs.Program.{AnswersServiceCommand, AnswersServiceScript, HasFault, IsAnswerable, service_status, service_command_in, needs_messages, shown_answers}
use Rattle.ssh_service.specs.Script.{ServicePlan}
use Rattle.ssh_service.specs.declared.answer.ServiceAnswer.{ServiceAnswer}
use Rattle.ssh_service.specs.declared.service_program.ScriptAnswer.{ScriptAnswer}
use Rattle.ssh_service.specs.declared.service_program.ScriptAnswer.TheVariants.{Answered, Faulty}
use Rattle.ssh_service.specs.declared.service_program.ServiceCommand.TheVariants.{Service}

served_told : (plan : ServicePlan) (answer : ScriptAnswer) → AnswersServiceScript (Ok plan) answer → service_status answer ≡ report_written
served_told plan (Faulty fault) h = absurd h
served_told plan (Answered answers) h = refl

faulty_told : (fault : ScriptFault) (answer : ScriptAnswer) → AnswersServiceScript (Err fault) answer → service_status answer ≡ script_faulty
faulty_told fault (Faulty told) h = refl
faulty_told fault (Answered answers) h = absurd h

-- what the calls are told of a script
abbrev pub IsSure : List (List ℕ) → Option (List ℕ) → ℕ → Type 0
IsSure words left told = HasOneStatus service_command_in needs_messages AnswersServiceCommand service_status words left told

pub served_sure : (words : List (List ℕ)) (left : Option (List ℕ)) → IsAnswerable words left → IsSure words left report_written
served_sure words left c = one_to_script service_command_in needs_messages AnswersServiceCommand service_status words left report_written Service c.text c.named refl c.left_is
    (λ answer a. served_told c.plan answer (subst (λ script. AnswersServiceScript script answer) c.is_script a))

pub faulty_sure : (words : List (List ℕ)) (left : Option (List ℕ)) → HasFault words left → IsSure words left script_faulty
faulty_sure words left c = one_to_script service_command_in needs_messages AnswersServiceCommand service_status words left script_faulty Service c.text c.named refl c.left_is
    (λ answer a. faulty_told c.fault answer (subst (λ script. AnswersServiceScript script answer) c.is_faulty a))

told_unrefused : (answer : Option ScriptAnswer) → status_told service_status answer ≡ run_refused → ⊥
told_unrefused None e = cc
told_unrefused (Some (Faulty fault)) e = cc
told_unrefused (Some (Answered answers)) e = cc

-- what was written has another status than that of a run that is refused
pub written_unrefused : (answer : Option ScriptAnswer) (text : List ℕ) (status : ℕ) (held now : Option (List ℕ)) (faults faults_now : ℕ) → IsWritten text (status_told service_status answer) status held now faults faults_now → status ≡ run_refused → ⊥
written_unrefused answer text status held now faults faults_now (inl h) e = told_unrefused answer (sym h.0 ∙ e)
written_unrefused answer text status held now faults faults_now (inr h) e = let n : run_refused ≡ sink_failed = sym e ∙ h.0 in cc

pub refused_unfailed : (status : ℕ) → status ≡ run_refused → status ≡ source_failed → ⊥
refused_unfailed status e f = let n : run_refused ≡ source_failed = sym e ∙ f in cc

pub refused_ample : (status : ℕ) → status ≡ run_refused → status ≡ want_of_memory → ⊥
refused_ample status e f = let n : run_refused ≡ want_of_memory = sym e ∙ f in cc

pub written_unfailed : (status : ℕ) → status ≡ report_written → status ≡ source_failed → ⊥
written_unfailed status e f = let n : report_written ≡ source_failed = sym e ∙ f in cc

pub written_ample : (status : ℕ) → status ≡ report_written → status ≡ want_of_memory → ⊥
written_ample status e f = let n : report_written ≡ want_of_memory = sym e ∙ f in cc

-- a script that was answered isn't too long
not_long : (text : List ℕ) (answer : ScriptAnswer) → service_status answer ≡ report_written → AnswersServiceCommand Service text answer → is_too_long text ≡ false
not_long text (Faulty fault) e right = cc
not_long text (Answered answers) e right = by (is_too_long text) refl where
  by : (b : Bool) → is_too_long text ≡ b → is_too_long text ≡ false
  by false h = h
  by true h = absurd (subst (λ script. AnswersServiceScript script (Answered answers)) (too_long text h) right)

left_whole : (old new : Option (List ℕ)) (answer : ScriptAnswer) → service_status answer ≡ report_written → AnswersLeft AnswersServiceCommand Service old new answer → ReachesEnd old new
left_whole old new answer e (text, left, right, whole) = whole (not_long text answer e right)

words_whole : (words : List (List ℕ)) (old new : Option (List ℕ)) (answer : ScriptAnswer) → service_status answer ≡ report_written → AnswersWords service_command_in needs_messages AnswersServiceCommand words old new answer → ReachesEnd old new
words_whole words old new answer e (Service, named, by) = left_whole old new answer e by

answer_whole : (words : List (List ℕ)) (old new : Option (List ℕ)) (answer : Option ScriptAnswer) → status_told service_status answer ≡ report_written → IsAnswer service_command_in needs_messages AnswersServiceCommand words old new answer → ReachesEnd old new
answer_whole words old new None e h = cc
answer_whole words old new (Some answer) e h = words_whole words old new answer e h

-- where answers were written, the source was read to its end
pub written_whole : (words : List (List ℕ)) (old new : Option (List ℕ)) (answer : Option ScriptAnswer) (text : List ℕ) (status : ℕ) (held now : Option (List ℕ)) (faults faults_now : ℕ) → status ≡ report_written → IsAnswer service_command_in needs_messages AnswersServiceCommand words old new answer → IsWritten text (status_told service_status answer) status held now faults faults_now → ReachesEnd old new
written_whole words old new answer text status held now faults faults_now e is (inl h) = answer_whole words old new answer (sym h.0 ∙ e) is
written_whole words old new answer text status held now faults faults_now e is (inr h) = let n : report_written ≡ sink_failed = sym e ∙ h.0 in cc

-- and where some are shown
pub shown_whole : (words : List (List ℕ)) (old new : Option (List ℕ)) (answer : Option ScriptAnswer) (shown : List ServiceAnswer) → shown ≡ shown_answers answer → shown ≢ [] → IfSome answer (AnswersWords service_command_in needs_messages AnswersServiceCommand words old new) → ReachesEnd old new
shown_whole words old new None shown e some h = absurd (some e)
shown_whole words old new (Some (Faulty fault)) shown e some h = absurd (some e)
shown_whole words old new (Some (Answered answers)) shown e some h = words_whole words old new (Answered answers) refl h
