-- With which status a call of the program ends, and that it read the script to its end.
use Rattle.std.proofs.Common.{◌≡◌, inl, inr, ◌∙◌, ℕ, Bool, true, false, List, Option, Some, None, Ok, Err, refl, sym, subst}
use Rattle.ssh_wire.specs.Outside.{ReachesEnd}
use Rattle.ssh_program.specs.Programs.{AnswersLeft, AnswersWords, HasOneStatus, IsAnswer, IsWritten, is_too_long, status_told}
use Rattle.ssh_program.specs.Statuses.{report_written, run_refused, script_faulty, sink_failed, source_failed, want_of_memory}
use Rattle.ssh_program.proofs.Lemmas.{one_to_script}
use Rattle.ssh_lines.specs.declared.script.ScriptFault.{ScriptFault}
use Rattle.ssh_mux.specs.Alike.{too_long}
use Rattle.ssh_mux.specs.Pairs.{are_within}
use Rattle.ssh_mux.specs.Program.{AnswersMuxCommand, AnswersMuxScript, HasChannelFault, HasWideWindow, mux_answer_status, mux_command_in, needs_channels}
use Rattle.ssh_mux.specs.Script.{MuxPlan}
use Rattle.ssh_mux.specs.declared.answer.MuxAnswer.{MuxAnswer}
use Rattle.ssh_mux.specs.declared.answer.MuxAnswer.TheVariants.{Faulty, Refused, Ran}
use Rattle.ssh_mux.specs.declared.mux_program.MuxCommand.TheVariants.{Channels}

faulty_told : (fault : ScriptFault) (answer : MuxAnswer) → AnswersMuxScript (Err fault) answer → mux_answer_status answer ≡ script_faulty
faulty_told fault (Faulty told) h = refl
faulty_told fault (Refused end) h = cc
faulty_told fault (Ran report) h = cc

wide_told : (plan : MuxPlan) (answer : MuxAnswer) → are_within plan.channels ≡ false → AnswersMuxScript (Ok plan) answer → mux_answer_status answer ≡ run_refused
wide_told plan (Faulty told) out h = absurd h
wide_told plan (Refused end) out h = refl
wide_told plan (Ran report) out h = let w = h.run.within in cc

-- what the calls are told of a script
abbrev pub IsSure : List (List ℕ) → Option (List ℕ) → ℕ → Type 0
IsSure words left told = HasOneStatus mux_command_in needs_channels AnswersMuxCommand mux_answer_status words left told

pub faulty_sure : (words : List (List ℕ)) (left : Option (List ℕ)) → HasChannelFault words left → IsSure words left script_faulty
faulty_sure words left c = one_to_script mux_command_in needs_channels AnswersMuxCommand mux_answer_status words left script_faulty Channels c.text c.named refl c.left_is
    (λ answer a. faulty_told c.fault answer (subst (λ script. AnswersMuxScript script answer) c.is_faulty a))

pub wide_sure : (words : List (List ℕ)) (left : Option (List ℕ)) → HasWideWindow words left → IsSure words left run_refused
wide_sure words left c = one_to_script mux_command_in needs_channels AnswersMuxCommand mux_answer_status words left run_refused Channels c.text c.named refl c.left_is
    (λ answer a. wide_told c.plan answer c.out (subst (λ script. AnswersMuxScript script answer) c.is_script a))

pub written_unfailed : (status : ℕ) → status ≡ report_written → status ≡ source_failed → ⊥
written_unfailed status e f = let n : report_written ≡ source_failed = sym e ∙ f in cc

pub written_ample : (status : ℕ) → status ≡ report_written → status ≡ want_of_memory → ⊥
written_ample status e f = let n : report_written ≡ want_of_memory = sym e ∙ f in cc

-- a script whose report is written isn't too long
not_long : (text : List ℕ) (answer : MuxAnswer) → mux_answer_status answer ≡ report_written → AnswersMuxCommand Channels text answer → is_too_long text ≡ false
not_long text (Faulty fault) e right = cc
not_long text (Refused end) e right = cc
not_long text (Ran report) e right = by (is_too_long text) refl where
  by : (b : Bool) → is_too_long text ≡ b → is_too_long text ≡ false
  by false h = h
  by true h = let n = subst (λ script. AnswersMuxScript script (Ran report)) (too_long text h) right in cc

left_whole : (old new : Option (List ℕ)) (answer : MuxAnswer) → mux_answer_status answer ≡ report_written → AnswersLeft AnswersMuxCommand Channels old new answer → ReachesEnd old new
left_whole old new answer e (text, left, right, whole) = whole (not_long text answer e right)

words_whole : (words : List (List ℕ)) (old new : Option (List ℕ)) (answer : MuxAnswer) → mux_answer_status answer ≡ report_written → AnswersWords mux_command_in needs_channels AnswersMuxCommand words old new answer → ReachesEnd old new
words_whole words old new answer e (Channels, named, by) = left_whole old new answer e by

answer_whole : (words : List (List ℕ)) (old new : Option (List ℕ)) (answer : Option MuxAnswer) → status_told mux_answer_status answer ≡ report_written → IsAnswer mux_command_in needs_channels AnswersMuxCommand words old new answer → ReachesEnd old new
answer_whole words old new None e h = cc
answer_whole words old new (Some answer) e h = words_whole words old new answer e h

-- where a report was written, the source was read to its end
pub written_whole : (words : List (List ℕ)) (old new : Option (List ℕ)) (answer : Option MuxAnswer) (text : List ℕ) (status : ℕ) (held now : Option (List ℕ)) (faults faults_now : ℕ) → status ≡ report_written → IsAnswer mux_command_in needs_channels AnswersMuxCommand words old new answer → IsWritten text (status_told mux_answer_status answer) status held now faults faults_now → ReachesEnd old new
written_whole words old new answer text status held now faults faults_now e is (inl h) = answer_whole words old new answer (sym h.0 ∙ e) is
written_whole words old new answer text status held now faults faults_now e is (inr h) = let n : report_written ≡ sink_failed = sym e ∙ h.0 in cc
