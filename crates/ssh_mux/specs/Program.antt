-- The top call of the program: what it answers, and how it ends.
use Rattle.std.specs.Prelude.{◌≡◌, ◌⊎◌, ℕ, Bool, true, false, if◌then◌else◌, List, [], ◌∷◌, codes, Option, Some, None, IfSome, Result, Ok, Err}
use Rattle.std.specs.Str.{bytes_eq}
use Rattle.ssh_lines.specs.Printed.{fault_line}
use Rattle.ssh_lines.specs.declared.script.ScriptFault.{ScriptFault}
use Rattle.ssh_program.specs.Statuses.{report_written, run_refused, script_faulty}
use Rattle.ssh_mux.specs.Pairs.{are_within}
use Rattle.ssh_mux.specs.Printing.{channels_text, run_fault_line}
use Rattle.ssh_mux.specs.Running.{IsMuxRun, IsRunBefore, is_call_refused}
use Rattle.ssh_mux.specs.Script.{MuxPlan, channel_script}
use Rattle.ssh_mux.specs.Sides.{IsDefaultLink}
use Rattle.ssh_mux.specs.declared.answer.MuxAnswer.{MuxAnswer}
use Rattle.ssh_mux.specs.declared.answer.MuxAnswer.TheVariants.{Faulty, Refused, Ran}
use Rattle.ssh_mux.specs.declared.answer.MuxMain.{MuxMain}
use Rattle.ssh_mux.specs.declared.fault.RunFault.{RunFault}
use Rattle.ssh_mux.specs.declared.fault.RunFault.TheVariants.{Config}
use Rattle.ssh_mux.specs.declared.mux_program.MuxCommand.{MuxCommand}
use Rattle.ssh_mux.specs.declared.mux_program.MuxCommand.TheVariants.{Channels}
use Rattle.ssh_mux.specs.declared.pair.PairConfig.{PairConfig}
use Rattle.ssh_mux.specs.declared.report.MuxEnd.{MuxEnd}
use Rattle.ssh_mux.specs.declared.report.MuxReport.{MuxReport}
use Rattle.ssh_mux.specs.declared.step.ChannelStep.{ChannelStep}

-- the command that has these words
abbrev pub mux_command_in : List (List ℕ) → Option MuxCommand
mux_command_in [] = None
mux_command_in (word ∷ []) = if bytes_eq word (codes "channels") then Some Channels else None
mux_command_in (word ∷ more ∷ words) = None

-- the command reads a script
abbrev pub needs_channels : MuxCommand → Bool
needs_channels Channels = true

-- the report of the steps before the refused one is there where a call was refused, and only there
abbrev pub HasBefore : Bool → (MuxReport → Type 0) → Option MuxReport → Type 0
HasBefore true Tells None = ⊥
HasBefore true Tells (Some report) = Tells report
HasBefore false Tells None = Unit {0}
HasBefore false Tells (Some report) = ⊥

-- A run was refused: Config exactly where a number is out of its bounds, and with the report of the steps before
-- exactly where a call was refused.
pub record IsRefusedRun (config : PairConfig) (steps : List ChannelStep) (end : MuxEnd) : Type 0 where
  pub out : are_within config ≡ false → end.fault ≡ Config
  pub config_is : end.fault ≡ Config → are_within config ≡ false
  pub before : HasBefore (is_call_refused end.fault) (IsRunBefore config steps end.fault) end.before

-- A run went to its end.
pub record IsWholeRun (config : PairConfig) (steps : List ChannelStep) (report : MuxReport) : Type 0 where
  pub within : are_within config ≡ true
  pub run : IsMuxRun config steps report

-- A script's run went to its end: its link is one between the default sides.
pub record IsScriptRun (plan : MuxPlan) (report : MuxReport) : Type 0 where
  pub run : IsWholeRun plan.channels plan.steps report
  pub link : IsDefaultLink report

-- A script's run was refused: for a number out of its bounds, or for a call. The link refused nothing, and that of the
-- steps before is one between the default sides.
pub record IsScriptRefused (plan : MuxPlan) (end : MuxEnd) : Type 0 where
  pub run : IsRefusedRun plan.channels plan.steps end
  pub cause : (end.fault ≡ Config) ⊎ (is_call_refused end.fault ≡ true)
  pub link : IfSome end.before IsDefaultLink

-- what is answered to a plan
abbrev pub AnswersMuxPlan : MuxPlan → MuxAnswer → Type 0
AnswersMuxPlan plan (Faulty told) = ⊥
AnswersMuxPlan plan (Refused end) = IsScriptRefused plan end
AnswersMuxPlan plan (Ran report) = IsScriptRun plan report

-- what is answered to what a script says, or to its fault
abbrev pub AnswersMuxScript : Result MuxPlan ScriptFault → MuxAnswer → Type 0
AnswersMuxScript (Err fault) answer = answer ≡ Faulty fault
AnswersMuxScript (Ok plan) answer = AnswersMuxPlan plan answer

-- what the command answers to the text of its script
abbrev pub AnswersMuxCommand : MuxCommand → List ℕ → MuxAnswer → Type 0
AnswersMuxCommand Channels text answer = AnswersMuxScript (channel_script text) answer

-- what is written
abbrev pub mux_answer_text : MuxAnswer → List ℕ
mux_answer_text (Faulty fault) = fault_line fault
mux_answer_text (Refused end) = run_fault_line end.fault
mux_answer_text (Ran report) = channels_text report.channels.items

-- the exit status, once all is written
abbrev pub mux_answer_status : MuxAnswer → ℕ
mux_answer_status (Faulty fault) = script_faulty
mux_answer_status (Refused end) = run_refused
mux_answer_status (Ran report) = report_written

abbrev pub shown_run : Option MuxAnswer → Option MuxReport
shown_run None = None
shown_run (Some (Faulty fault)) = None
shown_run (Some (Refused end)) = None
shown_run (Some (Ran report)) = Some report

abbrev pub shown_refusal : Option MuxAnswer → Option RunFault
shown_refusal None = None
shown_refusal (Some (Faulty fault)) = None
shown_refusal (Some (Refused end)) = Some end.fault
shown_refusal (Some (Ran report)) = None

abbrev pub shown_before : Option MuxAnswer → Option MuxReport
shown_before None = None
shown_before (Some (Faulty fault)) = None
shown_before (Some (Refused end)) = end.before
shown_before (Some (Ran report)) = None

abbrev pub shown_mux_fault : Option MuxAnswer → Option ScriptFault
shown_mux_fault None = None
shown_mux_fault (Some (Faulty fault)) = Some fault
shown_mux_fault (Some (Refused end)) = None
shown_mux_fault (Some (Ran report)) = None

-- the end tells what was answered, if anything was, and nothing else
abbrev pub ShowsMux : Option MuxAnswer → MuxMain → Type 0
ShowsMux answer end = (end.report ≡ shown_run answer) × (end.refused ≡ shown_refusal answer) × (end.before ≡ shown_before answer)
    × (end.fault ≡ shown_mux_fault answer)

-- the end tells no answer
abbrev pub ShowsNoMux : MuxMain → Type 0
ShowsNoMux end = (end.report ≡ None) × (end.refused ≡ None) × (end.before ≡ None) × (end.fault ≡ None)

-- The words are those of the command, and the text that is left breaks the grammar of scripts.
pub record HasChannelFault (words : List (List ℕ)) (left : Option (List ℕ)) : Type 0 where
  pub named : mux_command_in words ≡ Some Channels
  pub text : List ℕ
  pub left_is : left ≡ Some text
  pub fault : ScriptFault
  pub is_faulty : channel_script text ≡ Err fault

-- The words are those of the command, and the text that is left is a script with a number out of its bounds.
pub record HasWideWindow (words : List (List ℕ)) (left : Option (List ℕ)) : Type 0 where
  pub named : mux_command_in words ≡ Some Channels
  pub text : List ℕ
  pub left_is : left ≡ Some text
  pub plan : MuxPlan
  pub is_script : channel_script text ≡ Ok plan
  pub out : are_within plan.channels ≡ false
