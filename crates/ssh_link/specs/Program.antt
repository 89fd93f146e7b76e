-- The top call of the program: what it answers, and how it ends.
use Rattle.std.specs.Prelude.{◌≡◌, ◌≢◌, ℕ, Bool, true, false, if◌then◌else◌, nat_lt, List, [], ◌∷◌, codes, Option, Some, None, OnSome, Result, Ok, Err}
use Rattle.std.specs.Str.{bytes_eq}
use Rattle.ssh_wire.specs.Outside.{ReachesEnd}
use Rattle.ssh_wire.specs.declared.error.Error.{Error}
use Rattle.ssh_wire.specs.declared.error.Error.TheVariants.{Memory}
use Rattle.ssh_wire.specs.declared.ssh_id.SshId.{SshId}
use Rattle.ssh_wire.specs.declared.ssh_id.SshId.TheVariants.{Standard}
use Rattle.ssh_run.specs.ClearRun.{IsClearRun, IsRefusedSize, first_refused}
use Rattle.ssh_rules.specs.declared.link.AttackReport.{AttackReport}
use Rattle.ssh_rules.specs.declared.link.LinkReport.{LinkReport}
use Rattle.ssh_link.specs.PlanParts.{IsFaultlessPlan, IsInvalidPlan, IsRefusedPlan, IsValidPlan}
use Rattle.ssh_link.specs.PlanRun.{IsAttackedPlan, IsLinkRun}
use Rattle.ssh_script.specs.Plans.{Plan}
use Rattle.ssh_script.specs.RunReport.{attack_report_text, link_report_text}
use Rattle.ssh_script.specs.RunScript.{link_script}
use Rattle.ssh_lines.specs.Printed.{fault_line, refusal_line}
use Rattle.ssh_script.specs.Report.{clear_report_text}
use Rattle.ssh_lines.specs.Fields.{number_of}
use Rattle.ssh_script.specs.Script.{clear_script}
use Rattle.ssh_script.specs.Summary.{summary_text}
use Rattle.ssh_script.specs.Generated.{generated_plan}
use Rattle.ssh_program.specs.Programs.{IsReading}
use Rattle.ssh_program.specs.Statuses.{report_written, run_refused, script_faulty}
use Rattle.ssh_link.specs.declared.answer.Answer.{Answer}
use Rattle.ssh_link.specs.declared.answer.Answer.TheVariants.{Faulty, Refused, Ran, RanLink, RanGen, RanAttack}
use Rattle.ssh_link.specs.declared.answer.MainEnd.{MainEnd}
use Rattle.ssh_link.specs.declared.command.Command.{Command}
use Rattle.ssh_link.specs.declared.command.Command.TheVariants.{Script, Gen}
use Rattle.ssh_link.specs.declared.command.ScriptCommand.{ScriptCommand}
use Rattle.ssh_link.specs.declared.command.ScriptCommand.TheVariants as command
use Rattle.ssh_script.specs.declared.report.ClearReport.{ClearReport}
use Rattle.ssh_lines.specs.declared.script.ScriptFault.{ScriptFault}
use Rattle.ssh_script.specs.declared.step.ClearStep.{ClearStep}

-- the command of a word
abbrev pub command_named : List ℕ → Option Command
command_named word =
    if bytes_eq word (codes "clear") then Some (Script command.Clear)
    else if bytes_eq word (codes "run") then Some (Script command.Run)
    else if bytes_eq word (codes "attack") then Some (Script command.Attack)
    else None

-- the most turns that may be asked for
abbrev pub most_turns : ℕ
most_turns = 100000

-- SEED and COUNT
abbrev pub gen_by : Option ℕ → Option ℕ → Option Command
gen_by None count = None
gen_by (Some seed) None = None
gen_by (Some seed) (Some count) = if nat_lt most_turns count then None else Some (Gen seed count)

-- the command that has these words
abbrev pub command_in : List (List ℕ) → Option Command
command_in [] = None
command_in (word ∷ []) = command_named word
command_in (word ∷ seed ∷ []) = None
command_in (word ∷ seed ∷ count ∷ []) = if bytes_eq word (codes "gen") then gen_by (number_of seed) (number_of count) else None
command_in (word ∷ seed ∷ count ∷ more ∷ words) = None

-- whether a command reads a script
abbrev pub needs_script : Command → Bool
needs_script (Script command) = true
needs_script (Gen seed count) = false

-- the version line of the client
abbrev pub client_id : SshId
client_id = Standard (codes "SSH-2.0-sshlink_client")

-- the version line of the server
abbrev pub server_id : SshId
server_id = Standard (codes "SSH-2.0-sshlink_server")

-- what is answered to steps of a clear link: the first payload that may not be sent, or where there is none the report
-- of their run
abbrev pub AnswersSteps : List ClearStep → Answer → Type 0
AnswersSteps steps (Faulty fault) = ⊥
AnswersSteps steps (Refused e) = IsRefusedSize steps e
AnswersSteps steps (Ran report) = (first_refused steps ≡ None) × IsClearRun client_id server_id steps report
AnswersSteps steps (RanLink report) = ⊥
AnswersSteps steps (RanGen report) = ⊥
AnswersSteps steps (RanAttack report) = ⊥

-- what is answered to a script of a clear link: its fault, or what is answered to its steps
abbrev pub AnswersScript : Result (List ClearStep) ScriptFault → Answer → Type 0
AnswersScript (Err fault) answer = answer ≡ Faulty fault
AnswersScript (Ok steps) answer = AnswersSteps steps answer

-- the answer is an error, which isn't want of memory
abbrev pub IsRefusedLink : Error → Answer → Type 0
IsRefusedLink e answer = (answer ≡ Refused e) × (e ≢ Memory)

-- what is answered to a plan of a link: why its run was refused, or the report of its run
abbrev pub AnswersPlan : Plan → Answer → Type 0
AnswersPlan plan (Faulty fault) = ⊥
AnswersPlan plan (Refused e) = IsRefusedPlan plan e
AnswersPlan plan (Ran report) = ⊥
AnswersPlan plan (RanLink report) = IsLinkRun plan report
AnswersPlan plan (RanGen report) = ⊥
AnswersPlan plan (RanAttack report) = ⊥

-- what is answered to a plan that was made of a seed: it is never refused
abbrev pub AnswersGen : Plan → Answer → Type 0
AnswersGen plan (Faulty fault) = ⊥
AnswersGen plan (Refused e) = ⊥
AnswersGen plan (Ran report) = ⊥
AnswersGen plan (RanLink report) = ⊥
AnswersGen plan (RanGen report) = IsLinkRun plan report
AnswersGen plan (RanAttack report) = ⊥

-- what is answered to a plan whose sides are fed any bytes: which test refuses a configuration, or else the report of
-- the run
abbrev pub AnswersAttack : Plan → Answer → Type 0
AnswersAttack plan (Faulty fault) = ⊥
AnswersAttack plan (Refused e) = IsInvalidPlan plan e
AnswersAttack plan (Ran report) = ⊥
AnswersAttack plan (RanLink report) = ⊥
AnswersAttack plan (RanGen report) = ⊥
AnswersAttack plan (RanAttack report) = IsValidPlan plan × IsAttackedPlan plan report

-- what is answered to a script of a link: its fault, or what is answered to its plan
abbrev pub AnswersLinkScript : Result Plan ScriptFault → Answer → Type 0
AnswersLinkScript (Err fault) answer = answer ≡ Faulty fault
AnswersLinkScript (Ok plan) answer = AnswersPlan plan answer

-- the same of a script of any bytes
abbrev pub AnswersAttackScript : Result Plan ScriptFault → Answer → Type 0
AnswersAttackScript (Err fault) answer = answer ≡ Faulty fault
AnswersAttackScript (Ok plan) answer = AnswersAttack plan answer

-- what a command answers to the text of its script
abbrev pub AnswersText : ScriptCommand → List ℕ → Answer → Type 0
AnswersText command.Clear text answer = AnswersScript (clear_script text) answer
AnswersText command.Run text answer = AnswersLinkScript (link_script false text) answer
AnswersText command.Attack text answer = AnswersAttackScript (link_script true text) answer

-- what a command answers: to the text of its script, or of its seed alone
abbrev pub AnswersCommand : Command → List ℕ → Answer → Type 0
AnswersCommand (Script command) text answer = AnswersText command text answer
AnswersCommand (Gen seed count) text answer = AnswersGen (generated_plan seed count) answer

-- what is written
abbrev pub answer_text : Answer → List ℕ
answer_text (Faulty fault) = fault_line fault
answer_text (Refused e) = refusal_line e
answer_text (Ran report) = clear_report_text report
answer_text (RanLink report) = link_report_text report
answer_text (RanGen report) = summary_text report
answer_text (RanAttack report) = attack_report_text report

-- the exit status, once all is written
abbrev pub answer_status : Answer → ℕ
answer_status (Faulty fault) = script_faulty
answer_status (Refused e) = run_refused
answer_status (Ran report) = report_written
answer_status (RanLink report) = report_written
answer_status (RanGen report) = report_written
answer_status (RanAttack report) = report_written

abbrev pub shown_clear : Option Answer → Option ClearReport
shown_clear None = None
shown_clear (Some (Faulty fault)) = None
shown_clear (Some (Refused e)) = None
shown_clear (Some (Ran report)) = Some report
shown_clear (Some (RanLink report)) = None
shown_clear (Some (RanGen report)) = None
shown_clear (Some (RanAttack report)) = None

abbrev pub shown_report : Option Answer → Option LinkReport
shown_report None = None
shown_report (Some (Faulty fault)) = None
shown_report (Some (Refused e)) = None
shown_report (Some (Ran report)) = None
shown_report (Some (RanLink report)) = Some report
shown_report (Some (RanGen report)) = Some report
shown_report (Some (RanAttack report)) = None

abbrev pub shown_attack : Option Answer → Option AttackReport
shown_attack None = None
shown_attack (Some (Faulty fault)) = None
shown_attack (Some (Refused e)) = None
shown_attack (Some (Ran report)) = None
shown_attack (Some (RanLink report)) = None
shown_attack (Some (RanGen report)) = None
shown_attack (Some (RanAttack report)) = Some report

abbrev pub shown_refused : Option Answer → Option Error
shown_refused None = None
shown_refused (Some (Faulty fault)) = None
shown_refused (Some (Refused e)) = Some e
shown_refused (Some (Ran report)) = None
shown_refused (Some (RanLink report)) = None
shown_refused (Some (RanGen report)) = None
shown_refused (Some (RanAttack report)) = None

abbrev pub shown_fault : Option Answer → Option ScriptFault
shown_fault None = None
shown_fault (Some (Faulty fault)) = Some fault
shown_fault (Some (Refused e)) = None
shown_fault (Some (Ran report)) = None
shown_fault (Some (RanLink report)) = None
shown_fault (Some (RanGen report)) = None
shown_fault (Some (RanAttack report)) = None

-- the end tells what was answered, if anything was, and nothing else
abbrev pub Shows : Option Answer → MainEnd → Type 0
Shows answer end = (end.clear ≡ shown_clear answer) × (end.report ≡ shown_report answer) × (end.attack ≡ shown_attack answer)
    × (end.refused ≡ shown_refused answer) × (end.fault ≡ shown_fault answer)

-- the end tells no answer
abbrev pub ShowsNone : MainEnd → Type 0
ShowsNone end = (end.clear ≡ None) × (end.report ≡ None) × (end.attack ≡ None) × (end.refused ≡ None) × (end.fault ≡ None)

-- Where a script was run, or its run refused, the source was read to its end.
pub record IsReadWhole (words : List (List ℕ)) (answer : Option Answer) (old new : Option (List ℕ)) : Type 0 where
  pub run_end : OnSome (shown_clear answer) (ReachesEnd old new)
  pub link_end : IsReading command_in needs_script words → OnSome (shown_report answer) (ReachesEnd old new)
  pub attack_end : OnSome (shown_attack answer) (ReachesEnd old new)
  pub refused_end : IsReading command_in needs_script words → OnSome (shown_refused answer) (ReachesEnd old new)

-- The words are those of the command `attack`, and the text that is left is a script whose configurations no test
-- refuses.
pub record IsAttackable (words : List (List ℕ)) (left : Option (List ℕ)) : Type 0 where
  pub named : command_in words ≡ Some (Script command.Attack)
  pub text : List ℕ
  pub left_is : left ≡ Some text
  pub plan : Plan
  pub is_script : link_script true text ≡ Ok plan
  pub valid : IsValidPlan plan

-- The words are those of the command `clear`, and the text that is left is a script of payloads that may be sent: each
-- has 1 to 262157 bytes.
pub record IsClearable (words : List (List ℕ)) (left : Option (List ℕ)) : Type 0 where
  pub named : command_in words ≡ Some (Script command.Clear)
  pub text : List ℕ
  pub left_is : left ≡ Some text
  pub steps : List ClearStep
  pub is_script : clear_script text ≡ Ok steps
  pub good : first_refused steps ≡ None

-- The words are those of the command `run`, and the text that is left is a script whose plan has no fault.
pub record IsRunnable (words : List (List ℕ)) (left : Option (List ℕ)) : Type 0 where
  pub named : command_in words ≡ Some (Script command.Run)
  pub text : List ℕ
  pub left_is : left ≡ Some text
  pub plan : Plan
  pub is_script : link_script false text ≡ Ok plan
  pub faultless : IsFaultlessPlan plan

-- the words are those of the command `gen`
abbrev pub IsGenerated : List (List ℕ) → Type 0
IsGenerated words = (seed count : ℕ) × (command_in words ≡ Some (Gen seed count))
