-- The top call of the program: what it answers, and how it ends.
use Rattle.std.specs.Prelude.{◌≡◌, ℕ, Bool, true, if◌then◌else◌, List, [], ◌∷◌, codes, Option, Some, None, Result, Ok, Err}
use Rattle.std.specs.Str.{bytes_eq}
use Rattle.ssh_lines.specs.Printed.{fault_line}
use Rattle.ssh_lines.specs.declared.script.ScriptFault.{ScriptFault}
use Rattle.ssh_program.specs.Statuses.{report_written, run_refused, script_faulty}
use Rattle.ssh_record.specs.declared.report.AuditFault.{AuditFault}
use Rattle.ssh_record.specs.declared.report.AuditReport.{AuditReport}
use Rattle.ssh_kex.specs.declared.config.Config.{Config}
use Rattle.ssh_record.specs.Recordings.{Recording}
use Rattle.ssh_record.specs.Answers.{IsAcceptedRecord, IsAuditFault}
use Rattle.ssh_audit.specs.AuditScript.{AuditPlan, audit_script, recording_in}
use Rattle.ssh_audit.specs.AuditText.{audit_fault_line, audit_report_text}
use Rattle.ssh_audit.specs.declared.answer.AuditAnswer.{AuditAnswer}
use Rattle.ssh_audit.specs.declared.answer.AuditAnswer.TheVariants.{Faulty, Passed, Refused}
use Rattle.ssh_audit.specs.declared.audit_program.AuditCommand.{AuditCommand}
use Rattle.ssh_audit.specs.declared.audit_program.AuditCommand.TheVariants.{Audit}
use Rattle.ssh_audit.specs.declared.program.AuditMain.{AuditMain}

-- the command that has these words
abbrev pub audit_command_in : List (List ℕ) → Option AuditCommand
audit_command_in [] = None
audit_command_in (word ∷ []) = if bytes_eq word (codes "audit") then Some Audit else None
audit_command_in (word ∷ more ∷ words) = None

-- the command reads a script
abbrev pub needs_record : AuditCommand → Bool
needs_record Audit = true

-- what is answered to a record between two configurations: the first thing that is wrong with it, or what it shows
abbrev pub AnswersJudged : Config → Config → Recording → AuditAnswer → Type 0
AnswersJudged client server r (Faulty told) = ⊥
AnswersJudged client server r (Refused f) = IsAuditFault client server r f
AnswersJudged client server r (Passed report) = IsAcceptedRecord client server r report

-- what is answered to the record of a script
abbrev pub AnswersRecord : AuditPlan → AuditAnswer → Type 0
AnswersRecord p answer = AnswersJudged p.plan.client.config p.plan.server.config (recording_in p) answer

-- what is answered to what a script says: to one that says nothing its fault
abbrev pub AnswersAuditScript : Result AuditPlan ScriptFault → AuditAnswer → Type 0
AnswersAuditScript (Err f) answer = answer ≡ Faulty f
AnswersAuditScript (Ok p) answer = AnswersRecord p answer

-- what the command answers to the text of its script
abbrev pub AnswersAuditCommand : AuditCommand → List ℕ → AuditAnswer → Type 0
AnswersAuditCommand Audit text answer = AnswersAuditScript (audit_script text) answer

-- what is written
abbrev pub audit_text : AuditAnswer → List ℕ
audit_text (Faulty f) = fault_line f
audit_text (Refused f) = audit_fault_line f
audit_text (Passed report) = audit_report_text report

-- the exit status, once all is written
abbrev pub audit_status : AuditAnswer → ℕ
audit_status (Faulty f) = script_faulty
audit_status (Refused f) = run_refused
audit_status (Passed report) = report_written

abbrev pub shown_audit : Option AuditAnswer → Option AuditReport
shown_audit None = None
shown_audit (Some (Faulty f)) = None
shown_audit (Some (Refused f)) = None
shown_audit (Some (Passed report)) = Some report

abbrev pub shown_audit_fault : Option AuditAnswer → Option AuditFault
shown_audit_fault None = None
shown_audit_fault (Some (Faulty f)) = None
shown_audit_fault (Some (Refused f)) = Some f
shown_audit_fault (Some (Passed report)) = None

abbrev pub shown_record_fault : Option AuditAnswer → Option ScriptFault
shown_record_fault None = None
shown_record_fault (Some (Faulty f)) = Some f
shown_record_fault (Some (Refused f)) = None
shown_record_fault (Some (Passed report)) = None

-- The end tells what was answered, if anything was, and nothing else.
pub record ShowsAudit (answer : Option AuditAnswer) (end : AuditMain) : Type 0 where
  pub report : end.report ≡ shown_audit answer
  pub refused : end.refused ≡ shown_audit_fault answer
  pub fault : end.fault ≡ shown_record_fault answer
