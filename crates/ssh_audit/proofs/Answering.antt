-- What is answered to the record of a script is answered to the script.
use Rattle.std.proofs.Common.{◌≡◌, ℕ, List, Ok, sym, ap, subst}
use Rattle.ssh_lines.specs.LineFaults.{IsRefusal}
use Rattle.ssh_lines.specs.Lines.{said_by}
use Rattle.ssh_lines.specs.declared.script.ScriptError.{ScriptError}
use Rattle.ssh_lines.specs.declared.script.ScriptError.TheVariants as error
use Rattle.ssh_script.specs.declared.setup.SideSetup.{SideSetup}
use Rattle.ssh_audit.specs.AuditProgram.{AnswersAuditScript, AnswersJudged, AnswersRecord}
use Rattle.ssh_audit.specs.AuditScript.{AuditPlan, IsRecordOf, audit_form, audit_script, finished_script, first_record, recording_in}
use Rattle.ssh_audit.specs.declared.answer.AuditAnswer.{AuditAnswer}
use Rattle.ssh_audit.specs.declared.script.AuditScript.{AuditScript}

record_judged : (p : AuditPlan) (s : AuditScript) (a : AuditAnswer) → IsRecordOf p s → AnswersJudged s.client.config s.server.config s.transcript a → AnswersRecord p a
record_judged p s a is h =
    subst (λ c. AnswersJudged c p.plan.server.config (recording_in p) a) (ap (λ (x : SideSetup). x.config) is.client)
    (subst (λ c. AnswersJudged s.client.config c (recording_in p) a) (ap (λ (x : SideSetup). x.config) is.server)
    (subst (λ r. AnswersJudged s.client.config s.server.config r a) is.recording h))

pub record_answered : (text : List ℕ) (p : AuditPlan) (s : AuditScript) (a : AuditAnswer) → audit_script text ≡ Ok p → IsRecordOf p s → AnswersJudged s.client.config s.server.config s.transcript a → AnswersAuditScript (audit_script text) a
record_answered text p s a e is h = subst (λ r. AnswersAuditScript r a) (sym e) (record_judged p s a is h)

-- a script is refused where its lines are
pub lines_refused : (text : List ℕ) (e : ScriptError) → IsRefusal (said_by audit_form first_record text) e → IsRefusal (audit_script text) e
lines_refused text (error.Fault told) h = ap finished_script h
lines_refused text error.Memory h = tt
