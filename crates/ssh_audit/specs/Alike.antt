-- Two texts over the longest script are answered alike.
use Rattle.std.specs.Prelude.{◌≡◌, ℕ, true, List, Err}
use Rattle.std.proofs.Common.{ap, sym, subst, ◌∙◌}
use Rattle.ssh_program.specs.Programs.{AnswersAlike, is_too_long}
use Rattle.ssh_lines.specs.OverLong.{over_long, said_too_long}
use Rattle.ssh_audit.specs.AuditProgram.{AnswersAuditCommand, AnswersAuditScript}
use Rattle.ssh_audit.specs.AuditScript.{audit_form, audit_script, finished_script, first_record}
use Rattle.ssh_audit.specs.declared.audit_program.AuditCommand.TheVariants.{Audit}

pub too_long : (text : List ℕ) → is_too_long text ≡ true → audit_script text ≡ Err over_long
too_long text h = ap finished_script (said_too_long audit_form first_record text h)

pub answers_alike : AnswersAlike AnswersAuditCommand
answers_alike Audit a b answer h k right =
    subst (λ script. AnswersAuditScript script answer) (too_long a h ∙ sym (too_long b k)) right
