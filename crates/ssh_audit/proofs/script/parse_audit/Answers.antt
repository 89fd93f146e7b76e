use Rattle.std.proofs.Common.{subst}
use Rattle.std.proofs.lemmas.Result.{err_from_is_err_and}
use Rattle.ssh_lines.specs.LineFaults.{IsRefusal}
use Rattle.ssh_lines.specs.Lines.{said_by}
use Rattle.ssh_audit.proofs.Answering.{lines_refused}
use Rattle.ssh_audit.specs.AuditScript.{audit_form}
use Rattle.ssh_audit.proofs.script.parse_audit.Goals as goal

pub returns-in_err-take_script-clause-fault : goal.returns-in_err-take_script-clause-fault
returns-in_err-take_script-clause-fault c =
    let p = err_from_is_err_and c.from_residual-in_err-take_script.result c.from_residual-in_err-take_script.ensures.1 in
    rw (p.1, p.2) (lines_refused c.args.text.now c.in_err-take_script.field-0.0
    (subst (λ x. IsRefusal (said_by audit_form x c.args.text.now) c.in_err-take_script.field-0.0) c.in_ok-forms.ensures.first c.in_err-take_script.ensures.fault))
