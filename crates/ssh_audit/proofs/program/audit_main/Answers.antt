use Rattle.std.proofs.Common.{◌≡◌, sym, subst}
use Rattle.ssh_audit.specs.AuditProgram.{ShowsAudit}
use Rattle.ssh_audit.proofs.program.audit_main.Goals as goal

pub returns-clause-answered : goal.returns-clause-answered
returns-clause-answered g c read memory =
    let e : c.with.result.status ≡ c.run_program-ended.result.status = c.with.ensures.status in
    let h = c.run_program-ended.ensures.answered (λ s. read (rw e s)) (λ s. memory (rw e s)) in
    (c.run_program-ended.result.answer, h.0, c.with.ensures.shown, rw e h.1)

pub returns-clause-silent : goal.returns-clause-silent
returns-clause-silent g c ended =
    let e : c.with.result.status ≡ c.run_program-ended.result.status = c.with.ensures.status in
    let h = c.run_program-ended.ensures.silent (rw (sym e) ended) in
    (subst (λ answer. ShowsAudit answer c.with.result) h.0 c.with.ensures.shown, h.1)
