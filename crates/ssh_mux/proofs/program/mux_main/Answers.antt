use Rattle.std.proofs.Common.{◌≡◌, ◌∙◌, sym, subst}
use Rattle.ssh_program.specs.Statuses.{report_written, run_refused, script_faulty}
use Rattle.ssh_mux.specs.Program.{ShowsMux}
use Rattle.ssh_mux.proofs.MuxEnds.{faulty_sure, wide_sure, written_ample, written_unfailed, written_whole}
use Rattle.ssh_mux.proofs.program.mux_main.Goals as goal

pub returns-clause-answered : goal.returns-clause-answered
returns-clause-answered g c read memory =
    let e : c.with.result.status ≡ c.run_program-ended.result.status = c.with.ensures.status in
    let h = c.run_program-ended.ensures.answered (λ s. read (rw e s)) (λ s. memory (rw e s)) in
    (c.run_program-ended.result.answer, h.0, c.with.ensures.shown, rw e h.1)

pub returns-clause-ends : goal.returns-clause-ends
returns-clause-ends g c e =
    let same : c.with.result.status ≡ c.run_program-ended.result.status = c.with.ensures.status in
    let told : c.run_program-ended.result.status ≡ report_written = sym same ∙ e in
    let h = c.run_program-ended.ensures.answered (written_unfailed _ told) (written_ample _ told) in
    written_whole c.args.words.now _ _ c.run_program-ended.result.answer _ _ _ _ _ _ told h.0 h.1

pub returns-clause-silent : goal.returns-clause-silent
returns-clause-silent g c ended =
    let e : c.with.result.status ≡ c.run_program-ended.result.status = c.with.ensures.status in
    let h = c.run_program-ended.ensures.silent (rw (sym e) ended) in
    (subst (λ answer. ShowsMux answer c.with.result) h.0 c.with.ensures.shown, h.1)

pub returns-clause-faulty : goal.returns-clause-faulty
returns-clause-faulty g c is read sink =
    let e : c.with.result.status ≡ c.run_program-ended.result.status = c.with.ensures.status in
    rw e (c.run_program-ended.ensures.one script_faulty (faulty_sure c.args.words.now (g.S.Source.left c.args.source.now) is) (λ s. read (rw e s)) (λ s. sink (rw e s)))

pub returns-clause-wide : goal.returns-clause-wide
returns-clause-wide g c is read sink =
    let e : c.with.result.status ≡ c.run_program-ended.result.status = c.with.ensures.status in
    rw e (c.run_program-ended.ensures.one run_refused (wide_sure c.args.words.now (g.S.Source.left c.args.source.now) is) (λ s. read (rw e s)) (λ s. sink (rw e s)))
