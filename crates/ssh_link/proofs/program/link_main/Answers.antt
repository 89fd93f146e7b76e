use Rattle.std.proofs.Common.{◌≡◌, sym, subst}
use Rattle.ssh_program.specs.Statuses.{report_written}
use Rattle.ssh_link.specs.Program.{Shows}
use Rattle.ssh_link.proofs.Commands.{shown_alike}
use Rattle.ssh_link.proofs.SureStatuses.{attack_sure, clear_sure, gen_sure, gen_unread, run_sure}
use Rattle.ssh_link.proofs.WholeSources.{read_whole}
use Rattle.ssh_link.proofs.program.link_main.Goals as goal

pub returns-clause-answered : goal.returns-clause-answered
returns-clause-answered g c read memory =
    let e : c.with.result.status ≡ c.run_program-ended.result.status = c.with.ensures.status in
    let h = c.run_program-ended.ensures.answered (λ s. read (rw e s)) (λ s. memory (rw e s)) in
    (c.run_program-ended.result.answer, h.0, c.with.ensures.shown, rw e h.1)

pub returns-clause-run_end : goal.returns-clause-run_end
returns-clause-run_end g c = shown_alike _ _ _ (sym c.with.ensures.shown.0) (read_whole c.args.words.now (g.S.Source.left c.args.source.now) (g.S.Source.left c.run_program-ended.new.source) c.run_program-ended.result.answer c.run_program-ended.ensures.told).run_end

pub returns-clause-link_end : goal.returns-clause-link_end
returns-clause-link_end g c reading = shown_alike _ _ _ (sym c.with.ensures.shown.1) ((read_whole c.args.words.now (g.S.Source.left c.args.source.now) (g.S.Source.left c.run_program-ended.new.source) c.run_program-ended.result.answer c.run_program-ended.ensures.told).link_end reading)

pub returns-clause-attack_end : goal.returns-clause-attack_end
returns-clause-attack_end g c = shown_alike _ _ _ (sym c.with.ensures.shown.2) (read_whole c.args.words.now (g.S.Source.left c.args.source.now) (g.S.Source.left c.run_program-ended.new.source) c.run_program-ended.result.answer c.run_program-ended.ensures.told).attack_end

pub returns-clause-refused_end : goal.returns-clause-refused_end
returns-clause-refused_end g c reading = shown_alike _ _ _ (sym c.with.ensures.shown.3) ((read_whole c.args.words.now (g.S.Source.left c.args.source.now) (g.S.Source.left c.run_program-ended.new.source) c.run_program-ended.result.answer c.run_program-ended.ensures.told).refused_end reading)

pub returns-clause-silent : goal.returns-clause-silent
returns-clause-silent g c ended =
    let e : c.with.result.status ≡ c.run_program-ended.result.status = c.with.ensures.status in
    let h = c.run_program-ended.ensures.silent (rw (sym e) ended) in
    (subst (λ answer. Shows answer c.with.result) h.0 c.with.ensures.shown, h.1)

pub returns-clause-cleared : goal.returns-clause-cleared
returns-clause-cleared g c is read sink =
    let e : c.with.result.status ≡ c.run_program-ended.result.status = c.with.ensures.status in
    rw e (c.run_program-ended.ensures.one report_written (clear_sure c.args.words.now (g.S.Source.left c.args.source.now) is) (λ s. read (rw e s)) (λ s. sink (rw e s)))

pub returns-clause-ran : goal.returns-clause-ran
returns-clause-ran g c is read sink =
    let e : c.with.result.status ≡ c.run_program-ended.result.status = c.with.ensures.status in
    rw e (c.run_program-ended.ensures.one report_written (run_sure c.args.words.now (g.S.Source.left c.args.source.now) is) (λ s. read (rw e s)) (λ s. sink (rw e s)))

pub returns-clause-attacked : goal.returns-clause-attacked
returns-clause-attacked g c is read sink =
    let e : c.with.result.status ≡ c.run_program-ended.result.status = c.with.ensures.status in
    rw e (c.run_program-ended.ensures.one report_written (attack_sure c.args.words.now (g.S.Source.left c.args.source.now) is) (λ s. read (rw e s)) (λ s. sink (rw e s)))

pub returns-clause-generated : goal.returns-clause-generated
returns-clause-generated g c is sink =
    let e : c.with.result.status ≡ c.run_program-ended.result.status = c.with.ensures.status in
    rw e (c.run_program-ended.ensures.one report_written (gen_sure c.args.words.now (g.S.Source.left c.args.source.now) is) (λ s. gen_unread c.args.words.now is (c.run_program-ended.ensures.read s)) (λ s. sink (rw e s)))
