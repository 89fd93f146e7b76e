use Rattle.ssh_program.specs.Statuses.{report_written}
use Rattle.ssh_link.proofs.SureStatuses.{attack_sure, clear_sure, gen_sure, gen_unread, run_sure}
use Rattle.ssh_link.proofs.WholeSources.{answer_whole}
use Rattle.ssh_link.proofs.program.exit_code.Goals as goal

pub returns-clause-answered : goal.returns-clause-answered
returns-clause-answered g c read memory =
    let a = c.exit_code.ensures.answered read memory in
    let whole = answer_whole a.0 (g.S.Source.left c.args.source.now) (g.S.Source.left c.exit_code.new.source) a.2.0 a.2.1 in
    (a.0, a.1, (a.2.0, a.2.1, whole, a.2.2))

pub returns-clause-cleared : goal.returns-clause-cleared
returns-clause-cleared g c words are is read sink = c.exit_code.ensures.one words report_written are (clear_sure words (g.S.Source.left c.args.source.now) is) read sink

pub returns-clause-ran : goal.returns-clause-ran
returns-clause-ran g c words are is read sink = c.exit_code.ensures.one words report_written are (run_sure words (g.S.Source.left c.args.source.now) is) read sink

pub returns-clause-attacked : goal.returns-clause-attacked
returns-clause-attacked g c words are is read sink = c.exit_code.ensures.one words report_written are (attack_sure words (g.S.Source.left c.args.source.now) is) read sink

pub returns-clause-generated : goal.returns-clause-generated
returns-clause-generated g c words are is sink =
    c.exit_code.ensures.one words report_written are (gen_sure words (g.S.Source.left c.args.source.now) is) (λ s. gen_unread words is (c.exit_code.ensures.read words are s)) sink
