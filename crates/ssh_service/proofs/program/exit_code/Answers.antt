use Rattle.ssh_program.specs.Statuses.{report_written, script_faulty}
use Rattle.ssh_service.proofs.ServiceEnds.{faulty_sure, refused_ample, refused_unfailed, served_sure, written_ample, written_unfailed, written_unrefused, written_whole}
use Rattle.ssh_service.proofs.program.exit_code.Goals as goal

pub returns-clause-ends : goal.returns-clause-ends
returns-clause-ends g c e =
    let a = c.exit_code.ensures.answered (written_unfailed _ e) (written_ample _ e) in
    written_whole a.0 _ _ a.2.0 _ _ _ _ _ _ e a.2.1 a.2.2

pub returns-clause-served : goal.returns-clause-served
returns-clause-served g c words are is read sink = c.exit_code.ensures.one words report_written are (served_sure words (g.S.Source.left c.args.source.now) is) read sink

pub returns-clause-faulty : goal.returns-clause-faulty
returns-clause-faulty g c words are is read sink = c.exit_code.ensures.one words script_faulty are (faulty_sure words (g.S.Source.left c.args.source.now) is) read sink

pub returns-clause-never_refused : goal.returns-clause-never_refused
returns-clause-never_refused g c e =
    let a = c.exit_code.ensures.answered (refused_unfailed _ e) (refused_ample _ e) in
    written_unrefused a.2.0 _ _ _ _ _ _ a.2.2 e
