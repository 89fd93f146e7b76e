use Rattle.ssh_program.specs.Statuses.{run_refused, script_faulty}
use Rattle.ssh_mux.proofs.MuxEnds.{faulty_sure, wide_sure, written_ample, written_unfailed, written_whole}
use Rattle.ssh_mux.proofs.program.exit_code.Goals as goal

pub returns-clause-ends : goal.returns-clause-ends
returns-clause-ends g c e =
    let a = c.exit_code.ensures.answered (written_unfailed _ e) (written_ample _ e) in
    written_whole a.0 _ _ a.2.0 _ _ _ _ _ _ e a.2.1 a.2.2

pub returns-clause-faulty : goal.returns-clause-faulty
returns-clause-faulty g c words are is read sink = c.exit_code.ensures.one words script_faulty are (faulty_sure words (g.S.Source.left c.args.source.now) is) read sink

pub returns-clause-wide : goal.returns-clause-wide
returns-clause-wide g c words are is read sink = c.exit_code.ensures.one words run_refused are (wide_sure words (g.S.Source.left c.args.source.now) is) read sink
