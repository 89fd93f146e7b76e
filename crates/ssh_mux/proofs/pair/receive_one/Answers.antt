use Rattle.ssh_mux.proofs.Mild.{no_call_refused}
use Rattle.ssh_mux.proofs.pair.receive_one.Goals as goal

pub returns-clause-err : goal.returns-clause-err
returns-clause-err c = no_call_refused c.receive.result c.as_slice.result.now c.args.mux.now.side _ c.receive.ensures.refused
