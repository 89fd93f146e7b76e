use Rattle.std.proofs.Common.{inr}
use Rattle.std.proofs.lemmas.Result.{err_from_is_err_and}
use Rattle.ssh_run.proofs.Refusals.{is_refused}
use Rattle.ssh_run.proofs.receiver.read_packet.Goals as goal

pub returns-in_err-incoming-clause-cause : goal.returns-in_err-incoming-clause-cause
returns-in_err-incoming-clause-cause c =
    let p = err_from_is_err_and c.from_residual.result c.from_residual.ensures.1 in
    rw p.1 (inr (is_refused c.args.reader.now _ _ c.next.result _ c.in_err-incoming.was c.next.follows.holds-at-none))
