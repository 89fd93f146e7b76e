use Rattle.ssh_client_kex.proofs.Faults.{no_value, value_behind, value_read, value_spelled}
use Rattle.ssh_client_kex.proofs.fields.value_of.Goals as goal

pub returns-in-Err-clause-err : goal.returns-in-Err-clause-err
returns-in-Err-clause-err c = no_value _ _ c.in-Err.ensures.exact.0

pub returns-in-Ok-ensure_end-clause-ok : goal.returns-in-Ok-ensure_end-clause-ok
returns-in-Ok-ensure_end-clause-ok c =
    (value_read _ _ _ c.in-Ok.ensures.exact c.in-Ok-ensure_end.ensures.end, value_spelled _ _ _ c.in-Ok.ensures.spelled c.in-Ok-ensure_end.ensures.end)

pub returns-in-Err-ensure_end-clause-err : goal.returns-in-Err-ensure_end-clause-err
returns-in-Err-ensure_end-clause-err c = value_behind _ _ _ _ c.in-Ok.ensures.exact c.in-Err-ensure_end.ensures.left
