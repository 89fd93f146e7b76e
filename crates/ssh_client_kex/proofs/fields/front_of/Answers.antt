use Rattle.ssh_client_kex.proofs.Faults.{no_host, no_server_value, front_read, front_spelled}
use Rattle.ssh_client_kex.proofs.fields.front_of.Goals as goal

pub returns-in-Err-clause-err : goal.returns-in-Err-clause-err
returns-in-Err-clause-err c = no_host _ _ c.in-Err.ensures.exact.0

pub returns-in-Ok-read_string-clause-ok : goal.returns-in-Ok-read_string-clause-ok
returns-in-Ok-read_string-clause-ok c =
    record {
      read = front_read _ _ _ _ _ c.in-Ok.ensures.exact c.in-Ok-read_string.ensures.exact;
      spelled = front_spelled _ _ _ _ _ c.in-Ok.ensures.spelled c.in-Ok-read_string.ensures.spelled;
    }

pub returns-in-Err-read_string-clause-err : goal.returns-in-Err-read_string-clause-err
returns-in-Err-read_string-clause-err c = no_server_value _ _ _ _ c.in-Ok.ensures.exact c.in-Err-read_string.ensures.exact.0
