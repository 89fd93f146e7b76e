use Rattle.std.proofs.Common.{subst, inr}
use Rattle.ssh_client_kex.specs.Reading.{ReadsGroup}
use Rattle.ssh_kex.specs.Fields.{group_in}
use Rattle.ssh_client_kex.proofs.Faults.{at_answer, no_prime, no_generator, group_behind, group_read}
use Rattle.ssh_client_kex.proofs.fields.group_of.Goals as goal

pub returns-in-Err-clause-err : goal.returns-in-Err-clause-err
returns-in-Err-clause-err c = inr (at_answer group_in _ _ _ c.new-reader.ensures (no_prime _ _ c.in-Err.ensures.exact.0))

pub returns-in-Err-read_mpint-clause-err : goal.returns-in-Err-read_mpint-clause-err
returns-in-Err-read_mpint-clause-err c = inr (at_answer group_in _ _ _ c.new-reader.ensures (no_generator _ _ _ _ c.in-Ok.ensures.exact c.in-Err-read_mpint.ensures.exact.0))

pub returns-in-Err-ensure_end-clause-err : goal.returns-in-Err-ensure_end-clause-err
returns-in-Err-ensure_end-clause-err c =
    inr (at_answer group_in _ _ _ c.new-reader.ensures (group_behind _ _ _ _ _ _ c.in-Ok.ensures.exact c.in-Ok-read_mpint.ensures.exact c.in-Err-ensure_end.ensures.left))

pub returns-in_ok-copy_of-in-Ok-ensure_end-2-clause-ok : goal.returns-in_ok-copy_of-in-Ok-ensure_end-2-clause-ok
returns-in_ok-copy_of-in-Ok-ensure_end-2-clause-ok c =
    subst (λ b. ReadsGroup b (record { prime = c.in_ok-copy_of-in-Ok-ensure_end.field-0; generator = c.in_ok-copy_of-in-Ok-ensure_end-2.field-0 })) c.new-reader.ensures
    (group_read _ _ _ _ _ _ c.in-Ok.ensures.exact c.in-Ok-read_mpint.ensures.exact c.in-Ok.ensures.spelled c.in-Ok-read_mpint.ensures.spelled c.in-Ok-ensure_end.ensures.end c.in_ok-copy_of-in-Ok-ensure_end.ensures c.in_ok-copy_of-in-Ok-ensure_end-2.ensures)
