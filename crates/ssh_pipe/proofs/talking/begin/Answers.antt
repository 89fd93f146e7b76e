use Rattle.std.proofs.Common.{subst, sym}
use Rattle.ssh_pipe.specs.Desks.{IsSaid}
use Rattle.ssh_pipe.proofs.Telling.{submit_none}
use Rattle.ssh_pipe.proofs.Ways.{asked_of, first_good, none_first, on_ok_first, wants_memory}
use Rattle.ssh_pipe.proofs.talking.begin.Goals as goal

pub returns-in-Some-clause-sent : goal.returns-in-Some-clause-sent
returns-in-Some-clause-sent g c = on_ok_first c.submit.result _ _ c.args.desk.now.side _ _ c.in-Some.payload _ _ (λ f. (c.submit.ensures.dead f).0) (subst IsSaid (sym c.as_slice.ensures) (asked_of _ c.in-Some.payload c.in-Some.is c.in_ok-first.ensures.asks)) c.in-Some.is c.in_ok-first.ensures.first c.as_slice.ensures c.submit.ensures.sent

pub returns-in-None-clause-sent : goal.returns-in-None-clause-sent
returns-in-None-clause-sent g c = none_first _ c.args.desk.now.side c.args.transport.now _ c.in-None.is c.in_ok-first.ensures.first

pub returns-in-Some-clause-memory : goal.returns-in-Some-clause-memory
returns-in-Some-clause-memory g c = wants_memory c.submit.result _ (c.submit.ensures.memory c.requires.live (first_good _ c.in-Some.payload _ c.in-Some.is c.args.desk.now.side c.in_ok-first.ensures.first c.as_slice.ensures))

pub returns-in-Some-clause-records : goal.returns-in-Some-clause-records
returns-in-Some-clause-records g c = submit_none _ c.submit.result _ _ _ _ c.submit.ensures.sent (c.submit.ensures.leaves c.requires.live (first_good _ c.in-Some.payload _ c.in-Some.is c.args.desk.now.side c.in_ok-first.ensures.first c.as_slice.ensures))
