use Rattle.std.proofs.Common.{[], ap, false, inr, refl, sym}
use Rattle.ssh_wire.specs.Lines.{id_line}
use Rattle.ssh_wire.specs.Reading.{Waiting}
use Rattle.ssh_rules.specs.Machine.{first_state}
use Rattle.ssh_rules.specs.Standing.{Standing}
use Rattle.ssh_pipe.proofs.Known.{fresh_desk, talked_as, unopened}
use Rattle.ssh_pipe.proofs.Ways.{ends_unbegun, takes_none}
use Rattle.ssh_pipe.proofs.program.talk_as.Goals as goal

pub returns-in-Err-clause-talked : goal.returns-in-Err-clause-talked
returns-in-Err-clause-talked g c =
    let start : Standing = record {
      side = c.args.side;
      config = c.args.config.now;
      state = first_state;
      line = Waiting [] 0;
      output = id_line c.args.config.now.id;
      waiting = [];
      delivered = [];
      failed = false;
    } in
    let fresh = fresh_desk c.args.side in (
      [],
      [],
      takes_none _,
      talked_as _ _ _ _ _ c.args.side c.args.config.now start fresh.desk _ [] _ _ [] (λ host hash signature k. k, λ host k. k) refl fresh.of_side fresh.answered (ends_unbegun _ _ _ fresh.desk _ start _ c.in-Err.error [] (inr (unopened fresh.desk start c.in-Err.error refl c.in-Err.ensures.err)) refl),
      refl,
    )

pub returns-in-Ok-clause-talked : goal.returns-in-Ok-clause-talked
returns-in-Ok-clause-talked g c =
    let t = c.talk.ensures.talked in
    let config = ap (λ (s : Standing). s.config) c.in-Ok.ensures.transport in (
      t.0,
      c.talk.new.transport.state.records,
      t.1,
      talked_as _ _ _ _ _ c.args.side c.args.config.now c.in-Ok.transport c.in-Ok.desk _ t.0 _ c.talk.result _ (λ host hash signature k. k, λ host k. k) c.in-Ok.ensures.transport c.in-Ok.ensures.side c.in-Ok.ensures.desk (rw (sym config) t.2),
      c.talk.ensures.noted,
    )
