use Rattle.std.proofs.Common.{ap, arith, rules}
use Rattle.std.proofs.lemmas.Result.{on_err_weaker}
use Rattle.ssh_pipe.specs.Notes.{noted}
use Rattle.ssh_pipe.proofs.Telling.{tells_next, tells_none, told_or_none}
use Rattle.ssh_pipe.proofs.notes.tell_exchanges.Goals as goal

pub loop-count-preserved : goal.loop-count-preserved
loop-count-preserved g c =
    let inv = c.loop-count.invariant in
    record {
      least = omega (arith, inv.least);
      within = λ h. omega (arith, h);
      lines = λ last rest. inv.lines last (tells_next c.args.transport.now.state.records c.loop-count.count c.exchange.result.now _ _ last (search rules) (told_or_none c.exchange_line.result _ _ _ c.exchange_line.ensures.line c.write_note.ensures.told (on_err_weaker c.exchange_line.result (λ e. ap (λ n. noted (g.N.Sink.held n) (g.N.Sink.faults n)) e) c.write_note.ensures.none)) rest);
    }

pub returns-clause-lines : goal.returns-clause-lines
returns-clause-lines g c = c.loop-count.invariant.lines _ (tells_none c.args.transport.now.state.records c.loop-count.count _ (omega arith))
