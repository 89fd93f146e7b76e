use Rattle.std.proofs.Common.{◌≤◌, ◌+◌, ◌-◌, drop, length}
use Rattle.ssh_pipe.specs.Notes.{Noted, TellsLines, exchange_notes, noted}
use Rattle.ssh_pipe.proofs.notes.tell_exchanges.Given as goal

-- the lines of the exchanges that are left, told behind those that were, are the lines of all
abbrev pub invariant-loop-count : goal.invariant-loop-count
invariant-loop-count g l = record {
  least : l.told ≤ l.count;
  within : l.told ≤ length l.transport.state.records → l.count ≤ length l.transport.state.records;
  lines : (last : Noted) → TellsLines (exchange_notes (l.count + 1) (drop l.count l.transport.state.records)) (noted (g.N.Sink.held l.notes) (g.N.Sink.faults l.notes)) last
      → TellsLines (exchange_notes (l.told + 1) (drop l.told l.transport.state.records)) (noted (g.N.Sink.held l.initial.notes) (g.N.Sink.faults l.initial.notes)) last;
}

abbrev pub decreases-loop-count : goal.decreases-loop-count
decreases-loop-count g l = length l.transport.state.records - l.count
