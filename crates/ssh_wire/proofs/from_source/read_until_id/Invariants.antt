use Rattle.std.proofs.Common.{◌≡◌, true}
use Rattle.ssh_wire.specs.Reading.{IsShort, waits}
use Rattle.ssh_wire.proofs.Sources.{IsSoFar}
use Rattle.ssh_wire.proofs.Weights.{room_left}
use Rattle.ssh_wire.proofs.from_source.read_until_id.Given as goal

abbrev pub invariant-turns : goal.invariant-turns
invariant-turns g l = record {
  waiting : waits l.id ≡ true;
  short : IsShort l.id;
  faults : g.R.Source.faults l.source ≡ g.R.Source.faults l.initial.source;
  so_far : IsSoFar l.allow l.initial.id (g.R.Source.left l.initial.source) (g.R.Source.left l.source) l.id;
}

abbrev pub decreases-turns : goal.decreases-turns
decreases-turns g l = room_left l.id
