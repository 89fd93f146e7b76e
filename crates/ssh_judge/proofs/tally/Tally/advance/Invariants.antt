use Rattle.std.proofs.Common.{◌<◌, ◌^◌, length}
use Rattle.ssh_judge.proofs.Fronts.{AdvancesTo}
use Rattle.ssh_judge.proofs.tally.Tally.advance.Given as goal

abbrev pub invariant-loop-packet : goal.invariant-loop-packet
invariant-loop-packet l = record {
  few : length l.packets < 2 ^ 64;
  so_far : AdvancesTo l.packets l.reach l.fn.self l.packet-index l.self;
}
