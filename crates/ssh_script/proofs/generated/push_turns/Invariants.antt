use Rattle.std.proofs.Common.{◌≡◌, ◌≤◌, ◌-◌, ◌++◌}
use Rattle.ssh_script.specs.Generated.{turns_from}
use Rattle.ssh_script.proofs.generated.push_turns.Given as goal

abbrev pub invariant-loop-turn : goal.invariant-loop-turn
invariant-loop-turn l = record {
  pushed : l.steps.items ++ turns_from (l.count - l.turn) l.turn l.draws.state ≡ l.initial.steps.items ++ turns_from l.count 0 l.seed;
  within : l.turn ≤ l.count;
}
