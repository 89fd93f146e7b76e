use Rattle.std.proofs.Common.{rules, ◌<◌, ◌≤◌, ◌++◌}
use Rattle.ssh_script.specs.Generated.{turns_from}
use Rattle.ssh_script.proofs.GeneratedTurns.{turn_pushed, turns_done}
use Rattle.ssh_script.proofs.generated.push_turns.Goals as goal

pub loop-turn-preserved : goal.loop-turn-preserved
loop-turn-preserved c =
    let h : c.loop-turn.turn < c.args.count = search rules in
    record {
      pushed = turn_pushed c.args.count c.loop-turn.turn c.loop-turn.draws.state c.push_turn.new.draws.state c.loop-turn.steps.items c.push_turn.new.steps.items
          (c.args.steps.now.items ++ turns_from c.args.count 0 c.args.seed) h c.in_ok-push_turn.ensures.steps c.in_ok-push_turn.ensures.moved c.loop-turn.invariant.pushed;
      within = search rules;
    }

pub returns : goal.returns
returns c =
    let h : c.args.count ≤ c.loop-turn.turn = search rules in
    turns_done c.args.count c.loop-turn.turn c.loop-turn.draws.state c.loop-turn.steps.items (c.args.steps.now.items ++ turns_from c.args.count 0 c.args.seed) c.loop-turn.invariant.within h c.loop-turn.invariant.pushed
