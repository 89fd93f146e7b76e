use Rattle.std.proofs.Common.{ℕ, List, [], length, ◌-◌}
use Rattle.ssh_wire.specs.declared.side.Side.{Side}
use Rattle.ssh_channels.specs.declared.config.MuxConfig.{MuxConfig}
use Rattle.ssh_channels.specs.Laws.{AreSettings}
use Rattle.uses_above.specs.Asked.{IsFlow, flows, place_at}
use Rattle.uses_above.proofs.asked.read_all.Given as goal

abbrev pub invariant-loop-writer : goal.invariant-loop-writer
invariant-loop-writer l = (client server : MuxConfig) (side : Side) (number : ℕ) (written read back : List ℕ) → AreSettings client.window client.largest server.window server.largest
    → IsFlow client server side l.fn.writer l.fn.reader (place_at number written read) (place_at l.fn.channel back []) flows flows
    → IsFlow client server side l.writer l.reader (place_at number written read) (place_at l.fn.channel back l.got.items) flows flows

abbrev pub decreases-loop-writer : goal.decreases-loop-writer
decreases-loop-writer l = l.fn.count - length l.got.items
