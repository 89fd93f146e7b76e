use Rattle.std.proofs.Common.{refl}
use Rattle.ssh_wire.specs.declared.side.Side.TheVariants.{Client, Server}
use Rattle.ssh_transcript.proofs.Exchanging.{one_more, wires}
use Rattle.ssh_transcript.proofs.reading.ReadWires.take.Goals as goal

pub returns-clause-next : goal.returns-clause-next
returns-clause-next c = λ j h n.
    let xs = c.args.self.now.exchanges.items in
    one_more j c.args.self.now (wires c.take_keys.new.self c.take_keys-2.new.self c.push.new.self) c.args.made h n c.in_ok-push.ensures.items
    (c.take_keys.ensures Client j xs c.args.made.exchange h.client refl n.client) (c.take_keys-2.ensures Server j xs c.args.made.exchange h.server refl n.server)
