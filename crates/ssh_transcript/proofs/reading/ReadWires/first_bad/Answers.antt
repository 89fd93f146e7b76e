use Rattle.ssh_wire.specs.declared.side.Side.TheVariants.{Client, Server}
use Rattle.ssh_transcript.proofs.Exchanging.{fault_told, none_bad}
use Rattle.ssh_transcript.proofs.reading.ReadWires.first_bad.Goals as goal

pub returns-clause-none : goal.returns-clause-none
returns-clause-none c = λ e j r.
    let n = none_bad c.first_bad.result c.first_bad-2.result c.first_fault.result c.first_fault.ensures.client c.first_fault.ensures.server e in
    record { client = c.first_bad.ensures.none n.0 Client j c.args.self.now.exchanges.items r.client; server = c.first_bad-2.ensures.none n.1 Server j c.args.self.now.exchanges.items r.server }

pub returns-clause-some : goal.returns-clause-some
returns-clause-some c = fault_told c.args.self.now c.first_bad.result c.first_bad-2.result c.first_fault.result c.first_fault.ensures.client c.first_fault.ensures.server c.first_fault.ensures.none c.first_bad.ensures.none c.first_bad.ensures.some c.first_bad-2.ensures.some
