use Rattle.ssh_channels.proofs.Muxing.{unread}
use Rattle.ssh_channels.proofs.mux.Mux.receive.Goals as goal

pub returns-in-Err-clause-refused : goal.returns-in-Err-clause-refused
returns-in-Err-clause-refused c = unread c.args.payload.now c.in-Err.fault c.args.self.now c.in-Err.ensures
