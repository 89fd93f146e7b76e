use Rattle.ssh_transcript.proofs.Exchanging.{start_open}
use Rattle.ssh_transcript.proofs.reading.ReadWires.new.Goals as goal

pub returns-clause-open : goal.returns-clause-open
returns-clause-open c = start_open c.args.setting.now c.args.transcript.now c.in_ok-client.client c.in_ok-server.server _ c.new.ensures.items c.in_ok-client.ensures.open c.in_ok-server.ensures.open
