use Rattle.ssh_kex.proofs.Drawn.{sends_one}
use Rattle.ssh_kex.proofs.message.put_message.Goals as goal

pub returns-clause-drawn : goal.returns-clause-drawn
returns-clause-drawn g c = sends_one c.packet_raw.result c.args.output.now c.packet_raw.new.self c.args.message.now (g.R.Rng.stream c.args.rng.now) (g.R.Rng.stream c.packet_raw.new.rng) c.packet_raw.ensures.sent c.packet_raw.ensures.stream
