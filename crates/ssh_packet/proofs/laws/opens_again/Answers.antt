use Rattle.ssh_packet.proofs.Fronts.{opens_again}
use Rattle.ssh_packet.proofs.laws.opens_again.Goals as goal

pub returns : goal.returns
returns c = opens_again
