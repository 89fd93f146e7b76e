use Rattle.ssh_record.proofs.LinkAccepted.{link_is_shown}
use Rattle.ssh_record.proofs.laws.link_is_shown.Goals as goal

pub returns : goal.returns
returns g c = link_is_shown g.A.Agreement.client_makes g.A.Agreement.server_makes g.A.Agreement.agrees
