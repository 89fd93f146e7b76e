use Rattle.ssh_record.proofs.LinkAccepted.{link_no_fault}
use Rattle.ssh_record.proofs.laws.link_has_no_fault.Goals as goal

pub returns : goal.returns
returns g c = link_no_fault g.A.Agreement.client_makes g.A.Agreement.server_makes g.A.Agreement.agrees
