use Rattle.std.proofs.Common.{refl}
use Rattle.ssh_run.specs.LinkEnds.{link_of}
use Rattle.ssh_run.proofs.Leaving.{client_leaves, server_leaves}
use Rattle.ssh_run.proofs.link.Carrier.submit.Goals as goal

pub returns-in-Client-clause-leaves : goal.returns-in-Client-clause-leaves
returns-in-Client-clause-leaves g c = client_leaves c.submit.result (link_of c.args.self.now) _ _ _ _ refl c.submit.ensures.leaves

pub returns-in-Server-clause-leaves : goal.returns-in-Server-clause-leaves
returns-in-Server-clause-leaves g c = server_leaves c.submit-in-Server.result (link_of c.args.self.now) _ _ _ _ refl c.submit-in-Server.ensures.leaves
