use Rattle.std.proofs.Common.{refl}
use Rattle.ssh_run.proofs.Leaving.{client_leaves, server_leaves}
use Rattle.ssh_run.specs.LinkEnds.{link_of}
use Rattle.ssh_run.proofs.Asking.{client_part_of, server_part_of, where_err}
use Rattle.ssh_run.proofs.link.Carrier.deliver.Goals as goal

pub returns-in-Client-clause-asked : goal.returns-in-Client-clause-asked
returns-in-Client-clause-asked g c = λ lc ls. where_err c.deliver.result _ _ (client_part_of _ _ (link_of c.args.self.now) c.output.result.now c.args.count _ _ _ c.output.ensures) (c.deliver.ensures.asked lc)

pub returns-in-Server-clause-asked : goal.returns-in-Server-clause-asked
returns-in-Server-clause-asked g c = λ lc ls. where_err c.deliver-in-Server.result _ _ (server_part_of _ _ (link_of c.args.self.now) c.output-in-Server.result.now c.args.count _ _ _ c.output-in-Server.ensures) (c.deliver-in-Server.ensures.asked ls)

pub returns-in-Client-clause-leaves : goal.returns-in-Client-clause-leaves
returns-in-Client-clause-leaves g c = client_leaves c.deliver.result (link_of c.args.self.now) _ _ _ _ refl c.deliver.ensures.leaves

pub returns-in-Server-clause-leaves : goal.returns-in-Server-clause-leaves
returns-in-Server-clause-leaves g c = server_leaves c.deliver-in-Server.result (link_of c.args.self.now) _ _ _ _ refl c.deliver-in-Server.ensures.leaves
