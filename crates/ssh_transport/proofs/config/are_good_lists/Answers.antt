use Rattle.ssh_negotiate.specs.Advertised as advertised
use Rattle.ssh_transport.proofs.Configs.{tested_client, tested_server}
use Rattle.ssh_transport.proofs.config.are_good_lists.Goals as goal

pub returns-in-Client : goal.returns-in-Client
unfolding advertised.offers_with
returns-in-Client c = tested_client c.args.side c.args.config.now c.can_be_advertised.result c.in-Client.is
    c.can_be_advertised.ensures.exact

pub returns-in-Server : goal.returns-in-Server
returns-in-Server c = tested_server c.args.side c.args.config.now c.can_be_advertised-in-Server.result c.in-Server.is
    c.can_be_advertised-in-Server.ensures.exact
