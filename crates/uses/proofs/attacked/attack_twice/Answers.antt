use Rattle.ssh_wire.specs.declared.side.Side.TheVariants.{Client, Server}
use Rattle.uses.proofs.FedAlike.{by_reader}
use Rattle.uses.proofs.attacked.attack_twice.Goals as goal

pub returns-clause-client : goal.returns-clause-client
returns-clause-client g c fed recorded one two =
    let x = c.in_ok-report.ensures.run.link.of_client in
    let y = c.in_ok-other.ensures.run.link.of_client in
    c.same_delivered.ensures Client c.args.client.now _ _ _ _ _ _ _ _ _ _ x y fed recorded (by_reader _ _ _ x.ended one) (by_reader _ _ _ y.ended two)

pub returns-clause-server : goal.returns-clause-server
returns-clause-server g c fed recorded one two =
    let x = c.in_ok-report.ensures.run.link.of_server in
    let y = c.in_ok-other.ensures.run.link.of_server in
    c.same_delivered.ensures Server c.args.server.now _ _ _ _ _ _ _ _ _ _ x y fed recorded (by_reader _ _ _ x.ended one) (by_reader _ _ _ y.ended two)
