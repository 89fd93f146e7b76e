use Rattle.std.proofs.Common.{◌∙◌, Ok, ap}
use Rattle.ssh_wire.specs.declared.side.Side.TheVariants.{Client, Server}
use Rattle.ssh_transcript.proofs.Exchanging.{client_stops, server_stops}
use Rattle.ssh_transcript.proofs.Turning.{either_read}
use Rattle.ssh_transcript.proofs.reading.ReadWires.read_epochs.Goals as goal

pub returns-then-not-client_ended-clause-over : goal.returns-then-not-client_ended-clause-over
returns-then-not-client_ended-clause-over c = λ e j o.
    client_stops j c.args.self.now.exchanges c.read_epoch.new.self c.read_epoch-2.new.self o.each
    (c.read_epoch.ensures.over (c.in_ok-client_ended.was ∙ ap Ok c.if-not-client_ended.true) Client j c.args.self.now.exchanges.items o.client)
    (either_read Server j c.args.self.now.exchanges.items c.args.self.now.server c.read_epoch-2.new.self c.read_epoch-2.result c.in_ok-server_ended.server_ended c.in_ok-server_ended.was c.read_epoch-2.ensures.ended c.read_epoch-2.ensures.over o.server)

pub returns-clause-ended : goal.returns-clause-ended
returns-clause-ended c = λ t j o. record {
  client = c.in_ok-client_ended.ensures.ended c.if-not-client_ended.false Client j c.args.self.now.exchanges.items o.client;
  server = c.in_ok-server_ended.ensures.ended t Server j c.args.self.now.exchanges.items o.server;
  each = o.each;
  given = o.given;
}

pub returns-clause-over : goal.returns-clause-over
returns-clause-over c = λ e j o.
    server_stops j c.args.self.now.exchanges c.read_epoch.new.self c.read_epoch-2.new.self o.each
    (either_read Client j c.args.self.now.exchanges.items c.args.self.now.client c.read_epoch.new.self c.read_epoch.result c.in_ok-client_ended.client_ended c.in_ok-client_ended.was c.read_epoch.ensures.ended c.read_epoch.ensures.over o.client)
    (c.read_epoch-2.ensures.over (c.in_ok-server_ended.was ∙ e) Server j c.args.self.now.exchanges.items o.server)
