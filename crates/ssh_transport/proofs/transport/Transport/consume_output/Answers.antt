use Rattle.std.proofs.Common.{ap}
use Rattle.ssh_packet.specs.Writing.{Writer}
use Rattle.ssh_transport.proofs.Kept.{kept_output}
use Rattle.ssh_transport.proofs.transport.Transport.consume_output.Goals as goal

pub invariant_of-self : goal.invariant_of-self
invariant_of-self c = kept_output c.self.inside.connection
    (record c.self.inside.connection {
      session = record c.self.inside.connection.session
          { writer = c.consume_output.new.self };
    }) _ _ (ap (λ (w : Writer). record c.self.inside.connection
    { session = record c.self.inside.connection.session { writer = w } }) c.consume_output.ensures) c.self.invariant
