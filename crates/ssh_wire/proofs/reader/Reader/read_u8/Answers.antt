use Rattle.ssh_wire.proofs.FieldLaws.{byte_takes}
use Rattle.ssh_wire.proofs.reader.Reader.read_u8.Goals as goal

pub invariant_of-self : goal.invariant_of-self
invariant_of-self c = (byte_takes c.self.inside.rest.now c.in_ok-value.rest.now c.in_ok-value.value c.self.invariant c.in_ok-value.ensures).1
