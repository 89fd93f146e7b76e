use Rattle.std.proofs.Common.{Ok, rules, refl}
use Rattle.ssh_packet.proofs.Written.{refused_so}
use Rattle.ssh_packet.proofs.writer.PacketWriter.packet.Goals as goal

pub returns-in_err-call_with : goal.returns-in_err-call_with
returns-in_err-call_with g c =
    refused_so _ _ _ _ c.in_err-call_with.field-0.0 c.call_with.new.out.items _ _ (search rules) (_, _, c.new-payload.ensures.items, c.in_err-call_with.ensures, refl) refl

pub returns : goal.returns
returns g c = (Ok tt, c.call_with.new.out.items, (_, _, c.new-payload.ensures.items, c.in_ok-call_with.ensures, refl), c.send.ensures.seals, c.send.ensures.answer)
