use Rattle.std.proofs.Common.{inr, refl}
use Rattle.ssh_packet.specs.Front as front
use Rattle.ssh_packet.proofs.Finding.{parted_short}
use Rattle.ssh_packet.proofs.front.payload_in.Goals as goal

pub returns-then-size-padding : goal.returns-then-size-padding
returns-then-size-padding c = (
  inr refl,
  λ rest. (front.PacketSize c.args.size, refl, parted_short c.args.size c.padding_at-padding.result c.args.text.now rest c.padding_at-padding.ensures c.if-padding-size.false c.if-size-padding.true),
)
