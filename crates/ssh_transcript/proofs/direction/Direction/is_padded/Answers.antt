use Rattle.std.proofs.Common.{IsTrue, subst, sym}
use Rattle.std.specs.Prelude.{◌&&◌}
use Rattle.ssh_packet.specs.Keys.{sealing_of}
use Rattle.ssh_packet.specs.Sealing.{IsPadded}
use Rattle.ssh_transcript.proofs.Padded.{padding_told}
use Rattle.ssh_transcript.proofs.direction.Direction.is_padded.Goals as goal

pub returns-then-has_size : goal.returns-then-has_size
returns-then-has_size c = λ s number i h p e.
    subst (λ b. (IsTrue (b && c.has_plain_padding-is_plain.result) → IsPadded s i) × (IsPadded s i → IsTrue (b && c.has_plain_padding-is_plain.result))) c.if-has_size.true
    (padding_told s (sealing_of c.args.self.now.sealing) number i c.args.packet.now c.args.payload.now c.has_size-has_size.result c.has_plain_padding-is_plain.result c.has_size-has_size.ensures c.has_plain_padding-is_plain.ensures h p e)

pub returns-else-has_size : goal.returns-else-has_size
returns-else-has_size c = λ s number i h p e.
    subst (λ b. (IsTrue b → IsPadded s i) × (IsPadded s i → IsTrue b)) (sym c.if-has_size.false)
    (subst (λ b. (IsTrue (b && c.has_plain_padding-is_plain.result) → IsPadded s i) × (IsPadded s i → IsTrue (b && c.has_plain_padding-is_plain.result))) c.if-has_size.false
    (padding_told s (sealing_of c.args.self.now.sealing) number i c.args.packet.now c.args.payload.now c.has_size-has_size.result c.has_plain_padding-is_plain.result c.has_size-has_size.ensures c.has_plain_padding-is_plain.ensures h p e))
