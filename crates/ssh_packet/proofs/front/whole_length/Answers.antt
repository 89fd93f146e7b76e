use Rattle.std.proofs.Common.{◌≡◌, ◌∙◌, sym, take}
use Rattle.ssh_packet.specs.Front.{length_in}
use Rattle.ssh_packet.proofs.Finding.{few, length_found, front_measured, bad_length, less_than_whole, stands_whole}
use Rattle.ssh_packet.proofs.front.whole_length.Goals as goal

pub returns-then-bytes-probe-clause-measures : goal.returns-then-bytes-probe-clause-measures
returns-then-bytes-probe-clause-measures g c = few (g.K.OpeningKey.opening c.args.key.now) c.args.number c.packet_length_to_read_for_block_length-probe.result c.args.bytes.now c.packet_length_to_read_for_block_length-probe.ensures c.if-bytes-probe.true

pub returns-then-is_bad_length-clause-measures : goal.returns-then-is_bad_length-clause-measures
returns-then-is_bad_length-clause-measures g c =
    let s = g.K.OpeningKey.opening c.args.key.now in
    let shown : c.from_be_bytes-size.result ≡ length_in (g.K.OpeningKey.opening c.args.key.now) (take c.packet_length_to_read_for_block_length-probe.result c.args.bytes.now) = c.from_be_bytes-size.ensures ∙ c.decrypt_packet_length.ensures in
    let there = front_measured s c.args.number c.packet_length_to_read_for_block_length-probe.result c.from_be_bytes-size.result c.args.bytes.now c.packet_length_to_read_for_block_length-probe.ensures c.if-bytes-probe.false shown in
    bad_length s c.args.number c.from_be_bytes-size.result c.args.bytes.now there (sym c.is_bad_length.ensures ∙ c.if-is_bad_length.true)

pub returns-then-bytes-size-clause-measures : goal.returns-then-bytes-size-clause-measures
returns-then-bytes-size-clause-measures g c =
    let s = g.K.OpeningKey.opening c.args.key.now in
    let shown : c.from_be_bytes-size.result ≡ length_in (g.K.OpeningKey.opening c.args.key.now) (take c.packet_length_to_read_for_block_length-probe.result c.args.bytes.now) = c.from_be_bytes-size.ensures ∙ c.decrypt_packet_length.ensures in
    let there = front_measured s c.args.number c.packet_length_to_read_for_block_length-probe.result c.from_be_bytes-size.result c.args.bytes.now c.packet_length_to_read_for_block_length-probe.ensures c.if-bytes-probe.false shown in
    less_than_whole s c.args.number c.from_be_bytes-size.result c.tag_len.result c.args.bytes.now there (sym c.is_bad_length.ensures ∙ c.if-is_bad_length.false) c.tag_len.ensures.value c.if-bytes-size.true

pub returns-else-bytes-size-clause-measures : goal.returns-else-bytes-size-clause-measures
returns-else-bytes-size-clause-measures g c =
    let s = g.K.OpeningKey.opening c.args.key.now in
    let shown : c.from_be_bytes-size.result ≡ length_in (g.K.OpeningKey.opening c.args.key.now) (take c.packet_length_to_read_for_block_length-probe.result c.args.bytes.now) = c.from_be_bytes-size.ensures ∙ c.decrypt_packet_length.ensures in
    let there = front_measured s c.args.number c.packet_length_to_read_for_block_length-probe.result c.from_be_bytes-size.result c.args.bytes.now c.packet_length_to_read_for_block_length-probe.ensures c.if-bytes-probe.false shown in
    stands_whole s c.args.number c.from_be_bytes-size.result c.tag_len.result c.args.bytes.now (length_found s c.packet_length_to_read_for_block_length-probe.result c.from_be_bytes-size.result c.args.bytes.now c.packet_length_to_read_for_block_length-probe.ensures c.if-bytes-probe.false shown) there (sym c.is_bad_length.ensures ∙ c.if-is_bad_length.false) c.tag_len.ensures.value c.if-bytes-size.false
