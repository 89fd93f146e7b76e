use Rattle.std.proofs.Common.{◌∙◌, ◌==◌, ap, subst, sym}
use Rattle.ssh_packet.specs.Stream.{message_type}
use Rattle.ssh_kex.specs.Messages.{is_gex}
use Rattle.ssh_blocks.specs.Blocks.{HasSeen}
use Rattle.ssh_transcript.specs.Reading.{Keeps, is_later, turn_behind}
use Rattle.ssh_transcript.specs.declared.packet.Packet.{Packet}
use Rattle.ssh_transcript.specs.declared.wire.WireReader.{WireReader}
use Rattle.ssh_transcript.proofs.Standings.{kept_turn}
use Rattle.ssh_transcript.proofs.Turning.{listed}
use Rattle.ssh_transcript.proofs.wire.WireReader.keep.Goals as goal

pub returns-clause-turn : goal.returns-clause-turn
returns-clause-turn c = λ side j xs o.
    let mid = c.judge_packet.new.self in
    let same = c.judge_packet.ensures.same in
    let new : WireReader = record mid { block = c.take.new.self; packets = c.push.new.self } in
    let keeps : Keeps c.args.self.now new = record {
      same = ap (λ (r : WireReader). record r { block = c.take.new.self; packets = c.push.new.self }) same;
      listed = listed c.args.self.now mid new c.packet_of-packet.result c.handed.result.now c.place-place.result same c.in_ok-push.ensures.items c.packet_of-packet.ensures c.handed.ensures c.place-place.ensures;
    } in
    kept_turn side j xs c.args.start c.args.self.now new c.turn_behind.result o keeps (c.judge_packet.ensures.judged side j xs o o.judged)
    (λ items h. c.in_ok-take.ensures.seen side (is_gex j.names.kex) (is_later xs) items o.item
    (sym (c.handed-2.ensures ∙ (ap (λ (r : WireReader). r.reader.handed) same ∙ o.handed))) o.admissible.payload
    (subst (HasSeen side (is_gex j.names.kex) (is_later xs) items) (sym (ap (λ (r : WireReader). r.block) same)) h))
    (c.turn_behind.ensures ∙ ap (λ n. turn_behind (n == 21)) (ap (λ (p : Packet). p.message_type) c.packet_of-packet.ensures ∙ ap message_type (c.handed.ensures ∙ (ap (λ (r : WireReader). r.reader.handed) same ∙ o.handed))))
