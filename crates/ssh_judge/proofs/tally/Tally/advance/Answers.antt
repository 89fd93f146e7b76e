use Rattle.std.proofs.Common.{rules, get_or}
use Rattle.ssh_transcript.specs.declared.packet.Packet.{Packet}
use Rattle.ssh_judge.proofs.Fronts.{at_rest, gone_all, gone_more, gone_none, gone_stops, none_left, rest_of}
use Rattle.ssh_judge.proofs.tally.Tally.advance.Goals as goal

abbrev no_packet : Packet
no_packet = record { message_type = 0; length = 0; end = 0 }

pub loop-packet-init : goal.loop-packet-init
loop-packet-init c = record { few = search rules; so_far = gone_none c.args.packets.now c.args.reach c.args.self.now }

pub returns-then-reach-packet : goal.returns-then-reach-packet
returns-then-reach-packet c =
    gone_stops c.args.packets.now c.args.reach c.args.self.now c.loop-packet.packet-index c.loop-packet.self (get_or c.unwrap_or-packet-items.result.now c.loop-packet.packet-index no_packet) c.loop-packet.invariant.so_far
    (λ w. at_rest c.args.packets.now c.unwrap_or-packet-items.result.now c.args.self.now.packets c.loop-packet.packet-index no_packet (rest_of c.args.packets.now c.args.self.now.packets c.get.result c.unwrap_or-packet-items.result _ c.get.ensures.lookup.0 c.unwrap_or-packet-items.ensures w) c.loop-packet-test.true)
    c.if-reach-packet.true

pub loop-packet-preserved : goal.loop-packet-preserved
loop-packet-preserved c = record {
  few = c.loop-packet.invariant.few;
  so_far = gone_more c.args.packets.now c.args.reach c.args.self.now c.loop-packet.packet-index c.loop-packet.self c.count.new.self (get_or c.unwrap_or-packet-items.result.now c.loop-packet.packet-index no_packet) c.loop-packet.invariant.so_far
      (λ w. at_rest c.args.packets.now c.unwrap_or-packet-items.result.now c.args.self.now.packets c.loop-packet.packet-index no_packet (rest_of c.args.packets.now c.args.self.now.packets c.get.result c.unwrap_or-packet-items.result _ c.get.ensures.lookup.0 c.unwrap_or-packet-items.ensures w) c.loop-packet-test.true)
      c.if-reach-packet.false c.loop-packet.invariant.few c.in_ok-count.ensures.packets c.in_ok-count.ensures.end c.in_ok-count.ensures.counts;
}

pub returns : goal.returns
returns c =
    gone_all c.args.packets.now c.args.reach c.args.self.now c.loop-packet.packet-index c.loop-packet.self c.loop-packet.invariant.so_far
    (λ w. none_left c.args.packets.now c.unwrap_or-packet-items.result.now c.args.self.now.packets c.loop-packet.packet-index (rest_of c.args.packets.now c.args.self.now.packets c.get.result c.unwrap_or-packet-items.result _ c.get.ensures.lookup.0 c.unwrap_or-packet-items.ensures w) w c.loop-packet-test.false)
