use Rattle.std.proofs.lemmas.Result.{err_from_is_err_and}
use Rattle.ssh_transport.proofs.Advancing.{all_refused, heard_still, none_read, packet_less, read_as_told, reads_on_join, stops_reading_join}
use Rattle.ssh_transport.specs.declared.connection.PacketRead.TheVariants.{Nothing, Packet, Payload}
use Rattle.ssh_transport.proofs.connection.Connection.read_on.Goals as goal

pub next_packet-requires : goal.next_packet-requires
next_packet-requires g c = record {
  live = c.packets.invariant.live;
  heard = heard_still c.args.self.now c.packets.self
      c.packets.invariant.line c.requires.heard;
}

pub packets-init : goal.packets-init
packets-init g c = none_read g.A.Agreement g.H.HostKeys g.G.GroupLookup g.R.Rng c.args.parts.now c.args.queues
    c.args.self.now c.requires.live

pub packets-preserved : goal.packets-preserved
packets-preserved g c = reads_on_join g.A.Agreement g.H.HostKeys g.G.GroupLookup g.R.Rng c.args.parts.now
    c.packets.parts c.next_packet.new.parts c.args.queues c.args.self.now c.packets.self c.next_packet.new.self Packet
    c.packets.invariant
    (read_as_told c.args.queues _ c.packets.self c.next_packet.new.self c.in_ok-next_packet.field-0 Packet
    c.in-Packet.is c.in_ok-next_packet.ensures.0)

pub packets-smaller : goal.packets-smaller
packets-smaller g c = packet_less c.in_ok-next_packet.field-0 _ _ c.in-Packet.is c.in_ok-next_packet.ensures.1

pub returns-in-Nothing : goal.returns-in-Nothing
returns-in-Nothing g c = reads_on_join g.A.Agreement g.H.HostKeys g.G.GroupLookup g.R.Rng c.args.parts.now
    c.packets.parts c.next_packet.new.parts c.args.queues c.args.self.now c.packets.self c.next_packet.new.self Nothing
    c.packets.invariant
    (read_as_told c.args.queues _ c.packets.self c.next_packet.new.self c.in_ok-next_packet.field-0 Nothing
    c.in-Nothing.is c.in_ok-next_packet.ensures.0)

pub returns-in-Payload : goal.returns-in-Payload
returns-in-Payload g c = reads_on_join g.A.Agreement g.H.HostKeys g.G.GroupLookup g.R.Rng c.args.parts.now
    c.packets.parts c.next_packet.new.parts c.args.queues c.args.self.now c.packets.self c.next_packet.new.self Payload
    c.packets.invariant
    (read_as_told c.args.queues _ c.packets.self c.next_packet.new.self c.in_ok-next_packet.field-0 Payload
    c.in-Payload.is c.in_ok-next_packet.ensures.0)

pub returns-in_err-next_packet : goal.returns-in_err-next_packet
returns-in_err-next_packet g c =
    let p = err_from_is_err_and c.from_residual.result c.from_residual.ensures.1 in
    all_refused c.args.queues _ c.args.self.now _ c.from_residual.result p.0 c.in_err-next_packet.field-0.0 p.1 p.2
    (stops_reading_join g.A.Agreement g.H.HostKeys g.G.GroupLookup g.R.Rng c.args.parts.now c.packets.parts
    c.next_packet.new.parts c.args.queues c.args.self.now c.packets.self c.next_packet.new.self
    c.in_err-next_packet.field-0.0 c.packets.invariant c.in_err-next_packet.ensures)
