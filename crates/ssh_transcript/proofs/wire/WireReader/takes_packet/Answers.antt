use Rattle.std.proofs.Common.{◌∙◌, sym}
use Rattle.ssh_kex.specs.Messages.{is_gex}
use Rattle.ssh_record.specs.Packets.{host_recorded}
use Rattle.ssh_record.specs.Recordings.{config_in}
use Rattle.ssh_transcript.proofs.Standings.{good_on, not_padded}
use Rattle.ssh_transcript.proofs.Turning.{payload_short, tested}
use Rattle.ssh_transcript.proofs.wire.WireReader.takes_packet.Goals as goal

pub returns-then-not-is_padded-clause-refused : goal.returns-then-not-is_padded-clause-refused
returns-then-not-is_padded-clause-refused c = λ e side j xs o g p f.
    let told = tested side j xs c.args.start c.args.self.now c.is_padded.result c.bytes_from-packet.result.now c.handed.result.now o c.is_padded.ensures c.handed.ensures c.bytes_from-packet.ensures in
    not_padded side j xs c.args.start c.args.self.now o (λ q. let z = sym c.if-not-is_padded.true ∙ told.1 q in cc) p

pub returns-clause-taken : goal.returns-clause-taken
returns-clause-taken c = λ t side j xs o g.
    let told = tested side j xs c.args.start c.args.self.now c.is_padded.result c.bytes_from-packet.result.now c.handed.result.now o c.is_padded.ensures c.handed.ensures c.bytes_from-packet.ensures in
    good_on side j xs c.args.start c.args.self.now c.takes.new.self o (told.0 c.if-not-is_padded.false)
    (c.takes.ensures.taken t side (config_in side j) (is_gex j.names.kex) (host_recorded side j) j.recording.steps o.items o.item (sym (c.handed-2.ensures ∙ o.handed)) g.taken) g

pub returns-clause-refused : goal.returns-clause-refused
returns-clause-refused c = λ e side j xs o g p f.
    c.takes.ensures.refused e (payload_short side j xs c.args.start c.args.self.now c.handed-2.result.now o c.handed-2.ensures)
    side (config_in side j) (is_gex j.names.kex) (host_recorded side j) j.recording.steps o.items o.item (sym (c.handed-2.ensures ∙ o.handed)) g.taken f
