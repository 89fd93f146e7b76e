use Rattle.std.proofs.Common.{◌∙◌, Ok, ap, arith, length, subst}
use Rattle.ssh_transcript.specs.Reading.{TurnsTo}
use Rattle.ssh_transcript.proofs.Standings.{open_within}
use Rattle.ssh_transcript.proofs.wire.WireReader.read_epoch.Goals as goal

pub loop-init : goal.loop-init
loop-init c = λ side j xs o. (o, omega (arith, open_within side j xs c.args.self.now o))

pub returns-in-EpochEnd-clause-ended : goal.returns-in-EpochEnd-clause-ended
returns-in-EpochEnd-clause-ended c = λ e side j xs o.
    subst (λ t. TurnsTo t side j xs c.read_packet.new.self) c.in-EpochEnd.is (c.in_ok-read_packet.ensures.turn side j xs (c.loop.invariant side j xs o).0)

pub returns-in-Nothing-clause-over : goal.returns-in-Nothing-clause-over
returns-in-Nothing-clause-over c = λ e side j xs o.
    subst (λ t. TurnsTo t side j xs c.read_packet.new.self) c.in-Nothing.is (c.in_ok-read_packet.ensures.turn side j xs (c.loop.invariant side j xs o).0)

pub loop-preserved : goal.loop-preserved
loop-preserved c = λ side j xs o.
    let i = c.loop.invariant side j xs o in
    let shorter = c.read_packet.ensures.shorter (c.in_ok-read_packet.was ∙ ap Ok c.in-Packet.is) in
    (subst (λ t. TurnsTo t side j xs c.read_packet.new.self) c.in-Packet.is (c.in_ok-read_packet.ensures.turn side j xs i.0), omega (arith, i.1, shorter, ap length c.read_packet.ensures.wire))

pub returns-clause-over : goal.returns-clause-over
returns-clause-over c = λ e side j xs o.
    let i = c.loop.invariant side j xs o in
    absurd (omega (arith, i.1, ap length i.0.is_of.wire_is, ap length o.is_of.wire_is, c.loop-test.false))
