use Rattle.std.proofs.Common.{◌≡◌, ◌+◌, arith, length}
use Rattle.std.proofs.lemmas.Result.{IfOk-weaker}
use Rattle.ssh_transcript.proofs.Standings.{is_over, open_within, opened}
use Rattle.ssh_transcript.proofs.wire.WireReader.read_packet.Goals as goal

pub returns-then-not-open_next-clause-turn : goal.returns-then-not-open_next-clause-turn
returns-then-not-open_next-clause-turn c = λ side j xs o. is_over side j xs c.args.self.now c.open_next.new.self o (c.open_next.ensures.none c.if-not-open_next.true)

pub returns-clause-turn : goal.returns-clause-turn
returns-clause-turn c = IfOk-weaker c.keep.result _ _ (λ t h side j xs o.
    let i = c.open_next.ensures.opened c.if-not-open_next.false in
    let begins : c.place-start.result + length c.args.self.now.reader.waiting ≡ length c.args.self.now.wire.now = omega (arith, c.place-start.ensures, open_within side j xs c.args.self.now o) in
    h side j xs (opened side j xs c.place-start.result c.args.self.now c.open_next.new.self i.0 begins o i.1)) c.keep.ensures.turn
