use Rattle.std.proofs.Common.{◌≡◌, ◌<◌, ap, arith, length, subst, sym}
use Rattle.ssh_record.specs.Packets.{IsBadBehind}
use Rattle.ssh_transcript.proofs.WholeWires.{all_good, bad_rest}
use Rattle.ssh_transcript.proofs.wire.WireReader.bad_rest.Goals as goal

pub returns-then-waiting-eq0-clause-none : goal.returns-then-waiting-eq0-clause-none
returns-then-waiting-eq0-clause-none c = λ e there none side j xs r.
    let w : length c.args.self.now.reader.waiting ≡ 0 = omega (arith, c.waiting.ensures) in
    all_good side j xs c.args.self.now there none w r

pub returns-clause-some : goal.returns-clause-some
returns-clause-some c = λ there none side j xs r.
    let w : 0 < length c.args.self.now.reader.waiting = omega (arith, c.waiting.ensures) in
    subst (IsBadBehind side j xs) (sym (ap length c.packets.ensures)) (bad_rest side j xs c.args.self.now there none w r)
