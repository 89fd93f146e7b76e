use Rattle.std.proofs.Common.{refl}
use Rattle.ssh_transcript.specs.declared.wire.WireReader.{WireReader}
use Rattle.ssh_transcript.proofs.Standings.{next_epoch}
use Rattle.ssh_transcript.proofs.wire.WireReader.take_keys.Goals as goal

pub returns : goal.returns
returns c = λ side j xs x e g d.
    let new : WireReader = record c.args.self.now { reader = c.begin_again.new.reader; direction = c.args.direction; block = c.new.result } in
    next_epoch side j xs x c.args.direction c.args.is_strict c.args.self.now new e g d
    (record { same = refl; waiting = c.begin_again.ensures.waiting; failed = c.begin_again.ensures.failed; number = c.begin_again.ensures.number; seen = c.new.ensures })
