use Rattle.std.proofs.Common.{refl}
use Rattle.ssh_blocks.proofs.Taking.{first_one, no_payload, none_one, took_payload}
use Rattle.ssh_blocks.proofs.judge.PacketJudge.takes_submitted.Goals as goal

pub returns-in-Some-clause-taken : goal.returns-in-Some-clause-taken
returns-in-Some-clause-taken c = λ t due.
    took_payload c.args.self.now _ c.args.payload.now c.in-Some.submitted.now due refl refl refl refl c.in-Some.ensures.first (c.are_same.ensures.same t)

pub returns-in-Some-clause-refused : goal.returns-in-Some-clause-refused
returns-in-Some-clause-refused c = λ e due.
    no_payload c.args.self.now c.args.payload.now due (λ more s. c.are_same.ensures.other e (first_one _ c.in-Some.submitted.now c.args.payload.now _ more c.in-Some.ensures.first s))

pub returns-in-None-clause-refused : goal.returns-in-None-clause-refused
returns-in-None-clause-refused c = λ e due.
    no_payload c.args.self.now c.args.payload.now due (λ more s. none_one _ c.args.payload.now more (c.in-None.ensures.none refl) s)
