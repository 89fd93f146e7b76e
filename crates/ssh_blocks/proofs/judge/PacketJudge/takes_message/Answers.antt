use Rattle.std.proofs.Common.{refl}
use Rattle.ssh_blocks.proofs.Taking.{no_message, took_message}
use Rattle.ssh_blocks.proofs.judge.PacketJudge.takes_message.Goals as goal

pub returns-then-not-has_form-clause-refused : goal.returns-then-not-has_form-clause-refused
returns-then-not-has_form-clause-refused c = λ e due l.
    no_message c.args.self.now c.args.payload.now due (λ config host r m. c.if-not-has_form.ensures.formless refl config host r l m)

pub returns-clause-taken : goal.returns-clause-taken
returns-clause-taken c = λ t due.
    took_message c.args.self.now _ c.args.payload.now due (λ config host r d. c.if-not-has_form.ensures.form refl config host r d) refl refl refl refl
    c.place_behind-self.ensures.last c.place_behind-self.ensures.within
