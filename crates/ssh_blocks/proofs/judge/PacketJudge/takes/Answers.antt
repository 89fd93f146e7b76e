use Rattle.std.proofs.Common.{◌∙◌, Some, ap, refl, subst, sym}
use Rattle.ssh_blocks.specs.Judging.{IsPayloadDue}
use Rattle.ssh_blocks.proofs.Taking.{not_due}
use Rattle.ssh_blocks.proofs.judge.PacketJudge.takes.Goals as goal

pub returns-then-is_payload_due-clause-taken : goal.returns-then-is_payload_due-clause-taken
returns-then-is_payload_due-clause-taken c = λ t.
    c.takes_submitted.ensures.taken t (subst (IsPayloadDue c.args.self.now) c.type_of-message_type.ensures (c.if-is_payload_due.ensures.due refl))

pub returns-then-is_payload_due-clause-refused : goal.returns-then-is_payload_due-clause-refused
returns-then-is_payload_due-clause-refused c = λ e l.
    c.takes_submitted.ensures.refused e (subst (IsPayloadDue c.args.self.now) c.type_of-message_type.ensures (c.if-is_payload_due.ensures.due refl))

pub returns-then-not-is_due-clause-refused : goal.returns-then-not-is_due-clause-refused
returns-then-not-is_due-clause-refused c = λ e l.
    not_due c.args.self.now c.args.payload.now
    (λ p. c.if-is_payload_due.ensures.other refl (subst (IsPayloadDue c.args.self.now) (sym c.type_of-message_type.ensures) p))
    (λ s. c.if-not-is_due.ensures.other refl (s ∙ ap Some (sym c.type_of-message_type.ensures)))

pub returns-clause-taken : goal.returns-clause-taken
returns-clause-taken c = λ t. c.takes_message.ensures.taken t (c.if-not-is_due.ensures.due refl ∙ ap Some c.type_of-message_type.ensures)

pub returns-clause-refused : goal.returns-clause-refused
returns-clause-refused c = λ e l. c.takes_message.ensures.refused e (c.if-not-is_due.ensures.due refl ∙ ap Some c.type_of-message_type.ensures) l
