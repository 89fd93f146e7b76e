use Rattle.std.proofs.Common.{◌≡◌, true, Some, refl, subst, sym}
use Rattle.std.specs.Prelude.{slice_get}
use Rattle.ssh_packet.specs.Stream.{message_type}
use Rattle.ssh_wire.specs.declared.side.Side.TheVariants.{Server}
use Rattle.ssh_rules.specs.MessageTypes.{order}
use Rattle.ssh_blocks.specs.Forms.{IsReplyOf}
use Rattle.ssh_blocks.specs.Judging.{IsMessageAt}
use Rattle.ssh_blocks.proofs.Formed.{server_group, server_group_is, server_plain, server_plain_is, server_reply, server_reply_is}
use Rattle.ssh_blocks.proofs.rules.WireRules.has_server_form.Goals as goal

pub returns-then-not-self-clause-form : goal.returns-then-not-self-clause-form
returns-then-not-self-clause-form c = λ t config host r due.
    subst (λ k. IsMessageAt Server config k host c.args.place c.args.payload.now) (sym c.if-not-self.true)
    (server_plain config host r.cookie c.args.place c.args.payload.now r.sixteen
    (subst (λ k. slice_get (order Server k) c.args.place ≡ Some (message_type c.args.payload.now)) c.if-not-self.true due)
    (subst (λ h. IsReplyOf h 31 c.args.payload.now) (r.presents refl) (c.is_reply.ensures.reply t)))

pub returns-then-not-self-clause-formless : goal.returns-then-not-self-clause-formless
returns-then-not-self-clause-formless c = λ e config host r l o short m.
    c.is_reply.ensures.other e short (subst (λ h. IsReplyOf h 31 c.args.payload.now) (sym (r.presents refl))
    (server_plain_is config host c.args.place c.args.payload.now l o (subst (λ k. IsMessageAt Server config k host c.args.place c.args.payload.now) c.if-not-self.true m)))

pub returns-then-place-eq1-clause-form : goal.returns-then-place-eq1-clause-form
returns-then-place-eq1-clause-form c = λ t config host r due.
    subst (λ k. IsMessageAt Server config k host c.args.place c.args.payload.now) (sym c.if-not-self.false)
    (server_group config host r.cookie c.args.place c.args.payload.now r.sixteen
    (subst (λ k. slice_get (order Server k) c.args.place ≡ Some (message_type c.args.payload.now)) c.if-not-self.false due) (c.are_two_numbers.ensures.two t))

pub returns-then-place-eq1-clause-formless : goal.returns-then-place-eq1-clause-formless
returns-then-place-eq1-clause-formless c = λ e config host r l o short m.
    c.are_two_numbers.ensures.other e short
    (server_group_is config host c.args.payload.now (subst (λ n. IsMessageAt Server config true host n c.args.payload.now) c.if-place-eq1.true
    (subst (λ k. IsMessageAt Server config k host c.args.place c.args.payload.now) c.if-not-self.false m)))

pub returns-clause-form : goal.returns-clause-form
returns-clause-form c = λ t config host r due.
    subst (λ k. IsMessageAt Server config k host c.args.place c.args.payload.now) (sym c.if-not-self.false)
    (server_reply config host r.cookie c.args.place c.args.payload.now r.sixteen
    (subst (λ k. slice_get (order Server k) c.args.place ≡ Some (message_type c.args.payload.now)) c.if-not-self.false due)
    (subst (λ h. IsReplyOf h 33 c.args.payload.now) (r.presents refl) (c.is_reply-2.ensures.reply t)))

pub returns-clause-formless : goal.returns-clause-formless
returns-clause-formless c = λ e config host r l o short m.
    c.is_reply-2.ensures.other e short (subst (λ h. IsReplyOf h 33 c.args.payload.now) (sym (r.presents refl))
    (server_reply_is config host c.args.place c.args.payload.now l c.if-place-eq1.false o (subst (λ k. IsMessageAt Server config k host c.args.place c.args.payload.now) c.if-not-self.false m)))
