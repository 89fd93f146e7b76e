use Rattle.std.proofs.Common.{◌≡◌, ◌∷◌, true, Some, subst, sym}
use Rattle.std.specs.Prelude.{slice_get}
use Rattle.ssh_packet.specs.Stream.{message_type}
use Rattle.ssh_wire.specs.declared.side.Side.TheVariants.{Client}
use Rattle.ssh_kex.specs.Messages.{sizes_text}
use Rattle.ssh_rules.specs.MessageTypes.{order}
use Rattle.ssh_blocks.specs.Judging.{IsMessageAt}
use Rattle.ssh_blocks.proofs.Formed.{client_plain, client_plain_is, client_request, client_request_is, client_value, client_value_is}
use Rattle.ssh_blocks.proofs.rules.WireRules.has_client_form.Goals as goal

pub returns-then-not-self-clause-form : goal.returns-then-not-self-clause-form
returns-then-not-self-clause-form c = λ t config host r due.
    subst (λ k. IsMessageAt Client config k host c.args.place c.args.payload.now) (sym c.if-not-self.true)
    (client_plain config host r.cookie c.args.place c.args.payload.now r.sixteen
    (subst (λ k. slice_get (order Client k) c.args.place ≡ Some (message_type c.args.payload.now)) c.if-not-self.true due) (c.is_one_string.ensures.one t))

pub returns-then-not-self-clause-formless : goal.returns-then-not-self-clause-formless
returns-then-not-self-clause-formless c = λ e config host r l o short m.
    c.is_one_string.ensures.other e short
    (client_plain_is config host c.args.place c.args.payload.now l o (subst (λ k. IsMessageAt Client config k host c.args.place c.args.payload.now) c.if-not-self.true m))

pub returns-then-place-eq1-clause-form : goal.returns-then-place-eq1-clause-form
returns-then-place-eq1-clause-form c = λ t config host r due.
    subst (λ k. IsMessageAt Client config k host c.args.place c.args.payload.now) (sym c.if-not-self.false)
    (client_request config host r.cookie c.args.place c.args.payload.now r.sixteen
    (subst (λ k. slice_get (order Client k) c.args.place ≡ Some (message_type c.args.payload.now)) c.if-not-self.false due)
    (subst (λ g. c.args.payload.now ≡ 34 ∷ sizes_text g) r.sizes (c.is_request.ensures.request t)))

pub returns-then-place-eq1-clause-formless : goal.returns-then-place-eq1-clause-formless
returns-then-place-eq1-clause-formless c = λ e config host r l o short m.
    c.is_request.ensures.other e (subst (λ g. c.args.payload.now ≡ 34 ∷ sizes_text g) (sym r.sizes)
    (client_request_is config host c.args.payload.now (subst (λ n. IsMessageAt Client config true host n c.args.payload.now) c.if-place-eq1.true
    (subst (λ k. IsMessageAt Client config k host c.args.place c.args.payload.now) c.if-not-self.false m))))

pub returns-clause-form : goal.returns-clause-form
returns-clause-form c = λ t config host r due.
    subst (λ k. IsMessageAt Client config k host c.args.place c.args.payload.now) (sym c.if-not-self.false)
    (client_value config host r.cookie c.args.place c.args.payload.now r.sixteen
    (subst (λ k. slice_get (order Client k) c.args.place ≡ Some (message_type c.args.payload.now)) c.if-not-self.false due) (c.is_one_string-2.ensures.one t))

pub returns-clause-formless : goal.returns-clause-formless
returns-clause-formless c = λ e config host r l o short m.
    c.is_one_string-2.ensures.other e short
    (client_value_is config host c.args.place c.args.payload.now l c.if-place-eq1.false o (subst (λ k. IsMessageAt Client config k host c.args.place c.args.payload.now) c.if-not-self.false m))
