use Rattle.std.proofs.Common.{◌≡◌, ◌∙◌, ◌<◌, Some, length, subst, sym, arith}
use Rattle.std.specs.Prelude.{slice_get}
use Rattle.ssh_packet.specs.Stream.{message_type}
use Rattle.ssh_rules.specs.MessageTypes.{order}
use Rattle.ssh_blocks.specs.Judging.{IsMessageAt, IsRulesOf}
use Rattle.ssh_blocks.proofs.Formed.{kexinit_formed, kexinit_is, newkeys_is, newkeys_tested, one_false, one_true}
use Rattle.ssh_blocks.proofs.rules.WireRules.has_form.Goals as goal

pub returns-then-place-eq0-clause-form : goal.returns-then-place-eq0-clause-form
returns-then-place-eq0-clause-form c = λ t config host r due.
    subst (λ n. IsMessageAt c.args.self.now.side config c.args.self.now.kind host n c.args.payload.now) (sym c.if-place-eq0.true)
    (kexinit_formed c.args.self.now.side config c.args.self.now.kind host r.cookie c.args.self.now.kexinit.now c.args.payload.now r.sixteen r.kexinit (c.is_same_kexinit.ensures.same t))

pub returns-then-place-eq0-clause-formless : goal.returns-then-place-eq0-clause-formless
returns-then-place-eq0-clause-formless c = λ e config host r l m.
    c.is_same_kexinit.ensures.other e
    (kexinit_is c.args.self.now.side config c.args.self.now.kind host r.cookie c.args.self.now.kexinit.now c.args.payload.now r.sixteen r.kexinit
    (subst (λ n. IsMessageAt c.args.self.now.side config c.args.self.now.kind host n c.args.payload.now) c.if-place-eq0.true m))

pub returns-then-type_of-eq-NEWKEYS-clause-form : goal.returns-then-type_of-eq-NEWKEYS-clause-form
returns-then-type_of-eq-NEWKEYS-clause-form c = λ t config host r due.
    newkeys_tested c.args.self.now.side config c.args.self.now.kind host r.cookie c.args.place c.type_of.result c.args.payload.now r.sixteen c.type_of.ensures c.if-type_of-eq-NEWKEYS.true
    (one_true (length c.args.payload.now) t) due

pub returns-then-type_of-eq-NEWKEYS-clause-formless : goal.returns-then-type_of-eq-NEWKEYS-clause-formless
returns-then-type_of-eq-NEWKEYS-clause-formless c =
    let behind : 0 < c.args.place = omega arith in
    λ e config host r l m. one_false (length c.args.payload.now) e
    (newkeys_is c.args.self.now.side config c.args.self.now.kind host c.args.place c.args.payload.now behind (sym c.type_of.ensures ∙ c.if-type_of-eq-NEWKEYS.true) m)

pub returns-in-Client-clause-form : goal.returns-in-Client-clause-form
returns-in-Client-clause-form c = λ t config host r due.
    subst (λ x. IsMessageAt x config c.args.self.now.kind host c.args.place c.args.payload.now) (sym c.in-Client.is)
    (c.has_client_form.ensures.form t config host (subst (λ x. IsRulesOf x config c.args.self.now.kind host c.args.self.now) c.in-Client.is r)
    (subst (λ x. slice_get (order x c.args.self.now.kind) c.args.place ≡ Some (message_type c.args.payload.now)) c.in-Client.is due))

pub returns-in-Client-clause-formless : goal.returns-in-Client-clause-formless
returns-in-Client-clause-formless c =
    let behind : 0 < c.args.place = omega arith in
    λ e config host r l m.
    c.has_client_form.ensures.formless e config host (subst (λ x. IsRulesOf x config c.args.self.now.kind host c.args.self.now) c.in-Client.is r) behind
    (λ f. c.if-type_of-eq-NEWKEYS.false (c.type_of.ensures ∙ f)) l
    (subst (λ x. IsMessageAt x config c.args.self.now.kind host c.args.place c.args.payload.now) c.in-Client.is m)

pub returns-in-Server-clause-form : goal.returns-in-Server-clause-form
returns-in-Server-clause-form c = λ t config host r due.
    subst (λ x. IsMessageAt x config c.args.self.now.kind host c.args.place c.args.payload.now) (sym c.in-Server.is)
    (c.has_server_form.ensures.form t config host (subst (λ x. IsRulesOf x config c.args.self.now.kind host c.args.self.now) c.in-Server.is r)
    (subst (λ x. slice_get (order x c.args.self.now.kind) c.args.place ≡ Some (message_type c.args.payload.now)) c.in-Server.is due))

pub returns-in-Server-clause-formless : goal.returns-in-Server-clause-formless
returns-in-Server-clause-formless c =
    let behind : 0 < c.args.place = omega arith in
    λ e config host r l m.
    c.has_server_form.ensures.formless e config host (subst (λ x. IsRulesOf x config c.args.self.now.kind host c.args.self.now) c.in-Server.is r) behind
    (λ f. c.if-type_of-eq-NEWKEYS.false (c.type_of.ensures ∙ f)) l
    (subst (λ x. IsMessageAt x config c.args.self.now.kind host c.args.place c.args.payload.now) c.in-Server.is m)
