use Rattle.std.proofs.Common.{rules, List, ℕ, [], ◌∷◌, ◌++◌, refl, ap, ◌∙◌}
use Rattle.ssh_transport.specs.Drawing.{writing_at}
use Rattle.ssh_transport.proofs.Drawing.{on_refusal, sealed_alone, sealed_next}
use Rattle.ssh_transport.proofs.Saying.{flipped, flipped_true, good_some, on_ok, outside_is}
use Rattle.ssh_transport.proofs.Sending.{wrote_join, wrote_nothing, wrote_payload}
use Rattle.ssh_transport.proofs.Submitting.{submits_inside, submits_outside}
use Rattle.ssh_transport.proofs.session.Session.submit.Goals as goal

pub returns-then-is_inside : goal.returns-then-is_inside
returns-then-is_inside g c = record {
  opened = search rules;
  sent = submits_inside c.args.self.now (record c.args.self.now { held = c.push_back.new.self }) c.args.read
      c.args.payload.now
      (flipped_true c.is_inside.result _ c.is_inside.ensures c.if-is_inside.true) c.requires.settled c.requires.good
      c.requires.payload
      (c.in_ok-push_back.ensures.items ∙ ap (λ (x : List ℕ). c.args.self.now.held.items ++ x ∷ [])
      (c.new.ensures ∙ c.in_ok-from_slice.ensures.items)) refl;
  drawn = search rules;
  wrote = wrote_nothing c.args.self.now _;
  held = search rules;
  leaves = search rules;
  fixed = search rules;
  begins = search rules;
  err = search rules;
}

pub returns : goal.returns
returns g c = record {
  opened = search rules;
  sent = on_ok c.go_on.result _ _ (λ h. submits_outside c.args.self.now
      (record c.args.self.now { writer = c.packet_raw.new.self }) c.go_on.new.self c.args.read c.args.payload.now _
      (outside_is _ (flipped c.is_inside.result _ c.is_inside.ensures c.if-is_inside.false)) c.requires.settled
      c.requires.payload
      (c.in_ok-packet_raw.ensures.admissible (good_some c.args.payload.now c.requires.payload))
      (c.in_ok-packet_raw.ensures.padded (good_some c.args.payload.now c.requires.payload))
      c.in_ok-packet_raw.ensures.sent refl h) c.go_on.ensures.ok;
  drawn = λ o. on_ok c.go_on.result _ _ (λ h. sealed_next c.args.self.now
      (record c.args.self.now { writer = c.packet_raw.new.self }) c.go_on.new.self c.args.read c.args.payload.now _
      (good_some c.args.payload.now c.requires.payload) c.in_ok-packet_raw.ensures.sent h) c.go_on.ensures.ok;
  wrote = on_ok c.go_on.result _ _ (λ h. wrote_join c.args.self.now
      (record c.args.self.now { writer = c.packet_raw.new.self }) c.go_on.new.self _ _ _ (refl, refl)
      (wrote_payload c.args.self.now c.packet_raw.new.self c.args.payload.now _ _ c.requires.payload
      c.in_ok-packet_raw.ensures.sent c.in_ok-packet_raw.ensures.stream) h) c.go_on.ensures.wrote;
  held = search rules;
  leaves = (let o = outside_is _ (flipped c.is_inside.result _ c.is_inside.ensures c.if-is_inside.false) in
      on_refusal c.go_on.result _ _ (λ w. sealed_alone c.args.self.now
      (record c.args.self.now { writer = c.packet_raw.new.self }) c.go_on.new.self c.args.read c.args.payload.now _
      (good_some c.args.payload.now c.requires.payload) c.in_ok-packet_raw.ensures.sent refl w)
      (c.go_on.ensures.due (λ _. (c.requires.settled (writing_at c.args.self.now.writer)).sent o)));
  fixed = search rules;
  begins = search rules;
  err = search rules;
}
