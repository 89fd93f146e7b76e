use Rattle.std.proofs.Common.{rules, ap, refl}
use Rattle.ssh_packet.specs.Writing.{Writer}
use Rattle.ssh_transport.proofs.Saying.{begins_part, flipped, goes_on_begun, goes_part, on_err, on_ok, outside_is, sends_first}
use Rattle.ssh_transport.proofs.Sending.{popped_good, wrote_join, wrote_payload}
use Rattle.ssh_transport.proofs.Limits.{none_taken, wants_keys}
use Rattle.ssh_transport.proofs.Opened.{heard_outside, open_begun}
use Rattle.ssh_transport.proofs.session.Session.go_on.Goals as goal

pub held-preserved : goal.held-preserved
held-preserved g c = record {
  begins = record { valid = c.held.invariant.begins.valid; short = c.held.invariant.begins.short };
  line = c.held.invariant.line;
  unheard = c.held.invariant.unheard;
  opened = record { machine = c.held.invariant.opened.machine; heard = c.held.invariant.opened.heard };
  idle = λ n. absurd (none_taken c.args.self.now c.held.self c.in-Some.payload _ c.held.invariant.idle
      (outside_is _ (flipped c.is_inside.result _ c.is_inside.ensures c.held-test.true)) c.in-Some.ensures.items n);
  written = sends_first c.args.self.now c.held.self _ c.args.read c.is_inside.result c.is_at_limit.result
      c.in-Some.payload c.as_slice.result.now _ c.is_inside.ensures c.held-test.true c.is_at_limit.ensures
      c.if-is_at_limit.false c.held.invariant.written c.in-Some.ensures.items c.as_slice.ensures
      c.in_ok-packet_raw.ensures.sent c.in_ok-packet_raw.ensures.admissible c.in_ok-packet_raw.ensures.padded refl;
  wrote = wrote_join c.args.self.now c.held.self (record c.held.self { writer = c.packet_raw.new.self }) _ _ _
      (c.held.invariant.written.1.side, c.held.invariant.written.1.config) c.held.invariant.wrote
      (wrote_payload c.held.self c.packet_raw.new.self c.as_slice.result.now _ _
      (popped_good c.held.self c.in-Some.payload c.as_slice.result.now _ c.held.invariant.written.1.good
      c.in-Some.ensures.items c.as_slice.ensures) c.in_ok-packet_raw.ensures.sent
      c.in_ok-packet_raw.ensures.stream);
}

pub returns-then-is_at_limit : goal.returns-then-is_at_limit
returns-then-is_at_limit g c = record {
  opened = on_ok c.begin.result _ _ (λ b. open_begun c.held.self c.begin.new.self
      (heard_outside c.held.self (outside_is _ (flipped c.is_inside.result _ c.is_inside.ensures c.held-test.true))
      c.held.invariant.opened) b) c.begin.ensures.begun;
  ok = on_ok c.begin.result _ _ (λ b. goes_on_begun c.args.self.now c.held.self c.begin.new.self c.args.read
      c.is_inside.result c.is_at_limit.result c.is_inside.ensures c.held-test.true c.is_at_limit.ensures
      c.if-is_at_limit.true c.held.invariant.written b) c.begin.ensures.begun;
  wrote = on_ok c.begin.result _ _ (λ h. wrote_join c.args.self.now c.held.self c.begin.new.self _ _ _
      (c.held.invariant.written.1.side, c.held.invariant.written.1.config) c.held.invariant.wrote h.wrote)
      c.begin.ensures.drawn;
  wanting = begins_part c.args.self.now c.held.self c.begin.new.self c.args.read c.begin.result c.held.invariant.written
      c.begin.ensures.unsaid;
  due = wants_keys c.args.self.now c.held.self c.begin.new.self c.args.read c.begin.result c.is_at_limit.result
      c.held.invariant.idle (outside_is _ (flipped c.is_inside.result _ c.is_inside.ensures c.held-test.true))
      c.is_at_limit.ensures c.if-is_at_limit.true c.begin.ensures.unsaid;
  fixed = search rules;
  begins = search rules;
  line = search rules;
  err = search rules;
}

pub returns-in_err-packet_raw : goal.returns-in_err-packet_raw
returns-in_err-packet_raw g c = record {
  opened = search rules;
  ok = search rules;
  wrote = search rules;
  wanting = on_err _ _ (goes_part c.args.self.now c.held.self _ c.args.read c.held.invariant.written
      (ap (λ (w : Writer). w.output) c.in_err-packet_raw.ensures.unchanged) refl);
  due = λ n. absurd (none_taken c.args.self.now c.held.self c.in-Some.payload _ c.held.invariant.idle
      (outside_is _ (flipped c.is_inside.result _ c.is_inside.ensures c.held-test.true)) c.in-Some.ensures.items n);
  fixed = search rules;
  begins = search rules;
  line = search rules;
  err = search rules;
}
