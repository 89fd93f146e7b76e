use Rattle.std.proofs.Common.{◌≡◌, ◌+◌, length, drop, vec_len, vec_capacity, Ok, rules, arith, ap, ◌∙◌}
use Rattle.std.specs.Fn.{FnOnceReturnsAtMut}
use Rattle.ssh_packet.proofs.Starts.{appends_from, made_from, refused_from, same_output}
use Rattle.ssh_packet.proofs.Written.{kept_before, refused_in_place, refused_too_long, sealed_so, seals_behind, sent_nothing, size_behind}
use Rattle.ssh_packet.proofs.writer.PacketWriter.write_packet.Goals as goal

pub returns-in_err-append_with : goal.returns-in_err-append_with
returns-in_err-append_with g c =
    let moved = c.move_to_front.ensures in
    let bytes = c.move_to_front.new.bytes in
    let within = rw (← c.self-inside.view_is) at c.self.invariant in
    rw (← c.self.view_is, ← c.self-inside.view_is)
    (refused_in_place _ _ _ c.in_err-append_with.field-0.0 _ _ (search rules)
    (refused_from (FnOnceReturnsAtMut g.F.FnOnce c.args.f) bytes.items _ moved.items _ (vec_capacity bytes) (vec_len bytes) _ (omega (arith, moved.len, moved.capacity, within, c.self-inside.inside.0.0.buffer.ok.0)) c.in_err-append_with.ensures.err)
    (same_output _ _ _ _ _ _ _ _ moved.start (c.in_err-append_with.ensures.unchanged ∙ moved.items)))

pub returns-then-payload-eq0 : goal.returns-then-payload-eq0
returns-then-payload-eq0 g c =
    let moved = c.move_to_front.ensures in
    let bytes = c.move_to_front.new.bytes in
    let made = c.in_ok-append_with.ensures.ok in
    let size : length c.append_with.new.out.items ≡ length bytes.items + 5 + length made.0 = size_behind bytes.items c.append_with.new.out.items made.0 made.2 in
    let none : length made.0 ≡ 0 = omega (arith, size, c.append_with.new.out.ok.0, bytes.ok.0) in
    let same : c.truncate.new.self.items ≡ bytes.items = c.truncate.ensures.items ∙ kept_before bytes.items c.append_with.new.out.items made.0 c.len-start.result made.2 (omega (arith, bytes.ok.0)) in
    rw (← c.self.view_is, ← c.self-inside.view_is)
    (sent_nothing _ _ _ made.0 _ _ (appends_from (FnOnceReturnsAtMut g.F.FnOnce c.args.f) bytes.items _ moved.items (Ok tt) made.0 _ made.1) none (same_output _ _ _ _ _ _ _ _ moved.start (same ∙ moved.items)))

pub returns-then-payload-gt-LONGEST_PAYLOAD : goal.returns-then-payload-gt-LONGEST_PAYLOAD
returns-then-payload-gt-LONGEST_PAYLOAD g c =
    let moved = c.move_to_front.ensures in
    let bytes = c.move_to_front.new.bytes in
    let made = c.in_ok-append_with.ensures.ok in
    let out = c.truncate-then-payload-gt-LONGEST_PAYLOAD in
    let size : length c.append_with.new.out.items ≡ length bytes.items + 5 + length made.0 = size_behind bytes.items c.append_with.new.out.items made.0 made.2 in
    let same : out.new.self.items ≡ bytes.items = out.ensures.items ∙ kept_before bytes.items c.append_with.new.out.items made.0 c.len-start.result made.2 (omega (arith, bytes.ok.0)) in
    rw (← c.self.view_is, ← c.self-inside.view_is)
    (refused_too_long _ _ _ made.0 _ _ _ (appends_from (FnOnceReturnsAtMut g.F.FnOnce c.args.f) bytes.items _ moved.items (Ok tt) made.0 _ made.1) (omega (arith, size, c.append_with.new.out.ok.0, bytes.ok.0)) c.if-payload-gt-LONGEST_PAYLOAD.true
    (same_output _ _ _ _ _ _ _ _ moved.start (same ∙ moved.items)))

pub returns : goal.returns
returns g c =
    let moved = c.move_to_front.ensures in
    let bytes = c.move_to_front.new.bytes in
    let out = c.append_with.new.out in
    let made = c.in_ok-append_with.ensures.ok in
    let ready = c.seal_payload.ensures.ready in
    rw (← c.self.view_is, ← c.self-inside.view_is)
    (sealed_so _ _ made.0 _ _ _ _ _ (appends_from (FnOnceReturnsAtMut g.F.FnOnce c.args.f) bytes.items _ moved.items (Ok tt) made.0 _ made.1)
    (seals_behind _ _ c.len-start.result (drop c.move_to_front.new.start out.items) made.0 _ _ _ _ (made_from bytes.items _ out.items _ made.0 _ moved.items moved.start made.2) (c.len-start.ensures ∙ (bytes.ok.0 ∙ ap length moved.items)) c.seal_payload.ensures.seals)
    (λ fits. ready (omega (arith, fits))))
