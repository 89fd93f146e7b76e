use Rattle.std.proofs.Common.{◌≡◌, ◌∙◌, ◌+◌, ◌-◌, length, drop, vec_len, sym, ap, refl, arith, length-drop}
use Rattle.ssh_packet.proofs.Starts.{seals_from, seals_nothing}
use Rattle.ssh_packet.proofs.writer.PacketWriter.seal_payload.Goals as goal

pub returns-in-Err-clause-seals : goal.returns-in-Err-clause-seals
returns-in-Err-clause-seals g c =
    let short = rw (← c.self.view_is, ← c.self-inside.view_is) at c.requires.short in
    rw (c.in-Err.ensures.err, ← c.self.view_is, ← c.self-inside.view_is)
    (seals_nothing _ _ c.make_room.new.start c.args.start c.make_room.new.bytes.items c.truncate.new.self.items _ _ (omega (arith, short, length-drop (c.args.start + 5) (drop c.self-inside.inside.0.1.0 c.self-inside.inside.0.0.buffer.items))) c.in-Err.ensures.left c.truncate.ensures.items refl)

pub returns-clause-seals : goal.returns-clause-seals
returns-clause-seals g c =
    let short = rw (← c.self.view_is, ← c.self-inside.view_is) at c.requires.short in
    let some = rw (← c.self.view_is, ← c.self-inside.view_is) at c.requires.room in
    let left = c.in_default.ensures.left in
    let out = c.make_room.new.bytes in
    let s = c.make_room.new.start in
    let n = c.args.start in
    let same : length out.items - s ≡ length (drop c.self-inside.inside.0.1.0 c.self-inside.inside.0.0.buffer.items) = sym (length-drop s out.items) ∙ ap length left in
    let sealed = c.in_default-seal_behind.ensures in
    rw (← c.self.view_is, ← c.self-inside.view_is)
    (seals_from _ _ s n (c.len.result - (s + n) - 5) (vec_len out - (s + n + 5)) _ _ out.items c.seal_behind.new.out.items _ _ left some short
    (omega (arith, same, out.ok.0, c.len.ensures, some)) (omega (arith, same, out.ok.0, some)) refl sealed.ok c.saturating_add-self-inside-inside.ensures sealed.moved sealed.stream
    (sealed.admissible (omega (arith, same, some, out.ok.0))) (sealed.padded (omega (arith, same, some, out.ok.0))))
