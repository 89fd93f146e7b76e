use Rattle.std.proofs.Common.{rules, ◌≡◌, ◌+◌, ◌-◌, ◌≤◌, ◌∙◌, ◌++◌, ap, length, take, drop, replicate, vec_len, arith}
use Rattle.std.proofs.lemmas.List.{length-replicate}
use Rattle.ssh_packet.specs.Sealing.{sealed_packet, moved_on}
use Rattle.ssh_packet.proofs.Framing.{widened, packet_behind, item_behind, part_behind}
use Rattle.ssh_packet.proofs.Padding.{padded_so}
use Rattle.ssh_packet.proofs.sealing.seal_behind.Goals as goal

pub returns-clause-ok : goal.returns-clause-ok
returns-clause-ok g c =
    let p = c.padding_length-padding.result in
    let t = c.tag_len-tag_len.result in
    let size : vec_len c.reserve.new.self ≡ length c.args.out.now.items = omega (arith, c.reserve.new.self.ok.0, ap length c.in_ok-reserve.ensures.items) in
    let total : c.len-end.result + p + t ≡ length c.args.out.now.items + (p + t) = omega (arith, c.len-end.ensures, c.args.out.now.ok.0) in
    let wide : c.resize.new.self.items ≡ c.args.out.now.items ++ replicate (p + t) 0 = widened c.args.out.now.items c.resize.new.self.items (p + t) (c.len-end.result + p + t) (vec_len c.reserve.new.self)
    (c.in_ok-resize.ensures.items ∙ ap (λ b. take (c.len-end.result + p + t) b ++ replicate (c.len-end.result + p + t - vec_len c.reserve.new.self) 0) c.in_ok-reserve.ensures.items) size total in
    let value : c.deref_mut.result.now ≡ c.resize.new.self.items = search rules in
    let whole : c.resize.new.self.len ≡ length c.deref_mut.result.now = omega (arith, c.resize.new.self.ok.0, ap length value) in
    let room : c.args.start + 5 ≤ length c.args.out.now.items = omega (arith, c.requires.room, c.args.out.now.ok.0) in
    let long : length c.seal_in_place.new.packet ≡ length c.deref_mut.result.now - c.args.start = search rules in
    packet_behind c.args.out.now.items c.deref_mut.result.now c.resize.new.self.items c.seal_in_place.new.packet (replicate (p + t) 0) c.args.start c.resize.new.self.len (value ∙ wide) whole (omega (arith, room)) long
    ∙ ap (λ b. take c.args.start c.args.out.now.items ++ b) (c.seal_in_place.ensures.packet ∙ ap (λ i. sealed_packet (g.K.SealingKey.sealing c.args.key.now) c.args.seqn i)
    (item_behind (g.K.SealingKey.sealing c.args.key.now) c.args.out.now.items c.deref_mut.result.now (replicate (p + t) 0) (take (length c.deref.result.now - (c.args.start + 5)) (drop (c.args.start + 5) c.deref.result.now)) c.args.start p t (g.R.Rng.stream c.args.rng.now) (value ∙ wide) (length-replicate (p + t) 0) room (part_behind c.args.out.now.items c.deref.result.now (c.args.start + 5) (search rules)) c.padding_length-padding.ensures.value))

pub returns-clause-moved : goal.returns-clause-moved
returns-clause-moved g c =
    let p = c.padding_length-padding.result in
    let t = c.tag_len-tag_len.result in
    let size : vec_len c.reserve.new.self ≡ length c.args.out.now.items = omega (arith, c.reserve.new.self.ok.0, ap length c.in_ok-reserve.ensures.items) in
    let total : c.len-end.result + p + t ≡ length c.args.out.now.items + (p + t) = omega (arith, c.len-end.ensures, c.args.out.now.ok.0) in
    let wide : c.resize.new.self.items ≡ c.args.out.now.items ++ replicate (p + t) 0 = widened c.args.out.now.items c.resize.new.self.items (p + t) (c.len-end.result + p + t) (vec_len c.reserve.new.self)
    (c.in_ok-resize.ensures.items ∙ ap (λ b. take (c.len-end.result + p + t) b ++ replicate (c.len-end.result + p + t - vec_len c.reserve.new.self) 0) c.in_ok-reserve.ensures.items) size total in
    let value : c.deref_mut.result.now ≡ c.resize.new.self.items = search rules in
    let room : c.args.start + 5 ≤ length c.args.out.now.items = omega (arith, c.requires.room, c.args.out.now.ok.0) in
    c.seal_in_place.ensures.moved ∙ ap (λ i. moved_on (g.K.SealingKey.sealing c.args.key.now) i)
    (item_behind (g.K.SealingKey.sealing c.args.key.now) c.args.out.now.items c.deref_mut.result.now (replicate (p + t) 0) (take (length c.deref.result.now - (c.args.start + 5)) (drop (c.args.start + 5) c.deref.result.now)) c.args.start p t (g.R.Rng.stream c.args.rng.now) (value ∙ wide) (length-replicate (p + t) 0) room (part_behind c.args.out.now.items c.deref.result.now (c.args.start + 5) (search rules)) c.padding_length-padding.ensures.value)

pub returns-clause-padded : goal.returns-clause-padded
returns-clause-padded g c some =
    padded_so (g.K.SealingKey.sealing c.args.key.now) (drop (c.args.start + 5) c.args.out.now.items) (take (length c.deref.result.now - (c.args.start + 5)) (drop (c.args.start + 5) c.deref.result.now)) c.padding_length-padding.result (g.R.Rng.stream c.args.rng.now)
    (part_behind c.args.out.now.items c.deref.result.now (c.args.start + 5) (search rules)) c.padding_length-padding.ensures.value c.seal_in_place.ensures.size
