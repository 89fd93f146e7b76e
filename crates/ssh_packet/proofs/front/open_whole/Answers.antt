use Rattle.std.proofs.Common.{rules, ◌≡◌, ◌+◌, ◌∙◌, take, drop, length, ap, sym, subst, refl, true, false, ◌⊎◌, arith}
use Rattle.std.proofs.lemmas.Result.{err_from_is_err_and}
use Rattle.ssh_packet.specs.Front.{opened_past, refused_past}
use Rattle.ssh_packet.specs.Sealing.{tag_size}
use Rattle.ssh_packet.specs.declared.error.OpenError.TheVariants.{PacketSize, IndexOutOfBounds}
use Rattle.ssh_packet.proofs.Finding.{wrong_tag_refused, opened_text, opens_part, key_moved, wrong_tag_leaves, bad_padding_leaves, size_only}
use Rattle.ssh_packet.proofs.front.open_whole.Goals as goal

pub returns-in_err-open_in_place : goal.returns-in_err-open_in_place
returns-in_err-open_in_place g c =
    let s = g.K.OpeningKey.opening c.args.key.now in
    let p = err_from_is_err_and c.from_residual.result c.from_residual.ensures.1 in
    let packet : c.split_at_mut-packet.result.0.now ≡ take (4 + c.args.size) c.args.bytes.now = search rules in
    let behind : c.split_at_mut-packet.result.1.now ≡ drop (4 + c.args.size) c.args.bytes.now = search rules in
    let refused = wrong_tag_refused s c.args.number c.args.size c.tag_len-tag_len.result p.0 c.split_at_mut-packet.result.0.now c.split_at_mut-packet.result.1.now c.args.bytes.now packet behind c.tag_len-tag_len.ensures.value (p.2 ∙ c.in_err-open_in_place.ensures.causes) (λ e. let h : false ≡ true = c.in_err-open_in_place.ensures.right.1 e in cc) in
    rw p.1 (refused.0, refused.1, wrong_tag_leaves s p.0 (take (4 + c.args.size) c.args.bytes.now) _ (p.2 ∙ c.in_err-open_in_place.ensures.causes) (c.in_err-open_in_place.ensures.refused_state ∙ ap (refused_past s) packet))

pub returns-in_err-payload : goal.returns-in_err-payload
returns-in_err-payload g c =
    let s = g.K.OpeningKey.opening c.args.key.now in
    let p = err_from_is_err_and c.from_residual-in_err-payload.result c.from_residual-in_err-payload.ensures.1 in
    let packet : c.split_at_mut-packet.result.0.now ≡ take (4 + c.args.size) c.args.bytes.now = search rules in
    let behind : c.split_at_mut-packet.result.1.now ≡ drop (4 + c.args.size) c.args.bytes.now = search rules in
    let found = opened_text s c.args.number c.args.size c.tag_len-tag_len.result c.split_at_mut-packet.result.0.now c.open_in_place.new.packet c.split_at_mut-packet.result.1.now c.args.bytes.now packet behind c.tag_len-tag_len.ensures.value (c.in_ok-open_in_place.ensures.right.0 refl) c.in_ok-open_in_place.ensures.text in
    let refused = c.in_err-payload.ensures.1 (drop (tag_size s) c.split_at_mut-packet.result.1.now) in
    let why : (p.0 ≡ IndexOutOfBounds) ⊎ (p.0 ≡ PacketSize c.args.size) = subst (λ e. (e ≡ IndexOutOfBounds) ⊎ (e ≡ PacketSize c.args.size)) (sym p.2) c.in_err-payload.ensures.0 in
    rw p.1 ((refused.0, p.2 ∙ refused.1, found ∙ refused.2), size_only c.args.size p.0 why, bad_padding_leaves s c.args.size p.0 (take (4 + c.args.size) c.args.bytes.now) _ why (c.in_ok-open_in_place.ensures.state ∙ ap (opened_past s) packet))

pub returns : goal.returns
returns g c =
    let s = g.K.OpeningKey.opening c.args.key.now in
    let t = c.tag_len-tag_len.result in
    let packet : c.split_at_mut-packet.result.0.now ≡ take (4 + c.args.size) c.args.bytes.now = search rules in
    let behind : c.split_at_mut-packet.result.1.now ≡ drop (4 + c.args.size) c.args.bytes.now = search rules in
    let size : length c.open_in_place.new.packet ≡ 4 + c.args.size = search rules in
    let found = opened_text s c.args.number c.args.size t c.split_at_mut-packet.result.0.now c.open_in_place.new.packet c.split_at_mut-packet.result.1.now c.args.bytes.now packet behind c.tag_len-tag_len.ensures.value (c.in_ok-open_in_place.ensures.right.0 refl) c.in_ok-open_in_place.ensures.text in
    let moved = c.in_ok-open_in_place.ensures.state ∙ (ap (opened_past s) packet ∙ key_moved s c.args.bytes.now (4 + c.args.size) (4 + c.args.size + t) (omega (arith, c.tag_len-tag_len.ensures.value)) (omega (arith, c.tag_len-tag_len.ensures.value, c.requires.whole))) in (
      opens_part s _ c.args.bytes.now c.open_in_place.new.packet c.split_at_mut-packet.result.1.now c.args.size c.in_ok-payload.payload t c.tag_len-tag_len.ensures.value (omega (arith, c.tag_len-tag_len.ensures.value, c.requires.whole)) size behind c.in_ok-payload.ensures.0 (found ∙ c.in_ok-payload.ensures.1 (drop (tag_size s) c.split_at_mut-packet.result.1.now)),
      moved,
    )
