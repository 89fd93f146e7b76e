use Rattle.std.proofs.Common.{rules, ◌≡◌, ◌-◌, ◌++◌, ◌∙◌, ap, subst, arith, length, take, drop}
use borrow.Rule.Slice.PartMut.{put_mid}
use Rattle.ssh_wire.specs.Forms.{AreBytes}
use Rattle.ssh_packet.specs.Sealing.{framed_text, padding_drawn}
use Rattle.ssh_packet.proofs.Framing.{framed_made, bytes_behind}
use Rattle.ssh_packet.proofs.sealing.frame.Goals as goal

pub returns-clause-text : goal.returns-clause-text
returns-clause-text g c =
    let part : length c.fill_padding.new.padding_out ≡ c.args.padding = search rules in
    let drawn : c.fill_padding.new.padding_out ≡ (padding_drawn (g.K.SealingKey.sealing c.args.key.now) c.args.padding (g.R.Rng.stream c.args.rng.now)).0 = search rules in
    framed_made c.args.text.now c.copy_from_slice.new.self c.fill_padding.new.padding_out c.to_be_bytes-length.result c.args.padding c.requires.room part c.to_be_bytes-length.ensures c.copy_from_slice.ensures.after
    ∙ ap (λ p. framed_text (record { payload = take (length c.args.text.now - 5 - c.args.padding) (drop 5 c.args.text.now); padding = p })) drawn

pub returns-clause-bytes : goal.returns-clause-bytes
returns-clause-bytes g c =
    let drawn : c.fill_padding.new.padding_out ≡ (padding_drawn (g.K.SealingKey.sealing c.args.key.now) c.args.padding (g.R.Rng.stream c.args.rng.now)).0 = search rules in
    let whole : AreBytes (put_mid (length c.args.text.now - c.args.padding) (length (c.copy_from_slice.new.self ++ drop 5 c.args.text.now) - (length c.args.text.now - c.args.padding)) (c.copy_from_slice.new.self ++ drop 5 c.args.text.now) c.fill_padding.new.padding_out) = λ i. omega (arith, c.type_inv.text i) in
    subst AreBytes drawn (bytes_behind (length c.args.text.now - c.args.padding) (c.copy_from_slice.new.self ++ drop 5 c.args.text.now) c.fill_padding.new.padding_out whole)
