use Rattle.std.proofs.Common.{ℕ, [], ◌∷◌, ◌++◌, ap, ◌∙◌, refl, arith, replicate, length, ◌+◌, ◌-◌}
use Rattle.std.proofs.lemmas.Bool.Decides.{nat_tests}
use Rattle.ssh_modp.proofs.Messages.{has_room, is_message}
use Rattle.ssh_modp.proofs.rsa.encoded.Goals as goal

pub returns-clause-message : goal.returns-clause-message
returns-clause-message c =
    let digest = c.as_bytes-digest.ensures.value ∙ c.digest_of-digest.ensures in
    let room = c.if-size-used.false in
    let count : ℕ = c.args.size - (length c.info_of-info.result.now + length c.as_bytes-digest.result.now) - 3 in (
      has_room c.args.hash c.args.text.now c.info_of-info.result.now c.as_bytes-digest.result.now c.args.size c.info_of-info.ensures digest (grind (arith, nat_tests)),
      c.in_ok-extend_from_slice-3.ensures.items ∙ ap (λ t. t ++ c.as_bytes-digest.result.now)
          (c.in_ok-extend_from_slice-2.ensures.items ∙ ap (λ t. t ++ c.info_of-info.result.now)
          (c.in_ok-push.ensures.items ∙ ap (λ t. t ++ 0 ∷ [])
          (c.in_ok-put_ones.ensures ∙ ap (λ t. t ++ replicate count 255)
          (c.in_ok-extend_from_slice.ensures.items ∙ ap (λ t. t ++ 0 ∷ 1 ∷ []) c.new-message.ensures.items))))
          ∙ is_message c.args.hash c.args.text.now c.info_of-info.result.now c.as_bytes-digest.result.now c.args.size count c.info_of-info.ensures digest refl,
    )
