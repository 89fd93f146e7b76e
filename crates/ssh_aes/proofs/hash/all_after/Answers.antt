use Rattle.std.proofs.Common.{◌*◌, ◌/◌, ◌+◌, ◌-◌, ◌≡◌, length, take, drop, arith, refl, ap, ◌∙◌}
use Rattle.std.proofs.lemmas.List.{length-drop, take_all}
use Rattle.ssh_aes.specs.Gcm.{hash_of_blocks, padded_blocks}
use Rattle.ssh_aes.proofs.Squares.{hash_of_blocks-split}
use Rattle.ssh_aes.proofs.hash.all_after.Goals as goal

pub returns : goal.returns
returns c =
    let b = c.args.bytes.now in
    let k = c.args.key.now in
    let n = length b / 32 in
    let rest : take (length b - n * 32) (drop (n * 32) b) ≡ drop (n * 32) b = take_all (length b - n * 32) (drop (n * 32) b) (omega (arith, length-drop (n * 32) b)) in
    c.ones_after.ensures
    ∙ ap (λ s. hash_of_blocks k c.pairs_after-hash.result (padded_blocks s)) rest
    ∙ ap (λ h. hash_of_blocks k h (padded_blocks (drop (n * 32) b))) c.pairs_after-hash.ensures
    ∙ hash_of_blocks-split k c.args.state b n ((length (drop (n * 32) b) + 15) / 16) refl (ap (λ m. (m + 15) / 16) (length-drop (n * 32) b))
