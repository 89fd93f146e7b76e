use Rattle.std.proofs.Common.{◌+◌, ◌*◌, ◌/◌, length, ap, ◌∙◌}
use Rattle.std.specs.Prelude.{bit_xor}
use Rattle.ssh_aes.specs.Field.{block_product}
use Rattle.ssh_aes.specs.Gcm.{element}
use Rattle.ssh_aes.proofs.Sealing.{cut-element, hash_of_blocks-more, hash_of_blocks-done}
use Rattle.ssh_aes.proofs.hash.ones_after.Goals as goal

pub loop-k-preserved : goal.loop-k-preserved
loop-k-preserved c =
    let b = c.args.bytes.now in
    let e = c.from_block.ensures ∙ ap element c.zero_filled_block.ensures ∙ cut-element b (16 * c.loop-k.k) in
    let v = c.product-hash.ensures ∙ ap (λ x. block_product (bit_xor c.loop-k.hash x) c.args.key.now) e in
    hash_of_blocks-more c.args.key.now c.loop-k.hash c.product-hash.result _ b c.loop-k.k ((length b + 15) / 16) c.loop-k-test.true v c.loop-k.invariant

pub returns : goal.returns
returns c = hash_of_blocks-done c.args.key.now c.loop-k.hash _ c.args.bytes.now c.loop-k.k ((length c.args.bytes.now + 15) / 16) c.loop-k-test.false c.loop-k.invariant
