use Rattle.std.proofs.Common.{ap, ◌∙◌}
use Rattle.ssh_aes.specs.Modes.{block_sum}
use Rattle.ssh_aes.specs.Gcm.{cipher_tag, element_block, hash_key, nonce_stream}
use Rattle.ssh_aes.proofs.Sealing.{hash_of_blocks-tag}
use Rattle.ssh_aes.proofs.gcm.Gcm.tag_of.Goals as goal

pub returns : goal.returns
unfolding cipher_tag
returns c =
    let h = hash_key c.args.self.now in
    let k = c.self.invariant ∙ ap hash_key c.self.view_is in
    rw (c.add_block.ensures, c.to_block-tag.ensures, c.product.ensures, c.from_block-last.ensures, c.lengths.ensures, c.hash_after-front.ensures, c.hash_after.ensures, c.stream.ensures, k)
    (ap (λ x. block_sum (element_block x) (nonce_stream c.args.self.now c.args.nonce.now 1)) (hash_of_blocks-tag h c.args.aad.now c.args.bytes.now))
