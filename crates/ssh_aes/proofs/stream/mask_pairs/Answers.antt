use Rattle.std.proofs.Common.{◌≡◌, ◌≢◌, ◌+◌, ◌*◌, length, arith, refl, ap, ◌∙◌}
use Rattle.ssh_aes.specs.Aes.{aes}
use Rattle.ssh_aes.specs.Modes.{counter_text, stream_block}
use Rattle.ssh_aes.proofs.Streams.{block_masked}
use Rattle.ssh_aes.proofs.Written.{IsWritten-none, IsWritten-all}
use Rattle.ssh_aes.proofs.stream.mask_pairs.Goals as goal

pub loop-pair-init : goal.loop-pair-init
loop-pair-init c = IsWritten-none _ _

pub loop-pair-preserved : goal.loop-pair-preserved
unfolding stream_block
loop-pair-preserved c =
    let k = 2 * c.loop-pair.pair in
    let now = c.loop-pair.bytes in
    let old = c.args.bytes.now in
    let key = c.args.aes.now in
    let iv = c.args.iv.now in
    let place = c.args.place in
    let e : 16 * (2 * (c.loop-pair.pair + 1)) ≡ 16 * (k + 1 + 1) = omega arith in
    let some : length old ≢ 0 = omega arith in
    let s = c.encrypt_two.ensures.first ∙ ap (λ x. aes key x) c.counter_at-one.ensures in
    let t = c.encrypt_two.ensures.second ∙ ap (λ x. aes key x) c.counter_at-two.ensures in
    let w = block_masked key iv place k now old c.encrypt_two.new.first c.mask_block.new.bytes (omega arith) (c.requires.place some) s c.mask_block.ensures.masked c.loop-pair.invariant in
    let v = block_masked key iv place (k + 1) c.mask_block.new.bytes old c.encrypt_two.new.second c.mask_block-in-loop-pair.new.bytes (omega arith) (c.requires.place some) t c.mask_block-in-loop-pair.ensures.masked w in
    rw e v

pub returns : goal.returns
unfolding counter_text
returns c =
    let e : 16 * (2 * c.loop-pair.pair) ≡ length c.args.bytes.now = omega arith in
    IsWritten-all _ _ _ (length c.args.bytes.now) refl (rw e at c.loop-pair.invariant)
