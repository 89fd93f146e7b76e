use Rattle.std.proofs.Common.{◌≡◌, ◌≢◌, ◌+◌, ◌*◌, length, slice_index, arith, refl, ap, ◌∙◌}
use Rattle.ssh_aes.specs.Modes.{counter_text, block_sum}
use Rattle.ssh_aes.proofs.Streams.{masked_byte, masked_block}
use Rattle.ssh_aes.proofs.Written.{IsWritten-none, IsWritten-block, IsWritten-all}
use Rattle.ssh_aes.proofs.stream.mask_blocks.Goals as goal

pub loop-k-init : goal.loop-k-init
loop-k-init c = IsWritten-none _ _

pub loop-k-preserved : goal.loop-k-preserved
loop-k-preserved c =
    let k = c.loop-k.k in
    let now = c.loop-k.bytes in
    let old = c.args.bytes.now in
    let key = c.args.aes.now in
    let iv = c.args.iv.now in
    let e : 16 * (k + 1) ≡ 16 * k + 16 = omega arith in
    let some : length old ≢ 0 = omega arith in
    let v = c.add_block.ensures ∙ ap (λ x. block_sum x c.stream_at-stream.result) c.block_at-block.ensures.cut in
    let s = c.stream_at-stream.ensures in
    let w = IsWritten-block (masked_byte key iv c.args.place old) now old c.add_block.new.sum (16 * k) (omega arith) c.add_block.array_long
    (λ j h. ap (λ x. slice_index x j) v ∙ masked_block key iv c.args.place k now old c.stream_at-stream.result j h (c.requires.place some) s (c.loop-k.invariant.rest (16 * k + j) (omega arith))) c.loop-k.invariant in
    rw (c.put_block.ensures, e) w

pub returns : goal.returns
unfolding counter_text
returns c =
    let e : 16 * c.loop-k.k ≡ length c.args.bytes.now = omega arith in
    IsWritten-all _ _ _ (length c.args.bytes.now) refl (rw e at c.loop-k.invariant)
