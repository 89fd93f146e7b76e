use Rattle.std.proofs.Common.{◌≡◌, ◌/◌, ◌*◌, ◌-◌, length, drop, arith, refl, sym, ap, ◌∙◌}
use Rattle.ssh_aes.specs.Aes.{aes, block}
use Rattle.ssh_aes.specs.Modes.{block_sum, last_block}
use Rattle.ssh_aes.proofs.Schedules.{block-same}
use Rattle.ssh_aes.proofs.Inverses.{aes-block}
use Rattle.ssh_aes.proofs.Chaining.{chained_text-more, last_block-more, chained_text-done}
use Rattle.ssh_aes.proofs.cbc.chain.Goals as goal

pub loop-k-init : goal.loop-k-init
unfolding last_block
loop-k-init c = let e : length c.args.bytes.now / 16 - 0 ≡ length c.args.bytes.now / 16 = omega arith in record { text = rw e refl; last = refl; long = c.told-last; bytes = c.fits-last }

pub loop-k-preserved : goal.loop-k-preserved
loop-k-preserved c =
    let k = c.loop-k.k in
    let b = c.loop-k.bytes in
    let n = length c.args.bytes.now / 16 in
    let v = c.encrypt_block.new.block in
    let e = c.encrypt_block.ensures ∙ ap (aes c.args.aes.now) (c.add_block.ensures ∙ ap (λ x. block_sum x c.loop-k.last) c.block_at-block.ensures.whole ∙ ap (block_sum (block (drop (16 * k) b))) (sym (block-same c.loop-k.last c.loop-k.invariant.long c.loop-k.invariant.bytes))) in
    let p = chained_text-more c.args.aes.now c.loop-k.last b v _ k n (omega arith) (omega arith) e c.loop-k.invariant.text in
    let q = last_block-more c.args.last.now k b v c.encrypt_block.array_long (omega arith) in
    let a = aes-block c.args.aes.now c.add_block.new.sum in
    record { text = rw c.put_block.ensures p; last = rw c.put_block.ensures q; long = c.encrypt_block.array_long; bytes = rw c.encrypt_block.ensures a.bytes }

pub returns-clause-text : goal.returns-clause-text
returns-clause-text c = chained_text-done c.args.aes.now c.loop-k.last c.loop-k.bytes _ c.loop-k.k (length c.args.bytes.now / 16) (omega arith) c.loop-k.invariant.text
