use Rattle.std.proofs.Common.{◌≡◌, ◌/◌, ◌*◌, ◌-◌, length, drop, arith, refl, sym, ap, ◌∙◌}
use Rattle.ssh_aes.specs.Aes.{inverse_aes}
use Rattle.ssh_aes.specs.Modes.{block_sum}
use Rattle.ssh_aes.proofs.Schedules.{block-same}
use Rattle.ssh_aes.proofs.Inverses.{block-block}
use Rattle.ssh_aes.proofs.Chaining.{unchained_text-more, last_block-rest, unchained_text-done, last_block-done, inverse_aes-take}
use Rattle.ssh_aes.proofs.cbc.unchain.Goals as goal

pub loop-k-init : goal.loop-k-init
loop-k-init c = let e : length c.args.bytes.now / 16 - 0 ≡ length c.args.bytes.now / 16 = omega arith in record { text = rw e refl; last = rw e refl; long = c.told-last; bytes = c.fits-last }

pub loop-k-preserved : goal.loop-k-preserved
loop-k-preserved c =
    let k = c.loop-k.k in
    let b = c.loop-k.bytes in
    let n = length c.args.bytes.now / 16 in
    let key = c.args.aes.now in
    let v = c.add_block.new.sum in
    let g = c.block_at-cipher_block.ensures.cut in
    let w = c.decrypt_block.ensures ∙ ap (inverse_aes key) g ∙ inverse_aes-take key (drop (16 * k) b) in
    let e = c.add_block.ensures ∙ ap (λ x. block_sum x c.loop-k.last) w ∙ ap (block_sum (inverse_aes key (drop (16 * k) b))) (sym (block-same c.loop-k.last c.loop-k.invariant.long c.loop-k.invariant.bytes)) in
    let p = unchained_text-more key c.loop-k.last b c.block_at-cipher_block.result v _ k n (omega arith) (omega arith) c.add_block.array_long e g c.loop-k.invariant.text in
    let q = last_block-rest c.loop-k.last b c.block_at-cipher_block.result v _ k n (omega arith) (omega arith) c.add_block.array_long g c.loop-k.invariant.last in
    let a = block-block (drop (16 * k) b) in
    record { text = rw c.put_block.ensures p; last = rw c.put_block.ensures q; long = ap length c.block_at-cipher_block.ensures.whole ∙ a.length_is; bytes = rw c.block_at-cipher_block.ensures.whole a.bytes }

pub returns-clause-text : goal.returns-clause-text
returns-clause-text c = unchained_text-done c.args.aes.now c.loop-k.last c.loop-k.bytes _ c.loop-k.k (length c.args.bytes.now / 16) (omega arith) c.loop-k.invariant.text

pub returns-clause-last : goal.returns-clause-last
returns-clause-last c = last_block-done c.loop-k.last _ _ c.loop-k.k (length c.args.bytes.now / 16) (omega arith) c.loop-k.invariant.last
