use Rattle.std.proofs.Common.{◌*◌, ◌/◌, length, arith}
use Rattle.ssh_aes.proofs.Sealing.{hash_of_blocks-done}
use Rattle.ssh_aes.proofs.Squares.{hash_of_blocks-two}
use Rattle.ssh_aes.proofs.hash.pairs_after.Goals as goal

pub loop-k-preserved : goal.loop-k-preserved
loop-k-preserved c =
    let b = c.args.bytes.now in
    hash_of_blocks-two c.args.key.now c.loop-k.hash _ _ b c.loop-k.k (length b / 32) (omega arith) c.two_after-hash.ensures c.loop-k.invariant

pub returns : goal.returns
returns c =
    let b = c.args.bytes.now in
    hash_of_blocks-done c.args.key.now c.loop-k.hash _ b (2 * c.loop-k.k) (2 * (length b / 32)) (omega arith) c.loop-k.invariant
