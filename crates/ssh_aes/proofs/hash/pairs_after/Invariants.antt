use Rattle.std.proofs.Common.{◌≡◌, ◌-◌, ◌*◌, ◌/◌, length, drop}
use Rattle.ssh_aes.specs.Gcm.{hash_of_blocks, blocks}
use Rattle.ssh_aes.proofs.hash.pairs_after.Given as goal

abbrev pub invariant-loop-k : goal.invariant-loop-k
invariant-loop-k l =
    let n = length l.bytes / 32 in
    hash_of_blocks l.key l.hash (blocks (2 * n - 2 * l.k) (drop (16 * (2 * l.k)) l.bytes)) ≡ hash_of_blocks l.key l.state (blocks (2 * n) l.bytes)
