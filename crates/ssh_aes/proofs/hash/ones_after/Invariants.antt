use Rattle.std.proofs.Common.{◌≡◌, ◌+◌, ◌-◌, ◌*◌, ◌/◌, length, drop}
use Rattle.ssh_aes.specs.Gcm.{hash_of_blocks, blocks}
use Rattle.ssh_aes.proofs.hash.ones_after.Given as goal

abbrev pub invariant-loop-k : goal.invariant-loop-k
invariant-loop-k l =
    let n = (length l.bytes + 15) / 16 in
    hash_of_blocks l.key l.hash (blocks (n - l.k) (drop (16 * l.k) l.bytes)) ≡ hash_of_blocks l.key l.state (blocks n l.bytes)
