-- The bytes that were copied, and the zeros that stood behind them.
use Rattle.std.proofs.Common.{◌<◌, ◌≤◌, length, ◌∙◌, ap, arith}
use Rattle.ssh_mac.specs.Digests.{block_length}
use Rattle.ssh_mac.specs.Zeros.{zeros}
use Rattle.ssh_mac.proofs.BlockKey.{long_key, other_key}
use Rattle.ssh_mac.proofs.hmac.block_of.Goals as goal

pub returns-then-key-block_len : goal.returns-then-key-block_len
unfolding zeros
returns-then-key-block_len c =
    let long : block_length c.args.kind < length c.args.key.now = omega arith in
    long_key c.args.kind c.args.key.now c.as_bytes-bytes.result.now _ long (c.as_bytes-bytes.ensures.value ∙ c.digest_of_key-hash.ensures) c.copy_from_slice.ensures.after
    (omega (arith, ap length c.as_bytes-bytes.ensures.value, c.as_bytes-bytes.ensures.short))

pub returns-else-key-block_len : goal.returns-else-key-block_len
unfolding zeros
returns-else-key-block_len c =
    let short : length c.args.key.now ≤ block_length c.args.kind = omega arith in
    other_key c.args.kind c.args.key.now _ short c.copy_from_slice-else-key-block_len.ensures.after
