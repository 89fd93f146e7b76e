-- The states are copied, and the copies go on.
use Rattle.std.proofs.Common.{◌++◌, subst, sym}
use Rattle.ssh_mac.specs.declared.digest.Hasher.{Hasher}
use Rattle.ssh_mac.specs.Hashing.{IsHashing}
use Rattle.ssh_mac.specs.Hmac.{block_key, bytes_xor}
use Rattle.ssh_mac.proofs.BlockKey.{two_digests}
use Rattle.ssh_mac.proofs.hmac.KeyStates.tag.Goals as goal

pub returns : goal.returns
returns c = λ kind key h.
    let inner_block = bytes_xor 0x36 (block_key kind key) in
    let outer_block = bytes_xor 0x5c (block_key kind key) in
    let front = c.args.front.now in
    let rest = c.args.rest.now in
    let inner = subst (λ (x : Hasher). IsHashing x kind inner_block) (sym c.copied-inner.ensures) h.inner_is in
    let outer = subst (λ (x : Hasher). IsHashing x kind outer_block) (sym c.copied-outer.ensures) h.outer_is in
    let hash = c.finalize-hash.ensures kind ((inner_block ++ front) ++ rest) (c.update-2.ensures kind (inner_block ++ front) (c.update.ensures kind inner_block inner)) in
    two_digests kind key front rest c.finalize-hash.result c.as_bytes.result.now c.finalize.result hash c.as_bytes.ensures.value
    (c.finalize.ensures kind _ (c.update-3.ensures kind outer_block outer))
