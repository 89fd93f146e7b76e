use Rattle.std.proofs.Common.{◌≡◌, slice_index, arith}
use Rattle.ssh_aes.specs.Held.{key_byte}
use Rattle.ssh_aes.proofs.Holding.{IsHeld-none, IsHeld-more, key_bytes-at, held_all}
use Rattle.ssh_aes.proofs.keys.held.Goals as goal

pub loop-round-init : goal.loop-round-init
loop-round-init c = IsHeld-none _ _ _ c.told-keys

pub loop-round-preserved : goal.loop-round-preserved
loop-round-preserved c =
    let w = IsHeld-more key_byte (slice_index c.args.keys.now) c.loop-round.all c.held_key-key.result c.loop-round.round (omega arith) c.put_key.ensures.long (λ j h. key_bytes-at c.held_key-key.result c.args.keys.now c.loop-round.round j c.held_key-key.ensures h) c.loop-round.invariant in
    rw c.put_key.ensures.put w

pub returns : goal.returns
returns c = held_all c.args.keys.now c.loop-round.all c.told-keys (let e : c.loop-round.round ≡ 15 = omega arith in rw e at c.loop-round.invariant)
