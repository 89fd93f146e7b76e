use Rattle.std.proofs.Common.{◌≡◌, arith}
use Rattle.ssh_aes.proofs.Equivalent.{unmixed_byte}
use Rattle.ssh_aes.specs.Held.{inverse_byte, keys_left}
use Rattle.ssh_aes.proofs.Holding.{IsHeld-none, IsHeld-more, inverse_key_bytes-at, unmixed_held}
use Rattle.ssh_aes.proofs.keys.inverse_keys_of.Goals as goal

pub loop-round-init : goal.loop-round-init
loop-round-init c = IsHeld-none _ _ _ c.told-keys

pub loop-round-preserved : goal.loop-round-preserved
loop-round-preserved c =
    let w = IsHeld-more inverse_byte (unmixed_byte (keys_left c.args.keys.now)) c.loop-round.inverse_keys c.unmixed-key.result c.loop-round.round (omega arith) c.put_key.ensures.long (λ j h. inverse_key_bytes-at c.unmixed-key.result (keys_left c.args.keys.now) c.loop-round.round j c.unmixed-key.ensures h) c.loop-round.invariant in
    rw c.put_key.ensures.put w

pub returns : goal.returns
returns c = unmixed_held (keys_left c.args.keys.now) c.loop-round.inverse_keys (let e : c.loop-round.round ≡ 15 = omega arith in rw e at c.loop-round.invariant)
