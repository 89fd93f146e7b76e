use Rattle.std.proofs.Common.{◌≡◌, ◌+◌, ◌-◌, arith, refl}
use Rattle.ssh_aes.specs.Held.{keys_left}
use Rattle.ssh_aes.specs.Keys.{key_in}
use Rattle.ssh_aes.proofs.Ciphering.{rounds_begun, rounds_more, rounds_ended}
use Rattle.ssh_aes.proofs.encryption.encrypt.Goals as goal

pub loop-round-init : goal.loop-round-init
loop-round-init c = rounds_begun c.args.words c.args.keys.now c.args.block.now c.with_key.new.block c.with_key.ensures

pub loop-round-preserved : goal.loop-round-preserved
loop-round-preserved c = rounds_more c.args.words c.loop-round.round c.args.keys.now c.args.block.now c.loop-round.state c.round_of.new.state (omega arith) (omega arith) c.loop-round.invariant c.round_of.ensures

pub returns : goal.returns
returns c =
    let e : c.loop-round.round - 1 ≡ c.args.words + 5 = omega arith in
    rounds_ended c.args.words c.loop-round.round c.args.keys.now (key_in c.args.words (keys_left c.args.keys.now)) c.args.block.now c.loop-round.state c.last_round_of.new.state e c.requires refl c.told-block c.fits-block c.loop-round.invariant c.last_round_of.ensures
