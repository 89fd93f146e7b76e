use Rattle.std.proofs.Common.{◌≡◌, ◌+◌, ◌-◌, arith}
use Rattle.ssh_aes.proofs.Ciphering.{rounds_begun, rounds_more, rounds_ended}
use Rattle.ssh_aes.proofs.encryption.Encryption.encrypt_two.Goals as goal

pub loop-round-init : goal.loop-round-init
loop-round-init c = record { one = rounds_begun c.self.inside.words c.self.inside.keys c.args.first.now c.with_key.new.block c.with_key.ensures; two = rounds_begun c.self.inside.words c.self.inside.keys c.args.second.now c.with_key-2.new.block c.with_key-2.ensures }

pub loop-round-preserved : goal.loop-round-preserved
loop-round-preserved c = record { one = rounds_more c.self.inside.words c.loop-round.round c.self.inside.keys c.args.first.now c.loop-round.one c.round_of.new.state (omega arith) (omega arith) c.loop-round.invariant.one c.round_of.ensures; two = rounds_more c.self.inside.words c.loop-round.round c.self.inside.keys c.args.second.now c.loop-round.two c.round_of-in-loop-round.new.state (omega arith) (omega arith) c.loop-round.invariant.two c.round_of-in-loop-round.ensures }

pub returns-clause-first : goal.returns-clause-first
returns-clause-first c =
    let e : c.loop-round.round - 1 ≡ c.self.inside.words + 5 = omega arith in
    rounds_ended c.self.inside.words c.loop-round.round c.self.inside.keys c.args.self.now c.args.first.now c.loop-round.one c.last_round_of.new.state e c.self.invariant c.self.view_is c.told-first c.fits-first c.loop-round.invariant.one c.last_round_of.ensures

pub returns-clause-second : goal.returns-clause-second
returns-clause-second c =
    let e : c.loop-round.round - 1 ≡ c.self.inside.words + 5 = omega arith in
    rounds_ended c.self.inside.words c.loop-round.round c.self.inside.keys c.args.self.now c.args.second.now c.loop-round.two c.last_round_of-2.new.state e c.self.invariant c.self.view_is c.told-second c.fits-second c.loop-round.invariant.two c.last_round_of-2.ensures
