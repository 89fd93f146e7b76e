use Rattle.std.proofs.Common.{refl}
use Rattle.ssh_blocks.proofs.Taking.{taken_none}
use Rattle.ssh_blocks.proofs.judge.PacketJudge.new.Goals as goal

pub returns : goal.returns
returns c = λ side config kind host r. taken_none side config kind host c.args.steps.now _ r c.order_of.ensures refl refl refl
