use Rattle.std.proofs.Common.{arith}
use Rattle.ssh_aes.proofs.Reducing.{reduced-left}
use Rattle.ssh_aes.proofs.factors.reduced.Goals as goal

pub returns : goal.returns
returns c = reduced-left c.args.high c.args.low (omega arith) (omega arith)
