use Rattle.std.proofs.Common.{ap, ◌∙◌, arith}
use Rattle.ssh_aes.specs.Field.{block_modulus, remainder}
use Rattle.ssh_aes.proofs.Karatsuba.{joined_value}
use Rattle.ssh_aes.proofs.factors.joined.Goals as goal

pub returns : goal.returns
returns c =
    c.reduced.ensures
    ∙ ap (remainder 128 block_modulus 128) (joined_value c.args.low.0 c.args.low.1 c.args.high.0 c.args.high.1 c.args.both.0 c.args.both.1 c.requires.low c.requires.high c.requires.both (omega arith) (omega arith) (omega arith))
