use Rattle.ssh_blocks.proofs.Seen.{broken_part}
use Rattle.ssh_blocks.proofs.block.OpenBlock.whole.Goals as goal

pub returns-then-self-clause-none : goal.returns-then-self-clause-none
returns-then-self-clause-none c = λ e side kind later items h. broken_part side kind later items c.args.self.now c.if-self.true h
