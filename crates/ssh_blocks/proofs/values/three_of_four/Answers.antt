use Rattle.ssh_blocks.proofs.Holding.{four_are}
use Rattle.ssh_blocks.proofs.values.three_of_four.Goals as goal

pub returns-in-len4-clause-some : goal.returns-in-len4-clause-some
returns-in-len4-clause-some c =
    four_are c.args.block.now c.as_slice.result.now c.as_slice-in-len4.result.now c.as_slice-in-len4-2.result.now c.first-item.result c.second-item.result c.third-item.result
    c.in-len4.len_at_least c.in-len4.len_below c.first-item.is c.second-item.is c.third-item.is c.as_slice.ensures c.as_slice-in-len4.ensures c.as_slice-in-len4-2.ensures
