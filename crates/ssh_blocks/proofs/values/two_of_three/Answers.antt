use Rattle.ssh_blocks.proofs.Holding.{three_are}
use Rattle.ssh_blocks.proofs.values.two_of_three.Goals as goal

pub returns-in-len3-clause-some : goal.returns-in-len3-clause-some
returns-in-len3-clause-some c =
    three_are c.args.block.now c.as_slice.result.now c.as_slice-in-len3.result.now c.first-item.result c.second-item.result
    c.in-len3.len_at_least c.in-len3.len_below c.first-item.is c.second-item.is c.as_slice.ensures c.as_slice-in-len3.ensures
