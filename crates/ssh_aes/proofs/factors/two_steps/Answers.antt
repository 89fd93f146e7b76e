use Rattle.std.proofs.Common.{arith, ◌∙◌}
use Rattle.ssh_aes.proofs.Squares.{two-steps}
use Rattle.ssh_aes.proofs.factors.two_steps.Goals as goal

pub returns : goal.returns
returns c =
    let s = c.sum_of_two.ensures in
    s.sum ∙ two-steps c.args.key.now c.args.square.now c.args.a c.args.b s.second_short s.first_short (omega arith) c.requires
