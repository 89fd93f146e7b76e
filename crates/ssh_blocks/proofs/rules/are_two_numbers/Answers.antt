use Rattle.ssh_wire.specs.Forms.{magnitude}
use Rattle.ssh_blocks.proofs.Spelled.{numbers_short}
use Rattle.ssh_blocks.proofs.rules.are_two_numbers.Goals as goal

pub returns-in-None-clause-other : goal.returns-in-None-clause-other
returns-in-None-clause-other c = λ e l two.
    let s = numbers_short c.args.payload.now c.args.message_type l two in
    c.in-None.ensures.again (magnitude two.0) (magnitude two.1) s.0 s.1 s.2
