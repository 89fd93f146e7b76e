use Rattle.std.proofs.Common.{arith}
use Rattle.ssh_aes.proofs.Squares.{split-is, parts-of}
use Rattle.ssh_aes.proofs.factors.Factor.new.Goals as goal

pub new-requires-3 : goal.new-requires-3
new-requires-3 c =
    let p = split-is c.args.whole c.halves.result.0 c.halves.result.1 (omega arith) c.halves.ensures.low c.halves.ensures.high in
    p.both

pub invariant_of-result : goal.invariant_of-result
invariant_of-result c =
    let p = split-is c.args.whole c.halves.result.0 c.halves.result.1 (omega arith) c.halves.ensures.low c.halves.ensures.high in
    parts-of c.args.whole c.halves.result.0 c.halves.result.1 c.new.result c.new-2.result c.new-3.result p c.new.ensures c.new-2.ensures c.new-3.ensures
