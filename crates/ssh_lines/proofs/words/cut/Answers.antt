use Rattle.std.proofs.Common.{◌≡◌, length, arith, rules}
use Rattle.ssh_lines.proofs.Cutting.{pieces-cut, pieces-none}
use Rattle.ssh_lines.proofs.words.cut.Goals as goal

pub returns-then-b-separator-clause-pieces : goal.returns-then-b-separator-clause-pieces
returns-then-b-separator-clause-pieces c = pieces-cut c.args.separator c.args.text.now c.loop-i.i c.loop-i.invariant (omega arith) (search rules)

pub returns-clause-pieces : goal.returns-clause-pieces
returns-clause-pieces c =
    let end : c.loop-i.i ≡ length c.args.text.now = omega arith in
    pieces-none c.args.separator c.args.text.now (λ k below. c.loop-i.invariant k (omega arith))
