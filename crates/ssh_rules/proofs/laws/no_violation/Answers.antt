use Rattle.ssh_rules.proofs.pair.StrictOrder.{no_violation}
use Rattle.ssh_rules.proofs.laws.no_violation.Goals as goal

pub returns : goal.returns
returns g c = λ setup a b h i gr j side log theirs st peer stage item more early owes inside next. no_violation _ _ side log theirs st peer stage item more early owes inside next
