use Rattle.uses.proofs.Settling.{all_delivered}
use Rattle.uses.proofs.settled.settled_delivers.Goals as goal

pub returns : goal.returns
returns g c = λ client server steps report link. all_delivered _ _ _ client server steps report link
