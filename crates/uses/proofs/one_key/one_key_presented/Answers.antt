use Rattle.uses.proofs.OneKeys.{one_key_presented}
use Rattle.uses.proofs.one_key.one_key_presented.Goals as goal

pub returns : goal.returns
returns c = one_key_presented
