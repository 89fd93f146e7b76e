use Rattle.std.proofs.Common.{refl, inr}
use Rattle.ssh_negotiate.proofs.borrowed.refusal_of_read.Goals as goal

pub returns : goal.returns
returns g c = inr (c.in-Ok.ours, c.in-Ok-to_list.theirs, refl, c.in-Ok.ensures, c.in-Ok-to_list.ensures.ok)
