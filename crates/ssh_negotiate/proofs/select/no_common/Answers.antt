use Rattle.std.proofs.Common.{refl, inr}
use Rattle.ssh_negotiate.proofs.select.no_common.Goals as goal

pub returns : goal.returns
returns g c = inr (c.in-Ok.ours, c.in-Ok-texts_of.theirs, refl, c.in-Ok.ensures, c.in-Ok-texts_of.ensures)
