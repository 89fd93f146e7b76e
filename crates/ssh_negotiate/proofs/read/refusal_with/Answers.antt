use Rattle.std.proofs.Common.{refl, inr}
use Rattle.ssh_negotiate.proofs.read.refusal_with.Goals as goal

pub returns-in-Ok : goal.returns-in-Ok
returns-in-Ok g c = inr (c.in-Ok.ours, c.args.peer, refl, c.in-Ok.ensures, refl)
