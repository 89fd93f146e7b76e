use Rattle.std.proofs.Common.{◌≡◌, take, map}
use Rattle.ssh_negotiate.proofs.select.texts_of.Given as goal

abbrev pub invariant-loop-name : goal.invariant-loop-name
invariant-loop-name g l = l.list.items ≡ map g.A.AsName.text (take l.name-index l.names)
