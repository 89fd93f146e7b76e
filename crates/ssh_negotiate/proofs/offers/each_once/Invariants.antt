use Rattle.std.proofs.Common.{◌≡◌, take}
use Rattle.ssh_negotiate.specs.Advertised.{each_once}
use Rattle.ssh_negotiate.proofs.offers.each_once.Given as goal

abbrev pub invariant-loop-name : goal.invariant-loop-name
invariant-loop-name l = l.once.items ≡ each_once (take l.name-index l.names)
