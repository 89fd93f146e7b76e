use Rattle.std.proofs.Common.{◌≡◌, ◌++◌, take}
use Rattle.std.specs.Prelude.{filter}
use Rattle.ssh_negotiate.specs.Advertised.{fits}
use Rattle.ssh_negotiate.proofs.offers.add_fitting.Given as goal

abbrev pub invariant-loop-algorithm : goal.invariant-loop-algorithm
invariant-loop-algorithm l = l.names.items ≡ l.fn.names.items ++ filter (fits l.certificate) (take l.algorithm-index l.preferred)
