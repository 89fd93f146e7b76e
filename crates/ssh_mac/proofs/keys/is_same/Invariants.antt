use Rattle.ssh_mac.proofs.Differing.{IsGathered}
use Rattle.ssh_mac.proofs.keys.is_same.Given as goal

abbrev pub invariant-loop-i : goal.invariant-loop-i
invariant-loop-i l = IsGathered l.difference l.tag l.given l.i
