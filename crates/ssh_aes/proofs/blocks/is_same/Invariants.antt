use Rattle.ssh_aes.proofs.Differing.{IsGathered}
use Rattle.ssh_aes.proofs.blocks.is_same.Given as goal

abbrev pub invariant-loop-i : goal.invariant-loop-i
invariant-loop-i l = IsGathered l.difference l.one l.other l.i
