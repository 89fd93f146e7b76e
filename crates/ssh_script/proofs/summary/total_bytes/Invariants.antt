use Rattle.std.proofs.Common.{◌≡◌, ◌+◌, ◌≤◌, length, min}
use Rattle.ssh_script.specs.Summary.{bytes_together, largest}
use Rattle.ssh_script.proofs.summary.total_bytes.Given as goal

abbrev pub invariant-loop-rest : goal.invariant-loop-rest
invariant-loop-rest l = record {
  total : min (l.sum + bytes_together l.rest) largest ≡ min (bytes_together l.payloads) largest;
  small : l.sum ≤ largest;
}

abbrev pub decreases-loop-rest : goal.decreases-loop-rest
decreases-loop-rest l = length l.rest
