use Rattle.std.proofs.Common.{◌≡◌, map, take}
use Rattle.ssh_record.specs.Runs.{sent_at}
use Rattle.uses_above.proofs.audited.sent_pairs.Given as goal

abbrev pub invariant-loop-mark : goal.invariant-loop-mark
invariant-loop-mark l = l.pairs.items ≡ map sent_at (take l.mark-index l.marks)
