use Rattle.std.proofs.Common.{◌≡◌, length}
use Rattle.ssh_transcript.specs.Reading.{AreOpen, judged_under}
use Rattle.ssh_transcript.proofs.reading.read_wires.Given as goal

abbrev pub invariant-loop : goal.invariant-loop
invariant-loop l = AreOpen (judged_under l.setting l.transcript) l.wires × (length l.wires.exchanges.items ≡ l.counter)
