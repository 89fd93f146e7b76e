use Rattle.std.proofs.Common.{◌+◌, ◌≤◌, length}
use Rattle.ssh_transcript.specs.Reading.{FromOpen, IsOpen}
use Rattle.ssh_transcript.proofs.wire.WireReader.read_epoch.Given as goal

abbrev pub invariant-loop : goal.invariant-loop
invariant-loop l = FromOpen l.fn.self (λ side j xs. IsOpen side j xs l.self × (length l.self.reader.waiting + l.counter ≤ length l.self.wire.now))
