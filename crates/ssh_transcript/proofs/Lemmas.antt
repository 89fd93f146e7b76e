-- What crates above cite. Declares nothing but what a reading shows of the record.
use Rattle.ssh_record.specs.Answers.{HaveSecrets}
use Rattle.ssh_record.specs.Recordings.{JudgedRecord}
use Rattle.ssh_transcript.specs.Reading.{AreRead}
use Rattle.ssh_transcript.specs.declared.reading.ReadWires.{ReadWires}
pub use Rattle.ssh_transcript.proofs.Exchanging.{later_end}
pub use Rattle.ssh_transcript.proofs.Naming.{never_skips_here}

-- all exchanges that stand on both wires were made, and each had its secret
pub read_secrets : (j : JudgedRecord) (w : ReadWires) → AreRead j w → HaveSecrets j w.exchanges.items
read_secrets j w r = r.secrets
