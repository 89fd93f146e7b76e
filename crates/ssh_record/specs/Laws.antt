-- What is true of each record.
use Rattle.std.specs.Prelude.{◌≡◌}
use Rattle.ssh_kex.specs.declared.config.Config.{Config}
use Rattle.ssh_record.specs.Answers.{IsAcceptedRecord, IsAuditFault}
use Rattle.ssh_record.specs.Recordings.{Recording}
use Rattle.ssh_record.specs.declared.report.AuditFault.{AuditFault}
use Rattle.ssh_record.specs.declared.report.AuditReport.{AuditReport}

-- A record has one answer: two faults are one, two reports are one, and it doesn't have both.
pub record OneAnswer (client server : Config) (r : Recording) : Type 0 where
  pub one_fault : (f g : AuditFault) → IsAuditFault client server r f → IsAuditFault client server r g → f ≡ g
  pub one_report : (a b : AuditReport) → IsAcceptedRecord client server r a → IsAcceptedRecord client server r b → a ≡ b
  pub not_both : (f : AuditFault) (a : AuditReport) → IsAuditFault client server r f → IsAcceptedRecord client server r a → ⊥

abbrev pub EachHasOneAnswer : Type 0
EachHasOneAnswer = (client server : Config) (r : Recording) → OneAnswer client server r
