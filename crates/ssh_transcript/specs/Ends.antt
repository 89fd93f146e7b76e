-- Ends of an audit behind the tests of the configurations and of the lengths.
use Rattle.ssh_record.specs.declared.report.AuditEnd.{AuditEnd}
use Rattle.ssh_record.specs.declared.report.AuditEnd.TheVariants as end
use Rattle.ssh_record.specs.declared.report.AuditFault.{AuditFault}
use Rattle.ssh_record.specs.declared.report.AuditFault.TheVariants as fault

-- a fault of the wires or of the marks
abbrev pub IsLaterFault : AuditFault → Type 0
IsLaterFault fault.Config = ⊥
IsLaterFault fault.Sent = ⊥
IsLaterFault (fault.Secrets blocks) = Unit {0}
IsLaterFault (fault.Packet side place) = Unit {0}
IsLaterFault (fault.Mark place) = Unit {0}

-- such a fault, or want of memory
abbrev pub IsLaterEnd : AuditEnd → Type 0
IsLaterEnd (end.Fault f) = IsLaterFault f
IsLaterEnd end.Memory = Unit {0}
