-- The text that tells what was found of a record.
use Rattle.std.specs.Prelude.{◌≡◌, refl, ℕ, ◌+◌, Bool, true, false, List, [], ◌∷◌, ◌++◌, codes}
use Rattle.std.specs.Fmt.{decimal, digits}
use Rattle.ssh_wire.specs.declared.side.Side.{Side}
use Rattle.ssh_wire.specs.declared.side.Side.TheVariants.{Client, Server}
use Rattle.ssh_lines.specs.Printed.{side_name}
use Rattle.ssh_rules.specs.declared.link.Mark.{Mark}
use Rattle.ssh_rules.specs.declared.link.SideMark.{SideMark}
use Rattle.ssh_script.specs.Report.{delivered_lines}
use Rattle.ssh_record.specs.declared.report.AuditFault.{AuditFault}
use Rattle.ssh_record.specs.declared.report.AuditFault.TheVariants as fault
use Rattle.ssh_record.specs.declared.report.AuditReport.{AuditReport}

-- what the line of a fault has before its end
abbrev pub audit_fault_word : AuditFault → List ℕ
audit_fault_word fault.Config = codes "config"
audit_fault_word fault.Sent = codes "sent"
audit_fault_word (fault.Secrets blocks) = codes "secrets " ++ decimal blocks
audit_fault_word (fault.Packet side place) = codes "packet " ++ (side_name side ++ (codes " " ++ decimal place))
audit_fault_word (fault.Mark place) = codes "mark " ++ decimal place

-- the line of a fault
abbrev pub audit_fault_line : AuditFault → List ℕ
audit_fault_line f = audit_fault_word f ++ 10 ∷ []

-- which mark of which side it is
abbrev pub mark_head : ℕ → Side → List ℕ
mark_head i side = (codes "mark " ++ decimal i) ++ (codes " " ++ side_name side)

-- two numbers, each behind a space
abbrev pub two_words : ℕ → ℕ → List ℕ
two_words first second = (codes " " ++ decimal first) ++ (codes " " ++ decimal second)

-- what was sent, taken, delivered and finished
abbrev pub mark_counts : SideMark → List ℕ
mark_counts m = two_words m.sent m.taken ++ two_words m.delivered m.finished

abbrev pub inside_word : Bool → List ℕ
inside_word true = codes " in "
inside_word false = codes " out "

-- whether the side is inside an exchange, and how much was submitted
abbrev pub mark_end : SideMark → List ℕ
mark_end m = inside_word m.inside ++ (decimal m.submitted ++ 10 ∷ [])

-- the line of a side of a mark
abbrev pub mark_line : ℕ → Side → SideMark → List ℕ
mark_line i side m = mark_head i side ++ (mark_counts m ++ mark_end m)

-- the lines of a mark
abbrev pub mark_lines : ℕ → Mark → List ℕ
mark_lines i m = mark_line i Client m.client ++ mark_line i Server m.server

-- the lines of marks that count from i
abbrev pub marks_lines : ℕ → List Mark → List ℕ
marks_lines i [] = []
marks_lines i (m ∷ marks) = mark_lines i m ++ marks_lines (i + 1) marks

-- what the record shows
abbrev pub audit_report_text : AuditReport → List ℕ
audit_report_text report = codes "yes\n" ++ (marks_lines 0 report.marks
    ++ (delivered_lines Client report.client_delivered ++ delivered_lines Server report.server_delivered))

packet-example : audit_fault_line (fault.Packet Client 6) ≡ codes "packet client 6\n"
unfolding digits
packet-example = refl

mark-example : mark_line 2 Server (record { sent = 24; taken = 0; delivered = 0; finished = 0; inside = true; submitted = 1 })
    ≡ codes "mark 2 server 24 0 0 0 in 1\n"
unfolding digits
mark-example = refl
