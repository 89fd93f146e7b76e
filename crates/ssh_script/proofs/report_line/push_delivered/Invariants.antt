use Rattle.std.proofs.Common.{◌≡◌, ◌++◌, take}
use Rattle.ssh_script.specs.Report.{delivered_lines}
use Rattle.ssh_script.proofs.report_line.push_delivered.Given as goal

abbrev pub invariant-loop-payload : goal.invariant-loop-payload
invariant-loop-payload l = l.out.items ≡ l.initial.out.items ++ delivered_lines l.side (take l.payload-index l.payloads)
