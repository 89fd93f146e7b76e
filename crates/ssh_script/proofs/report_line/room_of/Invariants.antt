use Rattle.std.proofs.Common.{◌≡◌, ◌-◌, ◌^◌, min, take}
use Rattle.ssh_script.specs.Report.{report_room}
use Rattle.ssh_script.proofs.report_line.room_of.Given as goal

abbrev pub invariant-loop-payload : goal.invariant-loop-payload
invariant-loop-payload l = l.room ≡ min (report_room l.wire (take l.payload-index l.delivered)) (2 ^ 64 - 1)
