-- The exit status of each end of a talk.
use Rattle.std.specs.Prelude.{ℕ}
use Rattle.ssh_program.specs.Statuses.{report_written, run_refused, sink_failed, source_failed, want_of_memory}
use Rattle.ssh_wire.specs.declared.error.Error.{Error}
use Rattle.ssh_wire.specs.declared.error.Error.TheVariants as errors
use Rattle.ssh_pipe.specs.declared.end.TalkEnd.{TalkEnd}
use Rattle.ssh_pipe.specs.declared.end.TalkEnd.TheVariants.{Disconnected, Exhausted, Granted, InputEnded, NotServed, Refused, SinkFailed, SourceFailed}

-- of a refusal
abbrev pub refusal_status : Error → ℕ
refusal_status errors.Memory = want_of_memory
refusal_status e = run_refused

-- of an end
abbrev pub end_status : TalkEnd → ℕ
end_status InputEnded = report_written
end_status Disconnected = report_written
end_status Granted = report_written
end_status (Refused e) = refusal_status e
end_status NotServed = run_refused
end_status SourceFailed = source_failed
end_status SinkFailed = sink_failed
end_status Exhausted = run_refused
