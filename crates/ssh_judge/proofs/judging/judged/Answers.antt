use Rattle.std.proofs.Common.{rules}
use Rattle.ssh_transcript.specs.Reading.{judged_under}
use Rattle.ssh_judge.proofs.Accepting.{accepted_from, packet_end}
use Rattle.ssh_judge.proofs.judging.judged.Goals as goal

pub returns-in-Some-clause-refused : goal.returns-in-Some-clause-refused
returns-in-Some-clause-refused c = packet_end c.args.setting.now c.args.transcript.now c.in-Some.fault c.requires.setting c.requires.fits
    (c.in-Some.ensures.some (judged_under c.args.setting.now c.args.transcript.now) c.in-Ok.ensures.read)

pub returns-in-Ok-report_of-clause-accepted : goal.returns-in-Ok-report_of-clause-accepted
returns-in-Ok-report_of-clause-accepted c =
    let good = c.in_default.ensures.none (search rules) (judged_under c.args.setting.now c.args.transcript.now) c.in-Ok.ensures.read in
    accepted_from c.args.setting.now c.args.transcript.now c.in-Ok.wires c.in-Ok-run_marks.marks.items c.in-Ok-report_of.report c.requires.setting c.requires.fits c.in-Ok.ensures.read good
    (c.in-Ok-run_marks.ensures.run c.requires.setting c.requires.fits good) c.in-Ok-report_of.ensures.marks c.in-Ok-report_of.ensures.exchanges c.in-Ok-report_of.ensures.to_client c.in-Ok-report_of.ensures.to_server
