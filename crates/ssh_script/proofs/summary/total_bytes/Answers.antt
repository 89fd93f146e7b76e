use Rattle.std.proofs.Common.{rules, ◌<◌, length}
use Rattle.ssh_script.proofs.SummaryLines.{sum_whole}
use Rattle.ssh_script.proofs.summary.total_bytes.Goals as goal

pub returns : goal.returns
returns c =
    let none : length c.loop-rest.rest.now < 1 = search rules in
    sum_whole c.loop-rest.sum c.loop-rest.rest.now c.args.payloads.now none c.loop-rest.invariant.small c.loop-rest.invariant.total
