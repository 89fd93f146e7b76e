use Rattle.std.proofs.Common.{◌≡◌, ◌++◌, ◌-◌, take}
use Rattle.ssh_rules.specs.Headline.{submitted_by}
use Rattle.ssh_judge.proofs.report.first_submits.Given as goal

-- what was taken, and the first of those that are left, are the first of all
abbrev pub invariant-loop : goal.invariant-loop
invariant-loop l = l.payloads.items ++ take (l.count - l.counter) (submitted_by l.side l.rest) ≡ take l.count (submitted_by l.side l.steps)
