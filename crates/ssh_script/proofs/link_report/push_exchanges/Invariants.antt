use Rattle.std.proofs.Common.{◌≡◌, ◌≤◌, ◌+◌, ◌++◌, length}
use Rattle.ssh_script.specs.RunReport.{exchange_lines}
use Rattle.ssh_script.proofs.link_report.push_exchanges.Given as goal

abbrev pub invariant-loop-exchange : goal.invariant-loop-exchange
invariant-loop-exchange l = record {
  written : l.out.items ++ exchange_lines l.side l.k l.rest ≡ l.initial.out.items ++ exchange_lines l.side 1 l.exchanges;
  small : l.k + length l.rest ≤ length l.exchanges + 1;
}

abbrev pub decreases-loop-exchange : goal.decreases-loop-exchange
decreases-loop-exchange l = length l.rest
