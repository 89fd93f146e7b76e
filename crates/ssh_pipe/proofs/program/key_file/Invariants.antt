use Rattle.std.proofs.Common.{◌≤◌, length}
use Rattle.ssh_pipe.specs.Runs.{longest_file}
use Rattle.ssh_pipe.proofs.program.key_file.Given as goal

abbrev pub invariant-pieces : goal.invariant-pieces
invariant-pieces g l = length l.text.items ≤ longest_file
