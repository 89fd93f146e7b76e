use Rattle.std.proofs.Common.{◌≡◌}
use Rattle.ssh_script.specs.RunScript.{all_named}
use Rattle.ssh_lines.specs.Lines.{pieces}
use Rattle.ssh_lines.proofs.Lemmas.{size_left}
use Rattle.ssh_script.proofs.Judging.{onto_names, names_left}
use Rattle.ssh_script.proofs.name_lists.all_named.Given as goal

abbrev pub invariant-loop-rest : goal.invariant-loop-rest
invariant-loop-rest g l = all_named g.T.AsName.text l.all (pieces 44 l.word) ≡ onto_names l.names.items (all_named g.T.AsName.text l.all (names_left l.rest))

abbrev pub decreases-loop-rest : goal.decreases-loop-rest
decreases-loop-rest g l = size_left l.rest
