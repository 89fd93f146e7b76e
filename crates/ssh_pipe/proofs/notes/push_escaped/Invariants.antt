use Rattle.std.proofs.Common.{◌≡◌, ◌++◌, take}
use Rattle.ssh_pipe.specs.Notes.{escaped}
use Rattle.ssh_pipe.proofs.notes.push_escaped.Given as goal

abbrev pub invariant-loop-byte : goal.invariant-loop-byte
invariant-loop-byte l = l.out.items ≡ l.initial.out.items ++ escaped (take l.byte-index l.text)
