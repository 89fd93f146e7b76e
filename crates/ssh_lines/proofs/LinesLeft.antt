-- The lines that are left of a text, one after the other.
use Rattle.std.proofs.Common.{ℕ, ◌+◌, List, [], length, Option, Some, None, Bor}
use Rattle.ssh_lines.specs.Lines.{pieces}

abbrev pub lines_left : Option (Bor (List ℕ)) → List (List ℕ)
lines_left None = []
lines_left (Some rest) = pieces 10 rest.now

-- an empty line is left where only its end is, so each text counts one more than its bytes
abbrev pub size_left : Option (Bor (List ℕ)) → ℕ
size_left None = 0
size_left (Some rest) = length rest.now + 1
