-- What the fields of a line reader stand for.
use Rattle.std.specs.Prelude.{◌≡◌, ℕ, ◌<◌, ◌≤◌, List, take, None, refl}
use Rattle.ssh_wire.specs.Lines.{line_end, longest_line, other_line_limit}
use Rattle.ssh_wire.specs.Reading.{IdReading}
use Rattle.ssh_wire.specs.Reading as reading
use Rattle.ssh_wire.specs.declared.line.TheConstants.{LONGEST_LINE}
use Rattle.ssh_wire.specs.declared.read_id.TheConstants.{OTHER_LINE_LIMIT}
use Rattle.ssh_wire.specs.declared.read_id.ReadSshIdBuffer.TheInside.{Inside}
use Rattle.ssh_wire.specs.declared.read_id.Stage.{Stage}
use Rattle.ssh_wire.specs.declared.read_id.Stage.TheVariants.{Reading, Heard, Failed}

abbrev pub reading_at : Stage → List ℕ → ℕ → IdReading
reading_at Reading bytes others = reading.Waiting bytes others
reading_at Heard text others = reading.Heard text
reading_at Failed bytes others = reading.Failed

abbrev pub reading_of : Inside → IdReading
reading_of r = reading_at r.stage (take r.len r.line) r.others

-- bytes that wait are less than a line
abbrev pub IsKept : Inside → Type 0
IsKept r = (r.len ≤ longest_line) × (r.others ≤ other_line_limit)
    × (r.stage ≡ Reading → (r.len < longest_line) × (line_end (take r.len r.line) ≡ None))

-- the code's constants are the standard's
longest_line-example : LONGEST_LINE ≡ longest_line
longest_line-example = refl

other_line_limit-example : OTHER_LINE_LIMIT ≡ other_line_limit
other_line_limit-example = refl
