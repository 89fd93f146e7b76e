-- Reading one line after the other.
use Rattle.std.specs.Prelude.{◌≡◌, ℕ, ◌+◌, ◌-◌, ◌≤◌, ◌&&◌, nat_lt, Bool, true, false, List, [], ◌++◌, length, drop, Result, Ok, Err}
use Rattle.ssh_wire.specs.Lines as lines
use Rattle.ssh_wire.specs.Lines.{line_of, other_line_limit}
use Rattle.ssh_wire.specs.Reading.{IdReading, Waiting, Heard, Failed, Feeds}
use Rattle.ssh_wire.specs.declared.error.Error.{Error}
use Rattle.ssh_wire.specs.declared.read_id.IdProgress.{IdProgress}
use Rattle.ssh_wire.specs.declared.read_id.IdProgress.TheVariants.{NotYet, Id}
use Rattle.ssh_wire.specs.declared.read_id.LineRead.{LineRead}
use Rattle.ssh_wire.specs.declared.read_id.LineRead.TheVariants.{Unfinished, IdLine, OtherLine, TooLong}

abbrev pub ReadsTo : lines.Line → ℕ → List ℕ → ℕ → LineRead → IdReading → Type 0
ReadsTo lines.Unfinished had bytes others result new = (result ≡ Unfinished) × (new ≡ Waiting bytes others)
ReadsTo (lines.IdLine text end) had bytes others result new = (result ≡ IdLine (end - had)) × (new ≡ Heard text)
ReadsTo (lines.OtherLine end) had bytes others result new = (result ≡ OtherLine (end - had))
    × (new ≡ Waiting [] others) × (had ≤ end)
ReadsTo lines.TooLong had bytes others result new = (result ≡ TooLong) × (new ≡ Failed)

-- the first line of a piece read; it may have begun before
abbrev pub ReadsLine : IdReading → List ℕ → LineRead → IdReading → Type 0
ReadsLine (Waiting bytes others) piece result new = ReadsTo (line_of (bytes ++ piece)) (length bytes) (bytes ++ piece) others result new
ReadsLine (Heard text) piece result new = (result ≡ IdLine 0) × (new ≡ Heard text)
ReadsLine Failed piece result new = (result ≡ TooLong) × (new ≡ Failed)

-- how many bytes of the piece belong to the line
abbrev pub read_in : LineRead → ℕ
read_in Unfinished = 0
read_in (IdLine used) = used
read_in (OtherLine used) = used
read_in TooLong = 0

abbrev pub reading_past : Bool → List ℕ → ℕ → IdReading
reading_past true bytes others = Waiting bytes (others + 1)
reading_past false bytes others = Failed

abbrev pub may_pass : Bool → ℕ → Bool
may_pass allow others = allow && nat_lt others other_line_limit

-- an other line is let pass, or the reading has failed
abbrev pub PassesOther : Bool → IdReading → Bool → IdReading → Type 0
PassesOther allow (Waiting bytes others) result new = (result ≡ may_pass allow others)
    × (new ≡ reading_past result bytes others)
PassesOther allow (Heard text) result new = (result ≡ false) × (new ≡ Failed)
PassesOther allow Failed result new = (result ≡ false) × (new ≡ Failed)

-- an answer about a piece whose front was used before
abbrev pub shifted_answer : ℕ → Result IdProgress Error → Result IdProgress Error
shifted_answer used (Ok NotYet) = Ok NotYet
shifted_answer used (Ok (Id more)) = Ok (Id (used + more))
shifted_answer used (Err e) = Err e

-- what is answered from here on is answered of the whole piece
abbrev pub GoesOn : Bool → IdReading → List ℕ → ℕ → IdReading → Type 0
GoesOn allow old piece used now = (result : Result IdProgress Error) (new : IdReading)
    → Feeds allow now (drop used piece) result new → Feeds allow old piece (shifted_answer used result) new

-- how many other lines may still come
abbrev pub others_left : IdReading → ℕ
others_left (Waiting bytes others) = other_line_limit - others
others_left (Heard text) = 0
others_left Failed = 0
