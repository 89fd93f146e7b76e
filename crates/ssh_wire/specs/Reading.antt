-- Reading a version line in pieces.
use Rattle.std.specs.Prelude.{◌≡◌, ℕ, zero, suc, ◌+◌, ◌-◌, ◌<◌, ◌≤◌, Bool, true, false, List, [], ◌++◌, length, drop, Option, Some, None, Result, Ok, Err}
use Rattle.ssh_wire.specs.Lines as lines
use Rattle.ssh_wire.specs.Lines.{IdFound, id_of, line_end, longest_line, other_line_limit}
use Rattle.ssh_wire.specs.declared.error.Error.{Error}
use Rattle.ssh_wire.specs.declared.error.Error.TheVariants.{Version, Disconnect}
use Rattle.ssh_wire.specs.declared.error.IdError.{IdError}
use Rattle.ssh_wire.specs.declared.error.IdError.TheVariants as id_errors
use Rattle.ssh_wire.specs.declared.read_id.IdProgress.{IdProgress}
use Rattle.ssh_wire.specs.declared.read_id.IdProgress.TheVariants.{NotYet, Id}

-- bytes of a line that hasn't ended, and how many other lines were read before it; the id's text; or no id line came
pub data IdReading : Type 0 where
  Waiting : (bytes : List ℕ) (others : ℕ) → IdReading
  Heard : (text : List ℕ) → IdReading
  Failed : IdReading

-- how many other lines are still allowed, where so many were read
abbrev pub still_allowed : Bool → ℕ → ℕ
still_allowed true others = other_line_limit - others
still_allowed false others = 0

abbrev pub by_end : IdReading → (ℕ → IdReading) → Option ℕ → IdReading
by_end unfinished other None = unfinished
by_end unfinished other (Some n) = other n

-- what is left of bytes that decide nothing, where so many other lines may still come and so many were read
abbrev pub reading_left : ℕ → List ℕ → ℕ → IdReading
reading_left zero bytes others = Waiting bytes others
reading_left (suc left) bytes others = by_end (Waiting bytes others) (λ n. reading_left left (drop n bytes) (others + 1)) (line_end bytes)

-- what is answered, where so many of the bytes had waited, and what is left where nothing is decided
abbrev pub Decides : IdFound → ℕ → IdReading → Result IdProgress Error → IdReading → Type 0
Decides lines.NotYet had left result new = (result ≡ Ok NotYet) × (new ≡ left)
Decides (lines.Id text end) had left result new = (result ≡ Ok (Id (end - had))) × (new ≡ Heard text)
Decides lines.Version had left result new = (result ≡ Err Version) × (new ≡ Failed)

-- a piece fed, where other lines may stand before the id line or not
abbrev pub Feeds : Bool → IdReading → List ℕ → Result IdProgress Error → IdReading → Type 0
Feeds allow (Waiting bytes others) piece result new =
    Decides (id_of (still_allowed allow others) (bytes ++ piece)) (length bytes) (reading_left (still_allowed allow others) (bytes ++ piece) others) result new
Feeds allow (Heard text) piece result new = (result ≡ Ok (Id 0)) × (new ≡ Heard text)
Feeds allow Failed piece result new = (result ≡ Err Version) × (new ≡ Failed)

abbrev pub used_in : IdProgress → ℕ
used_in NotYet = 0
used_in (Id used) = used

abbrev pub text_heard : IdReading → List ℕ
text_heard (Waiting bytes others) = []
text_heard (Heard text) = text
text_heard Failed = []

-- how many bytes of a line that hasn't ended are held
abbrev pub waiting_length : IdReading → ℕ
waiting_length (Waiting bytes others) = length bytes
waiting_length (Heard text) = 0
waiting_length Failed = 0

-- less than a line waits, behind no more other lines than may stand there
abbrev pub IsShort : IdReading → Type 0
IsShort (Waiting bytes others) = (length bytes < longest_line) × (line_end bytes ≡ None) × (others ≤ other_line_limit)
IsShort (Heard text) = Unit {0}
IsShort Failed = Unit {0}

abbrev pub waits : IdReading → Bool
waits (Waiting bytes others) = true
waits (Heard text) = false
waits Failed = false

-- what stays answered after an id or Version; nothing before them
abbrev pub outcome_of : IdReading → Option (Result (Unit {0}) IdError)
outcome_of (Waiting bytes others) = None
outcome_of (Heard text) = Some (Ok tt)
outcome_of Failed = Some (Err id_errors.Version)

-- what is answered at the end of all bytes
abbrev pub end_answer : IdReading → Result (Unit {0}) Error
end_answer (Waiting bytes others) = Err Disconnect
end_answer (Heard text) = Ok tt
end_answer Failed = Err Version
