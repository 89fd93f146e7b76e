-- What is true of every version line, number and name list.
use Rattle.std.specs.Prelude.{◌≡◌, ℕ, ◌<◌, List, ◌++◌, length, take, Bool, true, Result, Ok}
use Rattle.std.specs.Str.{is_utf8}
use Rattle.ssh_wire.specs.Forms.{AreBytes, number, magnitude, unsigned, mpint, joined_names}
use Rattle.ssh_wire.specs.Names.{names_of, AreNames, without_last_comma}
use Rattle.ssh_wire.specs.Lines.{id_of, NotYet, Id}
use Rattle.ssh_wire.specs.Reading.{IdReading, Feeds}
use Rattle.ssh_wire.specs.Stepping.{shifted_answer}
use Rattle.ssh_wire.specs.declared.error.Error.{Error}
use Rattle.ssh_wire.specs.declared.read_id.IdProgress.{IdProgress}
use Rattle.ssh_wire.specs.declared.read_id.IdProgress.TheVariants as progress

-- an id line that was found stays found when bytes come behind
abbrev pub IdStays : Type 0
IdStays = (bytes more text : List ℕ) (end : ℕ) → id_of 0 bytes ≡ Id text end → id_of 0 (bytes ++ more) ≡ Id text end

-- less than a whole id line decides nothing
abbrev pub LessThanALine : Type 0
LessThanALine = (line text : List ℕ) (n : ℕ) → id_of 0 line ≡ Id text (length line) → n < length line
    → id_of 0 (take n line) ≡ NotYet

-- two pieces, of which the first decides nothing, are read as one
abbrev pub FedTwice : Type 0
FedTwice = (allow : Bool) (old mid new : IdReading) (p q : List ℕ) (r : Result IdProgress Error)
    → Feeds allow old p (Ok progress.NotYet) mid → Feeds allow mid q r new
    → Feeds allow old (p ++ q) (shifted_answer (length p) r) new

-- a piece that decides is read the same with bytes behind it
abbrev pub FedMore : Type 0
FedMore = (allow : Bool) (old new : IdReading) (p q : List ℕ) (r : Result IdProgress Error)
    → (r ≡ Ok progress.NotYet → ⊥) → Feeds allow old p r new → Feeds allow old (p ++ q) r new

-- what stands in an mpint spells the number that the bytes spell
abbrev pub MpintNumber : Type 0
MpintNumber = (s : List ℕ) → number (unsigned (magnitude s)) ≡ number s

-- an mpint depends on the number alone
abbrev pub OneMpint : Type 0
OneMpint = (s t : List ℕ) → AreBytes s → AreBytes t → number s ≡ number t → mpint s ≡ mpint t

-- equal mpints are of equal numbers
abbrev pub EqualMpints : Type 0
EqualMpints = (s t : List ℕ) → mpint s ≡ mpint t → number s ≡ number t

-- names that were joined are read again
abbrev pub JoinedRead : Type 0
JoinedRead = (names : List (List ℕ)) → AreNames names → names_of (joined_names names) ≡ Ok names

-- names that were read are the text, but for one comma at its end
abbrev pub ReadSpelled : Type 0
ReadSpelled = (text : List ℕ) (names : List (List ℕ)) → names_of text ≡ Ok names
    → joined_names names ≡ without_last_comma text

-- names that were joined are UTF-8
abbrev pub JoinedUtf8 : Type 0
JoinedUtf8 = (names : List (List ℕ)) → AreNames names → is_utf8 (joined_names names) ≡ true
