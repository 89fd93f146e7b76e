-- What is heard of the peer's version line.
use Rattle.std.specs.Prelude.{◌≡◌, ℕ, Bool, true, false, List, ◌++◌, Option, Some, None, Ok}
use Rattle.ssh_wire.specs.Lines as lines
use Rattle.ssh_wire.specs.Lines.{id_of}
use Rattle.ssh_wire.specs.Reading.{Feeds, IdReading, IsShort, Failed, Heard, Waiting, still_allowed}
use Rattle.ssh_wire.specs.declared.side.Side.{Side}
use Rattle.ssh_wire.specs.declared.read_id.IdProgress.TheVariants.{NotYet, Id}
use Rattle.ssh_rules.specs.Standing.{lets_pass}
use Rattle.ssh_transport.specs.Saying.{Begins}
use Rattle.ssh_transport.specs.States.{is_silent, stands_of}
use Rattle.ssh_transport.specs.declared.session.Session.{Session}

-- an exchange is begun where told
abbrev pub BeginsWhere : Bool → Session → Session → Type 0
BeginsWhere true s s' = Begins s s'
BeginsWhere false s s' = s' ≡ s

-- A piece of the line was read. Behind its end, the first exchange is begun.
abbrev pub HearsLine : Session → List ℕ → Option ℕ → Session → Type 0
HearsLine s piece None s' = Feeds (lets_pass s.side) s.line piece (Ok NotYet) s'.line × IsShort s'.line
    × (s' ≡ record s { line = s'.line })
HearsLine s piece (Some used) s' = Feeds (lets_pass s.side) s.line piece (Ok (Id used)) s'.line × IsShort s'.line
    × BeginsWhere (is_silent (stands_of s.finished.items s.kex)) (record s { line = s'.line }) s'

-- with the piece, the line ends
abbrev pub EndsBy : Side → IdReading → List ℕ → Type 0
EndsBy side (Waiting bytes others) piece =
    (text : List ℕ) × (end : ℕ) × (id_of (still_allowed (lets_pass side) others) (bytes ++ piece) ≡ lines.Id text end)
EndsBy side (Heard text) piece = ⊥
EndsBy side Failed piece = ⊥
