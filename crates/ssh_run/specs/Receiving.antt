-- How a side reads what it takes.
use Rattle.std.specs.Prelude.{◌≡◌, ℕ, ◌-◌, true, false, List, ◌++◌, length, drop, ◌⊎◌}
use Rattle.ssh_wire.specs.Lines as lines
use Rattle.ssh_wire.specs.Lines.{IdFound, id_of}
use Rattle.ssh_wire.specs.Reading.{IdReading, Waiting, Heard, Failed}
use Rattle.ssh_wire.specs.declared.error.Error.{Error}
use Rattle.ssh_wire.specs.declared.error.Error.TheVariants.{Memory}
use Rattle.ssh_packet.specs.Sealing.{Item}
use Rattle.ssh_packet.specs.Stream.{number_after}
use Rattle.ssh_packet.specs.Front.{Unfinished, Fault, Refused}
use Rattle.ssh_run.specs.Delivering.{FindsPackets, payloads_of}
use Rattle.ssh_run.specs.declared.receiver.Receiver.{Receiver}

-- bytes were read: all packets that stand whole are delivered
pub record ReadsOn (old : Receiver) (bytes : List ℕ) (new : Receiver) : Type 0 where
  pub items : List Item
  pub found : FindsPackets old.reader.number (old.reader.waiting ++ bytes) items new.reader.waiting Unfinished
  pub number : new.reader.number ≡ number_after old.reader.number items
  pub live : new.reader.failed ≡ false
  pub delivered : new.delivered.items ≡ old.delivered.items ++ payloads_of items

-- bytes can't be read: the reader has failed, or it refuses what stands behind some packets
abbrev pub CannotRead : Receiver → List ℕ → Type 0
CannotRead old bytes = (old.reader.failed ≡ true)
    ⊎ ((items : List Item) × (rest : List ℕ) × (fault : Fault) × FindsPackets old.reader.number (old.reader.waiting ++ bytes) items rest (Refused fault))

abbrev pub SameReading : Receiver → Receiver → Type 0
SameReading old new = (new.reader ≡ old.reader) × (new.delivered.items ≡ old.delivered.items)

-- a piece of the line, and what stands behind it, by what the bytes so far begin with
abbrev pub TakesLine : IdFound → List ℕ → ℕ → List ℕ → Receiver → Receiver → Type 0
TakesLine lines.NotYet waiting others piece old new = (new.id ≡ Waiting (waiting ++ piece) others)
    × SameReading old new
TakesLine (lines.Id text end) waiting others piece old new = (new.id ≡ Heard text)
    × ReadsOn old (drop (end - length waiting) piece) new
TakesLine lines.Version waiting others piece old new = ⊥

-- a piece was taken
abbrev pub TakesBy : IdReading → List ℕ → Receiver → Receiver → Type 0
TakesBy (Waiting waiting others) piece old new = TakesLine (id_of 0 (waiting ++ piece)) waiting others piece old new
TakesBy (Heard text) piece old new = (new.id ≡ Heard text) × ReadsOn old piece new
TakesBy Failed piece old new = ⊥

abbrev pub TakesPiece : Receiver → List ℕ → Receiver → Type 0
TakesPiece old piece new = TakesBy old.id piece old new

abbrev pub CannotTakeLine : IdFound → List ℕ → List ℕ → Receiver → Type 0
CannotTakeLine lines.NotYet waiting piece old = ⊥
CannotTakeLine (lines.Id text end) waiting piece old = CannotRead old (drop (end - length waiting) piece)
CannotTakeLine lines.Version waiting piece old = Unit {0}

-- why a piece wasn't taken
abbrev pub CannotTakeBy : IdReading → List ℕ → Receiver → Type 0
CannotTakeBy (Waiting waiting others) piece old = CannotTakeLine (id_of 0 (waiting ++ piece)) waiting piece old
CannotTakeBy (Heard text) piece old = CannotRead old piece
CannotTakeBy Failed piece old = Unit {0}

abbrev pub CannotTake : Receiver → List ℕ → Error → Type 0
CannotTake old piece error = (error ≡ Memory) ⊎ CannotTakeBy old.id piece old
