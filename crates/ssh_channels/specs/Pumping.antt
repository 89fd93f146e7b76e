-- What one end appends to the messages of its side, whatever its own number is.
use Rattle.std.specs.Prelude.{◌≡◌, ℕ, List, ◌++◌}
use Rattle.ssh_channels.specs.Phases.{Message}
use Rattle.ssh_channels.specs.Ends.{End, Sends, SendsData, data_messages}
use Rattle.ssh_channels.specs.Texts.{texts}

-- the messages that go out are appended
abbrev pub Pumps : (peer : ℕ) → (old : End) → List (List ℕ) → (new : End) → List (List ℕ) → Type 0
Pumps peer old out new out' = (messages : List Message) × Sends old messages new × ((own : ℕ) → out' ≡ out ++ texts own peer messages)

abbrev pub PumpsData : (peer : ℕ) → (old : End) → List (List ℕ) → (new : End) → List (List ℕ) → Type 0
PumpsData peer old out new out' =
    (pieces : List (List ℕ)) × SendsData old pieces new × ((own : ℕ) → out' ≡ out ++ texts own peer (data_messages pieces))
