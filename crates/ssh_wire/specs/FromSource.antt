-- Reading a version line from a source of bytes.
use Rattle.std.specs.Prelude.{◌≡◌, ℕ, ◌+◌, ◌*◌, ◌-◌, ◌≤◌, Bool, true, List, ◌++◌, length, drop, Option, Some, IfSome, Result, Ok, Err, OnOk, OnErr, IfErr}
use Rattle.std.specs.Borrow.{Bor}
use Rattle.ssh_wire.specs.Lines.{longest_line, id_of, Id}
use Rattle.ssh_wire.specs.Outside.{Rose, IsAtEnd, TakesNext, TakesFront}
use Rattle.ssh_wire.specs.Reading.{IdReading, Waiting, Heard, Failed, still_allowed, Feeds, waiting_length, waits, end_answer, text_heard}
use Rattle.ssh_wire.specs.Stepping.{shifted_answer}
use Rattle.ssh_wire.specs.declared.error.Error.{Error}
use Rattle.ssh_wire.specs.declared.error.Error.TheVariants as error
use Rattle.ssh_wire.specs.declared.error.IdError.{IdError}
use Rattle.ssh_wire.specs.declared.error.IdError.TheVariants.{Version, Disconnect, IO}
use Rattle.ssh_wire.specs.declared.read_id.IdProgress.{IdProgress}
use Rattle.ssh_wire.specs.declared.read_id.IdProgress.TheVariants as progress

-- The most bytes that are taken until a line decides, with those that wait: as many other lines as may still come, and
-- one line more, each of the greatest length.
abbrev pub reading_room : Bool → IdReading → ℕ
reading_room allow (Waiting bytes others) = longest_line * (still_allowed allow others + 1) - length bytes
reading_room allow (Heard text) = 0
reading_room allow Failed = 0

-- these bytes were taken of a source whose bytes were told, and decide nothing
pub record TakesUndecided (allow : Bool) (old : IdReading) (bytes : List ℕ) (left : Option (List ℕ)) (taken : List ℕ) (now : IdReading) : Type 0 where
  pub took : TakesFront taken (Some bytes) left
  pub undecided : Feeds allow old taken (Ok progress.NotYet) now
  pub fits : length taken ≤ reading_room allow old

-- The last piece that was taken decides, and what was taken before it decides nothing. The piece is no longer than
-- what is left of the line in the making. All bytes decide the same, however much of them was taken.
pub record DecidesByPiece (allow : Bool) (old : IdReading) (bytes : List ℕ) (left : Option (List ℕ)) (piece : List ℕ) (answer : Result IdProgress Error) (new : IdReading) : Type 0 where
  pub before : List ℕ
  pub mid : IdReading
  pub took : TakesFront (before ++ piece) (Some bytes) left
  pub undecided : Feeds allow old before (Ok progress.NotYet) mid
  pub decided : Feeds allow mid piece answer new
  pub all : Feeds allow old bytes (shifted_answer (length before) answer) new
  pub line : waiting_length mid + length piece ≤ longest_line
  pub fits : length (before ++ piece) ≤ reading_room allow old

-- an id line was found: these bytes were taken behind it
pub record FindsId (allow : Bool) (old : IdReading) (bytes : List ℕ) (left : Option (List ℕ)) (new : IdReading) (behind : List ℕ) : Type 0 where
  pub piece : List ℕ
  pub used : ℕ
  pub decides : DecidesByPiece allow old bytes left piece (Ok (progress.Id used)) new
  pub within : used ≤ length piece
  pub behind_is : behind ≡ drop used piece

-- no id line came
abbrev pub FindsNoId : Bool → IdReading → List ℕ → Option (List ℕ) → IdReading → Type 0
FindsNoId allow old bytes left new = (piece : List ℕ)
    × DecidesByPiece allow old bytes left piece (Err error.Version) new

-- the source ended first: all its bytes were taken, and decide nothing
abbrev pub EndsFirst : Bool → IdReading → List ℕ → Option (List ℕ) → IdReading → Type 0
EndsFirst allow old bytes left new = TakesUndecided allow old bytes left bytes new

-- a fault came first: the bytes that were taken decide nothing
abbrev pub FailsFirst : Bool → IdReading → List ℕ → Option (List ℕ) → IdReading → Type 0
FailsFirst allow old bytes left new = (taken : List ℕ) × TakesUndecided allow old bytes left taken new

-- no id was read: each refusal by its cause
abbrev pub GivesNoId : Bool → IdReading → List ℕ → Option (List ℕ) → IdError → IdReading → Type 0
GivesNoId allow old bytes left Version new = FindsNoId allow old bytes left new
GivesNoId allow old bytes left Disconnect new = EndsFirst allow old bytes left new
GivesNoId allow old bytes left IO new = FailsFirst allow old bytes left new

-- IO is answered where a fault was counted, and nothing else is
abbrev pub CountsFault : {A : Type 0} → Result A IdError → ℕ → ℕ → Type 0
CountsFault (Ok x) before now = now ≡ before
CountsFault (Err Version) before now = now ≡ before
CountsFault (Err Disconnect) before now = now ≡ before
CountsFault (Err IO) before now = Rose before now

-- where a reading stands after an answer
abbrev pub StandsAfter : {A : Type 0} → Result A IdError → IdReading → Type 0
StandsAfter (Ok x) now = end_answer now ≡ Ok tt
StandsAfter (Err Version) now = now ≡ Failed
StandsAfter (Err Disconnect) now = waits now ≡ true
StandsAfter (Err IO) now = waits now ≡ true

-- a source, how far its version line has come, and what was read behind the line
pub record IdRead (R : Type 0) : Type 0 where
  pub source : R
  pub id : IdReading
  pub behind : List ℕ

-- before an id or Version
abbrev pub WhileWaiting : IdReading → Type 0 → Type 0
WhileWaiting (Waiting bytes others) P = P
WhileWaiting (Heard text) P = Unit {0}
WhileWaiting Failed P = Unit {0}

-- before an id
abbrev pub UnlessHeard : IdReading → Type 0 → Type 0
UnlessHeard (Waiting bytes others) P = P
UnlessHeard (Heard text) P = Unit {0}
UnlessHeard Failed P = P

-- after an id or Version the same is answered, and nothing changes
abbrev pub Repeats : {R : Type 0} → IdReading → IdRead R → Result (Unit {0}) IdError → IdRead R → Type 0
Repeats (Waiting bytes others) old answer new = Unit {0}
Repeats (Heard text) old answer new = (answer ≡ Ok tt) × (new ≡ old)
Repeats Failed old answer new = (answer ≡ Err Version) × (new ≡ old)

-- what a call answers that reads until a line decides, and what it leaves
pub record Hears {R : Type 0} (left : R → Option (List ℕ)) (faults : R → ℕ) (allow : Bool) (old : IdRead R) (answer : Result (Unit {0}) IdError) (new : IdRead R) : Type 0 where
  pub found : WhileWaiting old.id (IfSome (left old.source) (λ bytes. OnOk answer (FindsId allow old.id bytes (left new.source) new.id new.behind)))
  pub refused : WhileWaiting old.id (IfSome (left old.source) (λ bytes. IfErr answer (λ e. GivesNoId allow old.id bytes (left new.source) e new.id)))
  pub repeats : Repeats old.id old answer new
  pub kept : OnErr answer (new.behind ≡ old.behind)
  pub stands : StandsAfter answer new.id
  pub fault : CountsFault answer (faults old.source) (faults new.source)

-- the same, where the id's text is lent
abbrev pub HearsText : {R : Type 0} → (R → Option (List ℕ)) → (R → ℕ) → Bool → IdRead R
    → Result (Bor (List ℕ)) IdError → IdRead R → Type 0
HearsText left faults allow old (Ok text) new = Hears left faults allow old (Ok tt) new
    × (text.now ≡ text_heard new.id)
HearsText left faults allow old (Err e) new = Hears left faults allow old (Err e) new

-- the id's text in all bytes
abbrev pub HasId : Bool → IdReading → List ℕ → List ℕ → Type 0
HasId allow (Waiting waiting others) bytes text = (end : ℕ)
    × (id_of (still_allowed allow others) (waiting ++ bytes) ≡ Id text end)
HasId allow (Heard before) bytes text = text ≡ before
HasId allow Failed bytes text = ⊥

-- No id: all bytes decide so, or decide nothing. A fault may come before that.
abbrev pub RefusesId : Bool → IdReading → List ℕ → IdError → Type 0
RefusesId allow old bytes Version = (new : IdReading) × Feeds allow old bytes (Err error.Version) new
RefusesId allow old bytes Disconnect = (new : IdReading) × Feeds allow old bytes (Ok progress.NotYet) new
RefusesId allow old bytes IO = Unit {0}

-- no bytes came into the front of a buffer: the end, or a fault
abbrev pub TakesNone : List ℕ → Option (List ℕ) → Option (List ℕ) → IdError → Type 0
TakesNone buffer left now Version = ⊥
TakesNone buffer left now Disconnect = IsAtEnd left × TakesNext 0 buffer left now
TakesNone buffer left now IO = now ≡ left
