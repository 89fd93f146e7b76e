-- What a transport stands for, by what it holds.
use Rattle.std.specs.Prelude.{◌≡◌, ℕ, ◌≤◌, Bool, true, false, List, [], ◌∷◌, ◌++◌, length, Option, Some, None}
use Rattle.ssh_wire.specs.Lines.{id_line, longest_line}
use Rattle.ssh_wire.specs.Reading.{IdReading, Waiting, Heard, Failed, text_heard}
use Rattle.ssh_wire.specs.declared.side.Side.{Side}
use Rattle.ssh_packet.specs.Keys.{opening_of}
use Rattle.ssh_packet.specs.Sealing.{Clear}
use Rattle.ssh_kex.specs.Stages.{Machine, Created}
use Rattle.ssh_kex.specs.declared.config.Config.{Config}
use Rattle.ssh_kex.specs.declared.exchange.FinishedExchange.{FinishedExchange}
use Rattle.ssh_kex.specs.declared.session_state.SessionKexState.{SessionKexState}
use Rattle.ssh_kex.specs.declared.session_state.SessionKexState.TheVariants.{Idle, InProgress, Taken}
use Rattle.ssh_rules.specs.Machine.{SideState, Spot, Where, Silent, Outside, Inside}
use Rattle.ssh_rules.specs.Standing.{Standing, with_input}
use Rattle.ssh_rules.specs.Valid.{config_fault}
use Rattle.ssh_transport.specs.declared.session.Session.{Session}
use Rattle.ssh_transport.specs.declared.connection.Connection.{Connection}

-- the text of the peer's version line
abbrev pub heard_of : IdReading → Option (List ℕ)
heard_of (Waiting bytes others) = None
heard_of (Heard text) = Some text
heard_of Failed = None

-- between exchanges; before the first one the peer's version line is awaited
abbrev pub after_exchanges : List FinishedExchange → Where
after_exchanges [] = Silent
after_exchanges (x ∷ records) = Outside

-- where it stands
abbrev pub stands_of : List FinishedExchange → SessionKexState Machine → Where
stands_of records Idle = after_exchanges records
stands_of records (InProgress machine) = Inside machine.stage
stands_of records Taken = Inside (Created [])

-- whether it has begun no exchange yet
abbrev pub is_silent : Where → Bool
is_silent Silent = true
is_silent Outside = false
is_silent (Inside stage) = false

-- one side that reads from this spot on, and has read so many bytes of payload
abbrev pub state_at : Session → Spot → ℕ → SideState
state_at s at read = record {
  heard = heard_of s.line;
  stands = stands_of s.finished.items s.kex;
  called = false;
  owed = [];
  records = s.finished.items;
  held = s.held.items;
  reading = at;
  writing = record { sealing = s.writer.sealing; number = s.writer.number };
  written = s.writer.count;
  read = read;
}

-- where it reads
abbrev pub reading_spot : Connection → Spot
reading_spot c = record { sealing = opening_of c.opening; number = c.reader.number }

-- without what waits and was not handled yet
abbrev pub emptied : Connection → Connection
emptied c = record c { reader = record c.reader { waiting = []; handed = []; spent = 0 } }

-- with more behind what waits
abbrev pub with_more : Connection → List ℕ → Connection
with_more c more = record c { reader = record c.reader { waiting = c.reader.waiting ++ more; handed = []; spent = 0 } }

-- where all that waits stands behind the line
abbrev pub bare_of : Connection → Standing
bare_of c = record {
  side = c.session.side;
  config = c.session.config.now;
  state = state_at c.session (reading_spot c) c.reader.count;
  line = c.session.line;
  output = c.session.writer.output;
  waiting = c.reader.waiting;
  delivered = c.delivered.items;
  failed = c.failed;
}

-- where what waits was kept, and nothing made of it: it may begin with a part of the line
abbrev pub standing_of : Connection → Standing
standing_of c = with_input (bare_of (emptied c)) c.reader.waiting

-- what an exchange can be begun with
pub record CanBegin (s : Session) : Type 0 where
  pub valid : config_fault s.side s.config.now ≡ None
  pub short : length (text_heard s.line) ≤ longest_line

-- packets wait behind the version line alone
abbrev pub WaitsBehind : IdReading → List ℕ → Type 0
WaitsBehind (Waiting bytes others) waiting = waiting ≡ []
WaitsBehind (Heard text) waiting = Unit {0}
WaitsBehind Failed waiting = waiting ≡ []

-- no exchange is due that wasn't begun
abbrev pub IsUnheard : Session → Type 0
IsUnheard s = stands_of s.finished.items s.kex ≡ Silent → heard_of s.line ≡ None

-- a side that has sent its version line alone
pub record IsFresh (side : Side) (config : Config) (s : Session) : Type 0 where
  pub side_is : s.side ≡ side
  pub config_is : s.config.now ≡ config
  pub line_is : s.line ≡ Waiting [] 0
  pub writer_is : s.writer ≡ record {
    output = id_line config.id;
    len = 0;
    count = 0;
    number = 0;
    sealing = Clear;
    room = s.writer.room;
  }
  pub kex_is : s.kex ≡ Idle
  pub finished_is : s.finished.items ≡ []
  pub held_is : s.held.items ≡ []
  pub valid : config_fault side config ≡ None
