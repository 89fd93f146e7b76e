-- Whether what was sent is what a run of the steps sends.
use Rattle.std.specs.Prelude.{◌≡◌, ℕ, suc, ◌<◌, ◌≤◌, List, length, take, map}
use Rattle.ssh_wire.specs.declared.side.Side.{Side}
use Rattle.ssh_wire.specs.declared.side.Side.TheVariants.{Client, Server}
use Rattle.ssh_kex.specs.Messages.{is_gex}
use Rattle.ssh_kex.specs.declared.exchange.FinishedExchange.{FinishedExchange}
use Rattle.ssh_rules.specs.Headline.{submitted_by}
use Rattle.ssh_rules.specs.Marks.{Half}
use Rattle.ssh_rules.specs.Run.{IsRun}
use Rattle.ssh_rules.specs.declared.link.Mark.{Mark}
use Rattle.ssh_record.specs.Recordings.{JudgedRecord, config_in, wire_in}
use Rattle.ssh_record.specs.declared.recording.SentPair.{SentPair}

-- a side of a record, under these exchanges
abbrev pub half_recorded : Side → JudgedRecord → List FinishedExchange → Half
half_recorded side j xs = record {
  side = side;
  config = config_in side j;
  exchanges = xs;
  wire = wire_in side j;
  submitted = submitted_by side j.recording.steps;
}

-- how much both sides had sent at a mark
abbrev pub sent_at : Mark → SentPair
sent_at m = record { client = m.client.sent; server = m.server.sent }

-- These marks are those of a run of the first so many steps, in which as much was sent as the record says.
pub record RunsBy (j : JudgedRecord) (xs : List FinishedExchange) (count : ℕ) (marks : List Mark) : Type 0 where
  pub run : IsRun (is_gex j.names.kex) (half_recorded Client j xs) (half_recorded Server j xs) (take count j.recording.steps) marks
  pub sent : map sent_at marks ≡ take (suc count) j.recording.sent

-- there is such a run
abbrev pub Runs : JudgedRecord → List FinishedExchange → ℕ → Type 0
Runs j xs count = (marks : List Mark) × RunsBy j xs count marks

-- the first mark that is not one of a run, counted from 0
pub record BreaksRunAt (j : JudgedRecord) (xs : List FinishedExchange) (place : ℕ) : Type 0 where
  pub within : place ≤ length j.recording.steps
  pub before : (k : ℕ) → k < place → Runs j xs k
  pub broken : Runs j xs place → ⊥
