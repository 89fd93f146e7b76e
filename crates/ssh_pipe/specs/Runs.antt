-- What the program does, by its words and the text of the key's file.
use Rattle.std.specs.Prelude.{◌≡◌, ◌≤◌, ◌+◌, ◌^◌, ◌⊎◌, ℕ, List, [], ◌∷◌, ◌++◌, Option, IfSome, Result, length}
use Rattle.std.specs.Global.{Global}
use Rattle.std.specs.declared.string.String.{String}
use Rattle.std.specs.declared.vec.IntoIter.{IntoIter}
use Rattle.rand_chacha.specs.ChaCha.{ChaCha, of_seed}
use Rattle.ssh_wire.specs.Outside.{ReachesEnd, TakesFront}
use Rattle.ssh_wire.specs.declared.side.Side.{Side}
use Rattle.ssh_program.specs.Programs.{AreWords}
use Rattle.ssh_program.specs.Statuses.{no_command, script_faulty, want_of_memory}
use Rattle.ssh_kex.specs.Refusals.{Denies}
use Rattle.ssh_kex.specs.Setting.{Says}
use Rattle.ssh_kex.specs.declared.config.Config.{Config}
use Rattle.ssh_kex.specs.declared.exchange.FinishedExchange.{FinishedExchange}
use Rattle.ssh_kex.specs.declared.exchange.ServerHost.{ServerHost}
use Rattle.ssh_kex.specs.declared.parts.Parts.{Parts}
use Rattle.ssh_modp.specs.Counts.{Counts}
use Rattle.ssh_modp.specs.Hosts.{RsaAsked, is_known}
use Rattle.ssh_modp.specs.Rsa.{rsa_accepts}
use Rattle.ssh_modp.specs.declared.groups.ModpGroups.{ModpGroups}
use Rattle.ssh_pipe.specs.Commands.{IsPipeCommand, NamesNoCommand}
use Rattle.ssh_pipe.specs.Ends.{end_status}
use Rattle.ssh_pipe.specs.Keys.{IsFaultyFile, IsSetUp}
use Rattle.ssh_pipe.specs.Notes.{IsTold, Noted, TellsLines, end_note, exchange_notes, faulty_note, unread_note, unseeded_note, usage_note}
use Rattle.ssh_pipe.specs.Talks.{Talked, TellsFault}
use Rattle.ssh_pipe.specs.declared.end.TalkEnd.{TalkEnd}
use Rattle.ssh_pipe.specs.declared.end.TalkEnd.TheVariants.{Exhausted, InputEnded, SinkFailed, SourceFailed}

-- what is known of the parts that a side is handed
abbrev pub PipeParts : Type 0
PipeParts = Parts Counts RsaAsked ModpGroups ChaCha

-- What is known of source and sink: which bytes are left, which are held, and how many faults each had. And what is
-- known of the sink that is told.
pub record Ports : Type 0 where
  pub left : Option (List ℕ)
  pub held : Option (List ℕ)
  pub source_faults : ℕ
  pub sink_faults : ℕ
  pub notes : Noted

abbrev pub ports : (left held : Option (List ℕ)) → (source_faults sink_faults : ℕ) → (notes : Noted) → Ports
ports left held source_faults sink_faults notes = record {
  left = left;
  held = held;
  source_faults = source_faults;
  sink_faults = sink_faults;
  notes = notes;
}

-- nothing was read, written or told, nor tried
abbrev pub IsUntouched : (before now : Ports) → Type 0
IsUntouched before now = now ≡ before

-- Nothing was read or written, nor tried, and this text was told.
abbrev pub TellsAlone : (text : List ℕ) → (before now : Ports) → Type 0
TellsAlone text before now = (now ≡ record before { notes = now.notes }) × IsTold text before.notes now.notes

-- What is said of a talk's end: at the input's end all was taken, a talk that is told as endless took at least 2^64 - 1
-- bytes, and a fault of source or sink ends it so and nothing else does.
pub record IsToldEnd (before now : Ports) (end : TalkEnd) : Type 0 where
  pub whole : end ≡ InputEnded → ReachesEnd before.left now.left
  pub long : end ≡ Exhausted → IfSome before.left (λ left. 2 ^ 64 ≤ length left + 1)
  pub source : TellsFault SourceFailed before.source_faults now.source_faults end
  pub sink : TellsFault SinkFailed before.sink_faults now.sink_faults end

-- A side that the key's text sets up talked, with the generator of a seed. The status is that of the talk's end. A line
-- was told for each exchange that it finished, and behind them one for the end.
pub record IsTalkRun (says : Config → PipeParts → Says) (denies : PipeParts → PipeParts → Denies)
    (distrusts : PipeParts → PipeParts → ServerHost → Type 0) (side : Side) (limit : ℕ) (text seed : List ℕ)
    (before now : Ports) (status : ℕ) : Type 0 where
  pub config : Config
  pub parts : PipeParts
  pub after : PipeParts
  pub end : TalkEnd
  pub finished : List FinishedExchange
  pub fed : List ℕ
  pub set_up : IsSetUp side text limit config parts.hosts
  pub seeded : parts.rng ≡ of_seed seed
  pub status_is : status ≡ end_status end
  pub taken : TakesFront fed before.left now.left
  pub talked : Talked side config (says config parts) (denies parts after) (distrusts parts after) rsa_accepts
      (is_known parts.hosts.known) before.held fed now.held end finished
  pub told : IsToldEnd before now end
  pub noted : TellsLines (exchange_notes 1 finished ++ end_note end ∷ []) before.notes now.notes

-- A talk didn't begin: the key's file is faulty, which was told, or memory was wanting.
abbrev pub IsUnbegun : Side → (text : List ℕ) → (before now : Ports) → (status : ℕ) → Type 0
IsUnbegun side text before now status =
    ((status ≡ script_faulty) × IsFaultyFile side text × TellsAlone faulty_note before now)
    ⊎ ((status ≡ want_of_memory) × IsUntouched before now)

-- the longest file of a key, in bytes
abbrev pub longest_file : ℕ
longest_file = 65536

-- A command ran by the text of its key's file and a seed: the talk didn't begin, or a side talked.
abbrev pub IsRunWithKey : (says : Config → PipeParts → Says) → (denies : PipeParts → PipeParts → Denies)
    → (distrusts : PipeParts → PipeParts → ServerHost → Type 0) → Side → (limit : ℕ) → (text seed : List ℕ)
    → (before now : Ports) → (status : ℕ) → Type 0
IsRunWithKey says denies distrusts side limit text seed before now status =
    IsUnbegun side text before now status
    ⊎ IsTalkRun says denies distrusts side limit text seed before now status

-- A command's words ran: the file can't be read or there are no random bytes, which was told, or memory was wanting; or
-- the command ran by some text, which isn't too long, and some seed.
abbrev pub IsCommandRun : (says : Config → PipeParts → Says) → (denies : PipeParts → PipeParts → Denies)
    → (distrusts : PipeParts → PipeParts → ServerHost → Type 0) → Side → (limit : ℕ) → (before now : Ports)
    → (status : ℕ) → Type 0
IsCommandRun says denies distrusts side limit before now status =
    ((status ≡ script_faulty)
    × (TellsAlone unread_note before now ⊎ TellsAlone unseeded_note before now))
    ⊎ ((status ≡ want_of_memory) × IsUntouched before now)
    ⊎ ((text : List ℕ) × (seed : List ℕ) × (length text ≤ longest_file)
    × IsRunWithKey says denies distrusts side limit text seed before now status)

-- What the words lead to: where they name no command, the usage was told.
abbrev pub IsRun : (says : Config → PipeParts → Says) → (denies : PipeParts → PipeParts → Denies)
    → (distrusts : PipeParts → PipeParts → ServerHost → Type 0) → (words : List (List ℕ)) → (before now : Ports)
    → (status : ℕ) → Type 0
IsRun says denies distrusts words before now status =
    (NamesNoCommand words × (status ≡ no_command) × TellsAlone usage_note before now)
    ⊎ ((side : Side) × (file : List ℕ) × (limit : ℕ) × IsPipeCommand words side file limit
    × IsCommandRun says denies distrusts side limit before now status)

-- What the program does with what it was called with, by what each of its words leads to: its arguments found no memory,
-- and nothing was done; or their words ran.
abbrev pub IsProgramRun : {E : Type 0} → (runs : List (List ℕ) → Ports → Ports → ℕ → Type 0)
    → Result (IntoIter (String Global) Global) E → (before now : Ports) → (status : ℕ) → Type 0
IsProgramRun runs arguments before now status =
    ((status ≡ want_of_memory) × IsUntouched before now)
    ⊎ ((words : List (List ℕ)) × AreWords arguments words × runs words before now status)
