-- What a side writes of itself: KEXINITs and the payloads that it holds.
use Rattle.std.specs.Prelude.{◌≡◌, ℕ, true, List, [], ◌∷◌, ◌++◌}
use Rattle.ssh_wire.specs.Lines.{id_text}
use Rattle.ssh_wire.specs.Reading.{text_heard}
use Rattle.ssh_packet.specs.Sealing.{Item}
use Rattle.ssh_kex.specs.Setting.{Setting}
use Rattle.ssh_kex.specs.Stages.{Machine, Created}
use Rattle.ssh_kex.specs.declared.session_state.SessionKexState.TheVariants.{InProgress}
use Rattle.ssh_rules.specs.Log.{asked, sent_bytes}
use Rattle.ssh_rules.specs.Machine.{Event, ExchangeBegun, IdHeard, PayloadSubmitted, AnswerSent, PayloadSent, MessageTaken, GuessDropped, PayloadDelivered, PacketDropped, ExchangeFinished, IsQuiet, Spot, Steps, cause_of}
use Rattle.ssh_rules.specs.Standing.{nothing_said}
use Rattle.ssh_rules.specs.Valid.{is_good_payload}
use Rattle.ssh_transport.specs.Kexinits.{SendsKexinit, setting_between}
use Rattle.ssh_transport.specs.States.{CanBegin, state_at}
use Rattle.ssh_transport.specs.declared.connection.Connection.{Connection}
use Rattle.ssh_transport.specs.declared.session.Session.{Session}

-- between whom the next exchange stands
abbrev pub setting_of : Session → Setting
setting_of s = setting_between s.side s.config.now (text_heard s.line) (cause_of s.finished.items)

-- a machine was made, and its KEXINIT sent
pub record Opens (s : Session) (machine : Machine) (s' : Session) : Type 0 where
  pub item : Item
  pub sends : SendsKexinit s.side s.config.now s.writer item s'.writer
  pub setting_is : machine.setting ≡ setting_of s
  pub stage_is : machine.stage ≡ Created item.payload
  pub becomes : s' ≡ record s { writer = s'.writer }

-- an exchange was begun
pub record Begins (s s' : Session) : Type 0 where
  pub machine : Machine
  pub item : Item
  pub sends : SendsKexinit s.side s.config.now s.writer item s'.writer
  pub setting_is : machine.setting ≡ setting_of s
  pub stage_is : machine.stage ≡ Created item.payload
  pub becomes : s' ≡ record s { writer = s'.writer; kex = InProgress machine }

-- nothing changed, but maybe the writer's room
abbrev pub IsUnsaid : Session → Session → Type 0
IsUnsaid s s' = s' ≡ record s { writer = record s.writer { room = s'.writer.room } }

-- whose it is stays
abbrev pub IsFixed : Session → Session → Type 0
IsFixed s s' = (s'.side ≡ s.side) × (s'.config ≡ s.config)

-- the same of a connection, and whether it has failed
abbrev pub IsFixedIn : Connection → Connection → Type 0
IsFixedIn c c' = IsFixed c.session c'.session × (c'.failed ≡ c.failed)

-- Whose it is, the version line and what is held stay, and an exchange can be begun.
abbrev pub Stays : Session → Session → Type 0
Stays s s' = CanBegin s' × (s'.line ≡ s.line) × (s'.held ≡ s.held) × IsFixed s s'

-- exchanges that the caller didn't ask for, and payloads, are all that is written
abbrev pub OnlyWrites : List Event → Type 0
OnlyWrites [] = Unit {0}
OnlyWrites (ExchangeBegun cause i ∷ es) = (asked cause ≡ 0) × OnlyWrites es
OnlyWrites (PayloadSent i ∷ es) = OnlyWrites es
OnlyWrites (IdHeard id ∷ es) = ⊥
OnlyWrites (PayloadSubmitted p ∷ es) = ⊥
OnlyWrites (AnswerSent i again ∷ es) = ⊥
OnlyWrites (MessageTaken i ∷ es) = ⊥
OnlyWrites (GuessDropped i ∷ es) = ⊥
OnlyWrites (PayloadDelivered i ∷ es) = ⊥
OnlyWrites (PacketDropped i ∷ es) = ⊥
OnlyWrites (ExchangeFinished i x ∷ es) = ⊥

-- payloads that may be submitted
abbrev pub AreGood : List (List ℕ) → Type 0
AreGood [] = Unit {0}
AreGood (p ∷ payloads) = (is_good_payload p ≡ true) × AreGood payloads

-- A side wrote of itself, wherever it reads and where so many bytes were read.
pub record Writes (s : Session) (read : ℕ) (events : List Event) (s' : Session) : Type 0 where
  pub side : s'.side ≡ s.side
  pub config : s'.config ≡ s.config
  pub line : s'.line ≡ s.line
  pub only : OnlyWrites events
  pub steps : (at : Spot) → Steps nothing_said s.side s.config.now (id_text s.config.now.id) (state_at s at read) events
      (state_at s' at read)
  pub output : s'.writer.output ≡ s.writer.output
      ++ sent_bytes s.side (record { sealing = s.writer.sealing; number = s.writer.number }) events
  pub good : AreGood s'.held.items

-- nothing is left to do
abbrev pub IsSettled : Session → ℕ → Type 0
IsSettled s read = (at : Spot) → IsQuiet s.config.now (state_at s at read)

-- it wrote of itself all that was to be written
pub record GoesOn (s : Session) (read : ℕ) (s' : Session) : Type 0 where
  pub events : List Event
  pub writes : Writes s read events s'
  pub settled : IsSettled s' read

-- it wrote of itself a part of what was to be written
pub record GoesPart (s : Session) (read : ℕ) (s' : Session) : Type 0 where
  pub events : List Event
  pub mid : Session
  pub writes : Writes s read events mid
  pub output : s'.writer.output ≡ mid.writer.output
  pub records : s'.finished.items ≡ mid.finished.items
