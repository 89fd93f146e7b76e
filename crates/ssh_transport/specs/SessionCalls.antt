-- What each private call on a session, or on the machine of its exchange, did.
use Rattle.std.specs.Prelude.{◌≡◌, ◌⊎◌, ℕ, ◌≤◌, ◌+◌, true, false, List, [], length, Option, None, Some, Result, Ok, Err, IfErr, IfOk, IfSome, OnErr, OnOk}
use Rattle.rand_core.specs.Stream.{Stream}
use Rattle.ssh_wire.specs.declared.error.Error.{Error}
use Rattle.ssh_wire.specs.declared.error.Error.TheVariants as errors
use Rattle.ssh_packet.specs.Sealing.{Item}
use Rattle.ssh_packet.specs.Writing.{SameButRoom, Writer}
use Rattle.ssh_packet.specs.declared.keys.OpenKey.{OpenKey}
use Rattle.ssh_packet.specs.declared.reader.Incoming.{Incoming}
use Rattle.ssh_kex.specs.Drawing.{StepDraws}
use Rattle.ssh_kex.specs.Members.{HostKeysMembers, HostsKept}
use Rattle.ssh_kex.specs.Parts.{Answers}
use Rattle.ssh_kex.specs.Stages.{Created, Machine}
use Rattle.ssh_kex.specs.Stepping.{Progresses, RefusesStep, next_of}
use Rattle.ssh_kex.specs.declared.exchange.NewKeys.{NewKeys}
use Rattle.ssh_kex.specs.declared.exchange.ServerHost.{ServerHost}
use Rattle.ssh_kex.specs.declared.progress.KexProgress.{KexProgress}
use Rattle.ssh_rules.specs.Asking.{AsksForMessage}
use Rattle.ssh_rules.specs.Machine.{Inside, Outside}
use Rattle.ssh_rules.specs.Refusing.{untrusted_of}
use Rattle.ssh_rules.specs.Standing.{is_outside}
use Rattle.ssh_transport.specs.Asking.{StepAnswers, StepCalls, asks_trust}
use Rattle.ssh_transport.specs.Calls.{PartsCall}
use Rattle.ssh_transport.specs.Drawing.{AtMostNext, GoesNext, OpensDrawn, packet_with, writing_at}
use Rattle.ssh_transport.specs.Handling.{Installs, IsFor, IsOpen, KeepsKey, Moves, outcome_of}
use Rattle.ssh_transport.specs.Hearing.{EndsBy, HearsLine}
use Rattle.ssh_transport.specs.Kexinits.{SendsKexinit}
use Rattle.ssh_transport.specs.Saying.{Begins, GoesOn, GoesPart, IsFixed, IsSettled, IsUnsaid, Opens, Stays}
use Rattle.ssh_transport.specs.Sending.{MoveServes, OpensWith, PutsKexinit, WritesDrawn}
use Rattle.ssh_transport.specs.States.{CanBegin, IsUnheard, WaitsBehind, stands_of}
use Rattle.ssh_transport.specs.Stopping.{Appends, BeginsAt, HearsNot, IsAsBefore, IsDistrusted, IsForNone, RefusesMove, WantsKeys}
use Rattle.ssh_transport.specs.Submitting.{Submits}
use Rattle.ssh_transport.specs.declared.session.Disposition.{Disposition}
use Rattle.ssh_transport.specs.declared.session.Session.{Session}

-- ---- the machine of an exchange

-- A machine sent its KEXINIT. If it ran out of memory, machine and writer are as they were.
pub record SaysKexinit (m : Machine) (w : Writer) (stream : Stream) (result : Result (Unit {0}) Error) (m' : Machine)
    (w' : Writer) (left : Stream) : Type 0 where
  pub sent : OnOk result ((item : Item) × SendsKexinit m.setting.side m.setting.config w item w'
      × (m' ≡ record m { stage = Created item.payload }))
  pub wrote : OnOk result (PutsKexinit m.setting.side m.setting.config w stream w' left)
  pub unchanged : OnErr result ((m' ≡ m) × SameButRoom w w')
  pub err : IfErr result (λ e. e ≡ errors.Memory)

-- A machine took a message of the peer, or rejected it.
pub record StepsMachine (p : PartsCall) (m : Machine) (i : Incoming) (w : Writer)
    (result : Result (KexProgress Machine) Error) (w' : Writer) : Type 0 where
  pub keeps : p.keeps
  pub asks : StepCalls m.setting.side m.stage (next_of result) p.before.calls p.after.calls
  pub answers : OnOk result (StepAnswers m.setting.side m.stage (next_of result) p.before.tests p.after.tests)
  pub goes : IfOk result (λ progress. Progresses (p.says m.setting.config) m (Some i) w progress w')
  pub drawn : OnOk result (StepDraws (p.steps m.setting.side p.stream m.stage (next_of result)) w w' p.left)
  pub causes : IfErr result (λ e. RefusesStep (p.says m.setting.config) p.denies m (Some i) e)
  pub unchanged : OnErr result (SameButRoom w w')

-- ---- an exchange begins

-- A session sent the KEXINIT of the exchange that is due, and returned its machine. If it ran out of memory, it sent
-- nothing.
pub record OpensExchange (s : Session) (stream left : Stream) (result : Result Machine Error) (s' : Session) : Type 0
  where
    pub opens : IfOk result (λ m. Opens s m s')
    pub drawn : OnOk result (OpensWith s s' stream left)
    pub begins : CanBegin s'
    pub line : s'.line ≡ s.line
    pub unsaid : OnErr result (IsUnsaid s s')
    pub err : IfErr result (λ e. e ≡ errors.Memory)
    pub fixed : IsFixed s s'

-- A session sent the KEXINIT of the exchange that is due, and kept its machine.
pub record StartsExchange (s : Session) (stream left : Stream) (result : Result (Unit {0}) Error) (s' : Session) : Type
    0 where
  pub begun : OnOk result (Begins s s')
  pub drawn : OnOk result (OpensWith s s' stream left)
  pub begins : CanBegin s'
  pub line : s'.line ≡ s.line
  pub unsaid : OnErr result (IsUnsaid s s')
  pub err : IfErr result (λ e. e ≡ errors.Memory)
  pub fixed : IsFixed s s'

-- A session returned the machine that a message of this type is for.
pub record TakesMachine (s : Session) (type : ℕ) (stream left : Stream) (result : Result Machine Error) (s' : Session) :
    Type 0 where
  pub stays : Stays s s'
  pub taken : IfOk result (λ m. IsFor s m s')
  pub kexinit : OnOk result (BeginsAt s type)
  pub wrote : OnOk result (WritesDrawn s s' stream left)
  pub refused : IfErr result (λ e. ((e ≡ errors.Memory) × BeginsAt s type)
      ⊎ ((e ≡ errors.Inconsistent) × IsForNone s type))
  pub rests : OnErr result (IsAsBefore s s')

-- ---- an exchange goes on and ends

-- A session gave a message to this machine, and took up what the machine led to.
pub record StepsExchange (p : PartsCall) (s : Session) (m : Machine) (i : Incoming) (key : OpenKey)
    (result : Result Disposition Error) (s' : Session) (key' : OpenKey) : Type 0 where
  pub stays : Stays s s'
  pub unheard : OnOk result (IsUnheard s')
  pub keeps : p.keeps
  pub asks : OnOk result (MoveServes p.draws m s s' p.before p.after p.stream p.left)
  pub asked : OnErr result (AsksForMessage m.setting.side (Inside m.stage) p.before.calls p.after.calls)
  pub moves : IfOk result (λ h. Moves (p.says m.setting.config) s m i (outcome_of h key') s')
  pub key_is : IfOk result (λ h. KeepsKey h key key')
  pub refuses : IfErr result (λ e. RefusesMove (p.says m.setting.config) p.denies p.distrusts m i e)
  pub appends : OnErr result (Appends s s')

-- The host keys trust the host of an exchange, if it has one.
pub record TrustsHost {H : Type 0} (mh : HostKeysMembers H) (hosts hosts' : H) (host : Option ServerHost)
    (result : Result (Unit {0}) Error) : Type 0 where
  pub keeps : HostsKept mh hosts hosts'
  pub calls : mh.calls hosts' ≤ mh.calls hosts + asks_trust host
  pub answers : OnOk result (Answers mh.answered (asks_trust host) hosts hosts')
  pub trusted : OnOk result (IfSome host (λ h. mh.trusts hosts h ≡ true))
  pub refused : IfErr result (λ e. (e ≡ errors.Memory) ⊎ ((e ≡ errors.UnknownKey)
      × IsDistrusted (untrusted_of mh hosts hosts') host))

-- A session recorded an exchange, and took up its keys.
pub record RecordsExchange (s : Session) (newkeys : NewKeys) (result : Result Disposition Error) (s' : Session)
    (key' : OpenKey) : Type 0 where
  pub stays : Stays s s'
  pub unheard : OnOk result (IsUnheard s')
  pub installs : IfOk result (λ h. Installs s newkeys (outcome_of h key') s')
  pub err : IfErr result (λ e. e ≡ errors.Memory)
  pub rests : OnErr result (IsAsBefore s s')

-- A session asked for the host of an exchange, and then recorded it and took up its keys.
pub record EndsExchange {H : Type 0} (mh : HostKeysMembers H) (hosts hosts' : H) (s : Session)
    (host : Option ServerHost)
    (newkeys : NewKeys) (result : Result Disposition Error) (s' : Session) (key' : OpenKey) : Type 0 where
  pub stays : Stays s s'
  pub unheard : OnOk result (IsUnheard s')
  pub keeps : HostsKept mh hosts hosts'
  pub calls : mh.calls hosts' ≤ mh.calls hosts + asks_trust host
  pub answers : OnOk result (Answers mh.answered (asks_trust host) hosts hosts')
  pub trusted : OnOk result (IfSome host (λ h. mh.trusts hosts h ≡ true))
  pub installs : IfOk result (λ h. Installs s newkeys (outcome_of h key') s')
  pub refused : IfErr result (λ e. (e ≡ errors.Memory) ⊎ ((e ≡ errors.UnknownKey)
      × IsDistrusted (untrusted_of mh hosts hosts') host))
  pub rests : OnErr result (IsAsBefore s s')

-- ---- what a session says of itself

-- A session read a part of the peer's version line, and did what the end of the line begins.
pub record HearsPiece (s : Session) (piece : List ℕ) (stream left : Stream) (still : Type 0)
    (result : Result (Option ℕ) Error) (s' : Session) : Type 0 where
  pub begins : CanBegin s'
  pub settled : (read : ℕ) → IsSettled s read → OnOk result (IsSettled s' read)
  pub held : s'.held ≡ s.held
  pub within : IfOk result (λ used. IfSome used (λ n. n ≤ length piece))
  pub behind : (waiting : List ℕ) → WaitsBehind s.line waiting → WaitsBehind s'.line waiting
  pub heard : IfOk result (λ used. IfSome used (λ n. (waiting : List ℕ) → WaitsBehind s'.line waiting))
  pub fixed : IsFixed s s'
  pub opened : IsOpen s → OnOk result (IsOpen s')
  pub line : IfOk result (λ used. HearsLine s piece used s')
  pub drawn : IfOk result (λ used. IfSome used (λ n. OpensDrawn s s' stream))
  pub undrawn : result ≡ Ok None → still
  pub wrote : OnOk result (WritesDrawn s s' stream left)
  pub unheard : IfErr result (λ e. HearsNot s piece e s')
  pub ended : IsUnheard s → result ≡ Err errors.Memory → EndsBy s.side s.line piece

-- A session sealed a payload, or held it.
pub record SealsOrHolds (s : Session) (read : ℕ) (payload : List ℕ) (stream left : Stream) (still : Type 0)
    (result : Result (Unit {0}) Error) (s' : Session) : Type 0 where
  pub opened : OnOk result (IsOpen s')
  pub sent : OnOk result (Submits s read payload s')
  pub drawn : is_outside (stands_of s.finished.items s.kex) ≡ true → OnOk result (GoesNext s.writer.output
      (packet_with (writing_at s.writer) payload stream) s'.writer.output)
  pub wrote : OnOk result (WritesDrawn s s' stream left)
  pub held : is_outside (stands_of s.finished.items s.kex) ≡ false → still × (s' ≡ record s { held = s'.held })
  pub leaves : OnErr result ((s'.finished.items ≡ s.finished.items) × AtMostNext s.writer.output
      (packet_with (writing_at s.writer) payload stream) s'.writer.output)
  pub fixed : IsFixed s s'
  pub begins : CanBegin s'
  pub err : IfErr result (λ e. e ≡ errors.Memory)

-- A session sealed what it held, up to a limit, at which it began an exchange.
pub record SaysHeld (s : Session) (read : ℕ) (stream left : Stream) (result : Result (Unit {0}) Error) (s' : Session)
    : Type 0 where
  pub opened : OnOk result (IsOpen s')
  pub ok : OnOk result (GoesOn s read s')
  pub wrote : OnOk result (WritesDrawn s s' stream left)
  pub wanting : OnErr result (GoesPart s read s')
  pub due : (stands_of s.finished.items s.kex ≡ Outside → s.held.items ≡ []) → OnErr result (WantsKeys s read s')
  pub fixed : IsFixed s s'
  pub begins : CanBegin s'
  pub line : s'.line ≡ s.line
  pub err : IfErr result (λ e. e ≡ errors.Memory)
