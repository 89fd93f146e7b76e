-- What a side sends, one after the other, by the generator that it was handed.
use Rattle.std.specs.Prelude.{◌≡◌, ℕ, false, List, [], ◌∷◌, ◌++◌, Option}
use Rattle.rand_core.specs.Stream.{Stream}
use Rattle.ssh_wire.specs.declared.side.Side.{Side}
use Rattle.ssh_wire.specs.declared.side.Side.TheVariants.{Client, Server}
use Rattle.ssh_negotiate.specs.Reading.{behind_cookie}
use Rattle.ssh_negotiate.specs.declared.kex.Name as kexes
use Rattle.ssh_packet.specs.Sealing.{item_of, stream_after}
use Rattle.ssh_packet.specs.Writing.{Sends, Writer}
use Rattle.ssh_kex.specs.Drawing.{DrawnByClient, DrawnByServer, is_kexinit}
use Rattle.ssh_kex.specs.Exchange.{outgoing}
use Rattle.ssh_kex.specs.Stages.{Machine, Stage}
use Rattle.ssh_kex.specs.declared.config.Config.{Config}
use Rattle.ssh_kex.specs.declared.exchange.FinishedExchange.{FinishedExchange}
use Rattle.ssh_kex.specs.declared.group.DhGroup.{DhGroup}
use Rattle.ssh_rules.specs.Answering.{AnswersAll}
use Rattle.ssh_rules.specs.Asking.{AsksWithin}
use Rattle.ssh_rules.specs.Machine.{Spot, spot_after}
use Rattle.ssh_rules.specs.Standing.{Standing}
use Rattle.ssh_transport.specs.Asking.{AsksBetween, MoveAsks, PartTally}
use Rattle.ssh_transport.specs.Drawing.{WritesKexinit, kexinit_with, packet_with, writing_at}
use Rattle.ssh_transport.specs.States.{stands_of}
use Rattle.ssh_transport.specs.declared.session.Session.{Session}

-- where a side's output stands, with what is left of its generator's stream and the exchanges that it finished
pub record Sender : Type 0 where
  pub output : List ℕ
  pub writing : Spot
  pub stream : Stream
  pub records : List FinishedExchange

abbrev pub sender_at : Writer → List FinishedExchange → Stream → Sender
sender_at w records stream = record { output = w.output; writing = writing_at w; stream = stream; records = records }

abbrev pub sender_of : Session → Stream → Sender
sender_of s stream = sender_at s.writer s.finished.items stream

abbrev pub sender_in : Standing → Stream → Sender
sender_in t stream = record { output = t.output; writing = t.state.writing; stream = stream; records = t.state.records }

-- one thing that a side sends, or that moves what it sends behind it
pub data Sent : Type 0 where
  -- a KEXINIT, with its cookie
  OfKexinit : Sent
  -- another payload
  OfPayload : (payload : List ℕ) → Sent
  -- no packet: a value of an exchange was drawn, up to what is left of the stream
  OfValue : (left : Stream) → Sent
  -- no packet: an exchange was finished, and its keys seal what comes
  OfKeys : (made : FinishedExchange) → Sent
  -- no packet: the numbers begin again
  OfNumbers : Sent

-- a payload's packet, padded from this stream; one of no bytes has none
abbrev pub with_packet : Sender → List ℕ → Stream → Sender
with_packet w [] stream = record w { stream = stream }
with_packet w (b ∷ rest) stream = record w {
  output = w.output ++ packet_with w.writing (b ∷ rest) stream;
  writing = spot_after w.writing (item_of w.writing.sealing (b ∷ rest) stream);
  stream = stream_after w.writing.sealing (b ∷ rest) stream;
}

abbrev pub sent_next : Side → Config → Sender → Sent → Sender
sent_next side config w OfKexinit = with_packet w (kexinit_with side config w.stream) (behind_cookie w.stream)
sent_next side config w (OfPayload payload) = with_packet w payload w.stream
sent_next side config w (OfValue left) = record w { stream = left }
sent_next side config w (OfKeys made) = record w {
  writing = record w.writing { sealing = (outgoing side made).sealing };
  records = w.records ++ made ∷ [];
}
sent_next side config w OfNumbers = record w { writing = record w.writing { number = 0 } }

-- only a value's agreement draws anything but cookies and padding
abbrev pub MaySend : (Made : Stream → Stream → Type 0) → Sender → Sent → Type 0
MaySend Made w OfKexinit = Unit {0}
MaySend Made w (OfPayload payload) = is_kexinit payload ≡ false
MaySend Made w (OfValue left) = Made w.stream left
MaySend Made w (OfKeys made) = Unit {0}
MaySend Made w OfNumbers = Unit {0}

abbrev pub SendsOn : (Made : Stream → Stream → Type 0) → Side → Config → Sender → List Sent → Sender → Type 0
SendsOn Made side config w [] w' = w' ≡ w
SendsOn Made side config w (x ∷ sent) w' = MaySend Made w x
    × SendsOn Made side config (sent_next side config w x) sent w'

-- A side sent some things, one after the other: each cookie and each padding is what its generator gave next.
abbrev pub SendsDrawn : (Made : Stream → Stream → Type 0) → Side → Config → Sender → Sender → Type 0
SendsDrawn Made side config w w' = (sent : List Sent) × SendsOn Made side config w sent w'

-- so of a transport, by what draws its side's values
abbrev pub SendsBetween : (Made : Side → Stream → Stream → Type 0) → (old new : Standing) → (stream stream' : Stream)
    → Type 0
SendsBetween Made old new stream stream' =
    SendsDrawn (Made old.side) old.side old.config (sender_in old stream) (sender_in new stream')

-- ---- values

abbrev pub ClientRelation : Type 1
ClientRelation = kexes.Name → Option DhGroup → Stream → List ℕ → List ℕ → Stream → Type 0

abbrev pub ServerRelation : Type 1
ServerRelation = kexes.Name → Option DhGroup → List ℕ → Stream → List ℕ → List ℕ → Stream → Type 0

-- an agreement drew a value of its side from this stream, up to what is left
abbrev pub MadeBy : ClientRelation → ServerRelation → Side → Stream → Stream → Type 0
MadeBy by_client by_server Client before left = (name : kexes.Name) × (group : Option DhGroup) × (local : List ℕ)
    × (public : List ℕ) × by_client name group before local public left
MadeBy by_client by_server Server before left = (name : kexes.Name) × (group : Option DhGroup) × (client : List ℕ)
    × (public : List ℕ) × (secret : List ℕ) × by_server name group client before public secret left

-- none did
abbrev pub NoneMade : Side → Stream → Stream → Type 0
NoneMade side before left = ⊥

-- in a step of a machine
abbrev pub DrawnBySide : ClientRelation → ServerRelation → Side → Stream → Stage → Option Stage → Stream → Type 0
DrawnBySide by_client by_server Client before stage next behind = DrawnByClient by_client before stage next behind
DrawnBySide by_client by_server Server before stage next behind = DrawnByServer by_server before stage next behind

-- ---- between two sessions

-- of itself a side draws no value
abbrev pub WritesDrawn : Session → Session → Stream → Stream → Type 0
WritesDrawn s s' stream stream' = SendsDrawn (NoneMade s.side) s.side s.config.now (sender_of s stream)
    (sender_of s' stream')

-- a KEXINIT went behind the output, with its cookie and its padding from this stream, up to what is left of it
abbrev pub PutsKexinit : Side → Config → Writer → Stream → Writer → Stream → Type 0
PutsKexinit side config old stream new left = Sends old (kexinit_with side config stream) (behind_cookie stream) new
    × (left ≡ stream_after old.sealing (kexinit_with side config stream) (behind_cookie stream))

-- A session began an exchange: its KEXINIT is all that it wrote, with its draws.
pub record OpensWith (s s' : Session) (stream stream' : Stream) : Type 0 where
  pub first : WritesKexinit s s' stream
  pub wrote : WritesDrawn s s' stream stream'

-- how often the parts were asked, and what was drawn
pub record ServesBetween (Made : Side → Stream → Stream → Type 0) (s s' : Session) (n n' : PartTally)
    (stream stream' : Stream)
    : Type 0 where
  pub asks : AsksBetween s s' n n'
  pub drawn : SendsDrawn (Made s.side) s.side s.config.now (sender_of s stream) (sender_of s' stream')

-- the same for a message that a machine took
pub record MoveServes (Made : Side → Stream → Stream → Type 0) (m : Machine) (s s' : Session) (n n' : PartTally)
    (stream stream' : Stream) : Type 0 where
  pub asks : MoveAsks m.setting.side m.stage (stands_of s'.finished.items s'.kex) n n'
  pub drawn : SendsDrawn (Made m.setting.side) m.setting.side s.config.now (sender_of s stream) (sender_of s' stream')

-- and as a transport's caller sees it
pub record ServesCall (Made : Side → Stream → Stream → Type 0) (old new : Standing) (n n' : PartTally)
    (stream stream' : Stream) : Type 0 where
  pub asks : AsksWithin old.side old.state new.state n.calls n'.calls
  pub answers : AnswersAll old.side old.state new.state n.tests n'.tests
  pub sends : SendsBetween Made old new stream stream'
