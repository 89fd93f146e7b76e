-- What a side sends of itself, with what it draws for it.
use Rattle.std.specs.Prelude.{◌≡◌, ℕ, true, false, List, ◌++◌, Some, None, ◌⊎◌}
use Rattle.rand_core.specs.Stream.{Stream}
use Rattle.ssh_wire.specs.Lines.{id_line}
use Rattle.ssh_wire.specs.declared.side.Side.{Side}
use Rattle.ssh_wire.specs.declared.side.Side.TheVariants.{Client, Server}
use Rattle.ssh_negotiate.specs.Reading.{behind_cookie, kexinit_drawn}
use Rattle.ssh_packet.specs.Sealing.{item_of, sealed_packet}
use Rattle.ssh_packet.specs.Writing.{Writer}
use Rattle.ssh_kex.specs.declared.config.Config.{Config}
use Rattle.ssh_rules.specs.Answering.{PartTests}
use Rattle.ssh_rules.specs.Machine.{Spot, first_state}
use Rattle.ssh_rules.specs.Standing.{Standing}
use Rattle.ssh_transport.specs.States.{is_silent, standing_of, stands_of}
use Rattle.ssh_transport.specs.declared.connection.Connection.{Connection}
use Rattle.ssh_transport.specs.declared.session.Session.{Session}

-- where a writer stands
abbrev pub writing_at : Writer → Spot
writing_at w = record { sealing = w.sealing; number = w.number }

-- the packet of a payload, padded by what the generator gives next (RFC 4253 section 6)
abbrev pub packet_with : Spot → List ℕ → Stream → List ℕ
packet_with at payload stream = sealed_packet at.sealing at.number (item_of at.sealing payload stream)

-- a side's KEXINIT, whose cookie is what the generator gives next (RFC 4253 section 7.1)
abbrev pub kexinit_with : Side → Config → Stream → List ℕ
kexinit_with Client config stream = kexinit_drawn config.preferred None stream
kexinit_with Server config stream = kexinit_drawn config.preferred (Some config.host) stream

-- and its packet, padded by what comes behind the cookie
abbrev pub kexinit_packet : Side → Config → Spot → Stream → List ℕ
kexinit_packet side config at stream = packet_with at (kexinit_with side config stream) (behind_cookie stream)

-- this packet went behind the output, and maybe more behind it
abbrev pub GoesNext : List ℕ → List ℕ → List ℕ → Type 0
GoesNext old packet new = (rest : List ℕ) × (new ≡ (old ++ packet) ++ rest)

-- nothing went behind the output, or this packet alone
abbrev pub AtMostNext : List ℕ → List ℕ → List ℕ → Type 0
AtMostNext old packet new = (new ≡ old) ⊎ (new ≡ old ++ packet)

-- A session wrote its KEXINIT and no more, drawn so.
abbrev pub WritesKexinit : Session → Session → Stream → Type 0
WritesKexinit s s' stream = s'.writer.output ≡ s.writer.output ++ kexinit_packet s.side s.config.now
    (writing_at s.writer) stream

-- Where a session had begun no exchange, it did so.
abbrev pub OpensDrawn : Session → Session → Stream → Type 0
OpensDrawn s s' stream = is_silent (stands_of s.finished.items s.kex) ≡ true → WritesKexinit s s' stream

-- Nothing was written. Where the call is done, no exchange is begun, the next number is as before, and nothing was
-- drawn.
pub record IsUndrawn (done : Type 0) (old new : Standing) (stream stream' : Stream) : Type 0 where
  pub output : new.output ≡ old.output
  pub silent : done → is_silent new.state.stands ≡ true
  pub writing : done → new.state.writing ≡ old.state.writing
  pub undrawn : done → stream' ≡ stream

-- Of a side that had begun no exchange: that is so, or the KEXINIT of its first one went behind the output, drawn so.
abbrev pub DrawsFirst : (done : Type 0) → (old new : Standing) → (stream stream' : Stream) → Type 0
DrawsFirst done old new stream stream' = is_silent old.state.stands ≡ true → IsUndrawn done old new stream stream'
    ⊎ GoesNext old.output (kexinit_packet old.side old.config old.state.writing stream) new.output

-- the same of a connection, by whether it goes on
abbrev pub DrawsFirstOn : (c c' : Connection) → (stream stream' : Stream) → Type 0
DrawsFirstOn c c' stream stream' = DrawsFirst (c'.failed ≡ false) (standing_of c) (standing_of c') stream stream'

-- ---- from a transport's start on

-- all that a side sent is its version line, or behind it stands first its KEXINIT, drawn so
abbrev pub BeginsDrawn : Side → Config → Stream → (wire : List ℕ) → Type 0
BeginsDrawn side config stream wire = (wire ≡ id_line config.id)
    ⊎ GoesNext (id_line config.id) (kexinit_packet side config first_state.writing stream) wire

-- of both sides of a link
pub record AreDrawn (client server : Config) (of_client of_server : Stream) (client_wire server_wire : List ℕ) : Type 0
  where
    pub from_client : BeginsDrawn Client client of_client client_wire
    pub from_server : BeginsDrawn Server server of_server server_wire

-- where it sent its version line alone and wasn't refused, nothing was drawn of the stream that it was given at first
pub record WaitsUndrawn (config : Config) (first : Stream) (t : Standing) (stream : Stream) : Type 0 where
  pub output : t.output ≡ id_line config.id
  pub silent : t.failed ≡ false → is_silent t.state.stands ≡ true
  pub writing : t.failed ≡ false → t.state.writing ≡ first_state.writing
  pub undrawn : t.failed ≡ false → stream ≡ first

-- a transport of this side, by what is left of the stream that it was given at first
pub record IsDrawn (side : Side) (config : Config) (first : Stream) (t : Standing) (stream : Stream) : Type 0 where
  pub side_is : t.side ≡ side
  pub config_is : t.config ≡ config
  pub drawn : WaitsUndrawn config first t stream
      ⊎ GoesNext (id_line config.id) (kexinit_packet side config first_state.writing first) t.output

-- a call on it leaves it so
abbrev pub StaysDrawn : (old new : Standing) → (stream stream' : Stream) → Type 0
StaysDrawn old new stream stream' = (side : Side) (config : Config) (first : Stream)
    → IsDrawn side config first old stream → IsDrawn side config first new stream'

-- where a side's generator stands, and what its parts say of themselves
pub record PartsStand : Type 0 where
  pub stream : Stream
  pub tests : PartTests
