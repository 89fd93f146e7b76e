-- What is read of a payload.
use Rattle.std.specs.Prelude.{◌≡◌, ◌<◌, ℕ, length, List, [], ◌∷◌, Option, Some, None, Result, Ok, Err}
use Rattle.ssh_wire.specs.declared.error.EncodingFault.{EncodingFault}
use Rattle.ssh_wire.specs.declared.error.EncodingFault.TheVariants.{TrailingData}
use Rattle.ssh_channels.specs.Formats.{Bad, Other, PacketFault, packet_of}
use Rattle.ssh_channels.specs.Muxes.{Packet}
use Rattle.ssh_channels.specs.Phases.{Message}
use Rattle.ssh_channels.specs.Phases as phases
use Rattle.ssh_channels.specs.declared.fault.MuxFault.{MuxFault}
use Rattle.ssh_channels.specs.declared.fault.MuxFault.TheVariants.{Encoding, Unexpected}
use Rattle.ssh_channels.specs.declared.incoming.Incoming.{Incoming}
use Rattle.ssh_channels.specs.declared.incoming.Incoming.TheVariants as incoming
use Rattle.ssh_channels.specs.declared.incoming.Offer.{Offer}
use Rattle.ssh_channels.specs.declared.incoming.Said.{Said}
use Rattle.ssh_channels.specs.declared.incoming.Said.TheVariants as said

-- the message, and the sender's number where it is told
abbrev pub message_in : Said → Message
message_in (said.Confirmation o) = phases.Confirmation o.window o.largest
message_in said.Failure = phases.Failure
message_in (said.Adjust n) = phases.Adjust n
message_in (said.Data bytes) = phases.Data bytes.now
message_in said.Eof = phases.Eof
message_in said.Close = phases.Close

abbrev pub sender_in : Said → ℕ
sender_in (said.Confirmation o) = o.sender
sender_in said.Failure = 0
sender_in (said.Adjust n) = 0
sender_in (said.Data bytes) = 0
sender_in said.Eof = 0
sender_in said.Close = 0

abbrev pub packet_in : Incoming → Packet
packet_in (incoming.Open o) = record { to = None; from = o.sender; message = phases.Open o.window o.largest }
packet_in (incoming.On channel said) = record { to = Some channel; from = sender_in said; message = message_in said }

abbrev pub FindsPacket : Result Packet EncodingFault → Result Incoming EncodingFault → Type 0
FindsPacket read (Ok i) = read ≡ Ok (packet_in i)
FindsPacket read (Err f) = read ≡ Err f

-- why a payload is refused
abbrev pub read_fault : Result Packet PacketFault → Option MuxFault
read_fault (Ok p) = None
read_fault (Err (Bad f)) = Some (Encoding f)
read_fault (Err (Other message_type)) = Some (Unexpected message_type 0)

abbrev pub IsPacketRead : Result Packet PacketFault → Result Incoming MuxFault → Type 0
IsPacketRead read (Ok i) = read ≡ Ok (packet_in i)
IsPacketRead read (Err f) = read_fault read ≡ Some f

-- what is read at the front, its value seen by `view`
abbrev pub Reads : {X Y : Type 0} → (X → Y) → Result (Y × List ℕ) EncodingFault → Result X EncodingFault → List ℕ → Type 0
Reads view read (Ok x) rest = read ≡ Ok (view x, rest)
Reads view read (Err f) rest = read ≡ Err f

abbrev pub IsAllRead : List ℕ → Result (Unit {0}) EncodingFault → Type 0
IsAllRead rest (Ok x) = rest ≡ []
IsAllRead rest (Err f) = (f ≡ TrailingData) × (0 < length rest)

-- an opening that came
abbrev pub incoming_open : Offer → Incoming
incoming_open o = incoming.Open o
