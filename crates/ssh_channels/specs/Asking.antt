-- When a side refuses what it is asked and what comes, and what it does else.
use Rattle.std.specs.Prelude.{◌≡◌, ℕ, ◌+◌, ◌-◌, ◌^◌, min, nat_le, nat_lt, ◌||◌, Bool, true, false, if◌then◌else◌, List, [], ◌∷◌, ◌++◌, length, map, take, drop, slice_get, Option, Some, None, Result, Ok, Err}
use Rattle.ssh_channels.specs.Ends.{Call, CallClose, CallEof, Calls, End, Read, Receives, Write, has_ended, taken}
use Rattle.ssh_channels.specs.Formats.{PacketFault, packet_of, packet_text}
use Rattle.ssh_channels.specs.Muxes.{Asks, Channel, Mux, On, Packet, Request, Start, Takes, most_channels, told_number}
use Rattle.ssh_channels.specs.Phases.{Adjust, Close, Confirmation, Data, Eof, Failure, Message, Open, Phase, Silent, Talking, Shut, Failed, is_refused, next}
use Rattle.ssh_channels.specs.Phases as phases
use Rattle.ssh_channels.specs.Reading.{read_fault}
use Rattle.ssh_channels.specs.Texts.{texts}
use Rattle.ssh_channels.specs.declared.fault.MuxFault.{MuxFault}
use Rattle.ssh_channels.specs.declared.fault.MuxFault.TheVariants.{Ended, Full, Memory, Unexpected, Unknown, Window}

-- one side: its channels, and the payloads that it made and that weren't taken
pub record MuxState : Type 0 where
  pub side : Mux
  pub made : List (List ℕ)

-- Where a refusal is due, it is answered, and all is as it was; else memory is wanting.
abbrev pub IsRefused : Option MuxFault → MuxFault → Type 0 → Type 0
IsRefused (Some due) f unchanged = (f ≡ due) × unchanged
IsRefused None f unchanged = f ≡ Memory

-- why a call on this channel is refused
abbrev pub call_fault : Call → ℕ → End → Option MuxFault
call_fault (Write bytes) own e = if has_ended e then Some (Ended own) else None
call_fault (Read n) own e = None
call_fault CallEof own e = if has_ended e then Some (Ended own) else None
call_fault CallClose own e = if e.close_called || is_refused e.heard then Some (Ended own) else None

abbrev pub call_fault_at : Call → ℕ → Option Channel → Option MuxFault
call_fault_at call own None = Some (Unknown own)
call_fault_at call own (Some c) = call_fault call own c.end

-- why a request is refused
abbrev pub request_fault : Request → Mux → Option MuxFault
request_fault Start side = if nat_lt (length side.channels) most_channels then None else Some Full
request_fault (On channel call) side = call_fault_at call channel (slice_get side.channels channel)

-- the number of a message's type
abbrev pub type_of : Message → ℕ
type_of (Open w m) = 90
type_of (Confirmation w m) = 91
type_of Failure = 92
type_of (Adjust n) = 93
type_of (Data bytes) = 94
type_of Eof = 96
type_of Close = 97

-- how many bytes of data may still come
abbrev pub window_left : End → ℕ
window_left e = (e.window + e.told) - length e.received

-- a message that is in its place brings too much
abbrev pub excess : Message → ℕ → End → Option MuxFault
excess (Open w m) own e = None
excess (Confirmation w m) own e = None
excess Failure own e = None
excess (Adjust n) own e = if nat_le (2 ^ 32) ((e.granted - e.gone) + n) then Some (Unexpected 93 own) else None
excess (Data bytes) own e =
    if nat_lt e.most (length bytes) || nat_lt (window_left e) (length bytes) then Some (Window own (window_left e) (min (length bytes) (2 ^ 32 - 1))) else None
excess Eof own e = None
excess Close own e = None

-- why a message is refused that leads to this phase
abbrev pub fault_in : Option Phase → Message → ℕ → End → Option MuxFault
fault_in None m own e = Some (Unexpected (type_of m) own)
fault_in (Some phase) m own e = excess m own e

-- whether a side that asked for a channel and heard this was not answered
abbrev pub awaits_answer : (started : Bool) → Phase → Bool
awaits_answer started Silent = started
awaits_answer started Talking = false
awaits_answer started phases.Ended = false
awaits_answer started Shut = false
awaits_answer started Failed = false

-- a refusal that is due unless this holds
abbrev pub fault_unless : Bool → MuxFault → Option MuxFault
fault_unless holds due = if holds then None else Some due

-- a refusal that is due unless the message is in its place, and else what it brings too much
abbrev pub fault_in_place : Bool → MuxFault → Option MuxFault → Option MuxFault
fault_in_place holds due over = if holds then over else Some due

-- why a message for this channel is refused
abbrev pub message_fault : Message → ℕ → Channel → Option MuxFault
message_fault m own c = fault_in (next c.started c.end.heard m) m own c.end

abbrev pub message_fault_at : Message → ℕ → Option Channel → Option MuxFault
message_fault_at m own None = Some (Unexpected (type_of m) own)
message_fault_at m own (Some c) = message_fault m own c

abbrev pub packet_fault_to : Option ℕ → Message → Mux → Option MuxFault
packet_fault_to None m side = None
packet_fault_to (Some own) m side = message_fault_at m own (slice_get side.channels own)

-- why a payload is refused
abbrev pub payload_fault_in : Result Packet PacketFault → Mux → Option MuxFault
payload_fault_in (Ok p) side = packet_fault_to p.to p.message side
payload_fault_in (Err f) side = read_fault (Err f)

abbrev pub payload_fault : List ℕ → Mux → Option MuxFault
payload_fault payload side = payload_fault_in (packet_of payload) side

-- a call on the channel with this number, and what it adds to the payloads that were made
pub record CallsOn (own : ℕ) (call : Call) (old : Channel) (out : List (List ℕ)) (new : Channel) (out' : List (List ℕ)) : Type 0 where
  pub messages : List Message
  pub end : End
  pub calls : Calls call old.end messages end
  pub new_is : new ≡ record old { end = end }
  pub out_is : out' ≡ out ++ texts own old.peer messages

-- the packet of a message for this channel, with the number that the sender told
abbrev pub packet_on : (own told : ℕ) → Message → Packet
packet_on own told m = record { to = Some own; from = told; message = m }

-- a message that came for it
pub record HearsOn (own : ℕ) (told : ℕ) (m : Message) (old : Channel) (out : List (List ℕ)) (new : Channel) (out' : List (List ℕ)) : Type 0 where
  pub messages : List Message
  pub end : End
  pub receives : Receives m old.end messages end
  pub new_is : new ≡ record { started = old.started; peer = told_number (packet_on own told m) old.peer m; end = end }
  pub out_is : out' ≡ out ++ texts own (told_number (packet_on own told m) old.peer m) messages

-- a request that isn't refused
pub record Answers (request : Request) (old new : MuxState) : Type 0 where
  pub packets : List Packet
  pub asks : Asks request old.side packets new.side
  pub made : new.made ≡ old.made ++ map (λ p. packet_text p) packets

-- the bytes of a read of at most `n` on a channel
abbrev pub IsReadFrom : Option Channel → (n : ℕ) → List ℕ → Type 0
IsReadFrom None n bytes = ⊥
IsReadFrom (Some c) n bytes = bytes ≡ take (taken c.end n) (drop c.end.read c.end.received)

-- a packet that isn't refused
pub record TakesPacket (p : Packet) (old new : MuxState) : Type 0 where
  pub packets : List Packet
  pub takes : Takes p old.side packets new.side
  pub made : new.made ≡ old.made ++ map (λ x. packet_text x) packets

-- a payload that isn't refused
abbrev pub TakesPayload : List ℕ → (old new : MuxState) → Type 0
TakesPayload payload old new = (p : Packet) × (packet_of payload ≡ Ok p) × TakesPacket p old new

-- payloads that came, in their order
abbrev pub ReceivesAll : List (List ℕ) → (old new : MuxState) → Type 0
ReceivesAll [] old new = new ≡ old
ReceivesAll (payload ∷ payloads) old new = (mid : MuxState) × TakesPayload payload old mid × ReceivesAll payloads mid new

-- A side receives some payloads, and refuses the next one.
pub record RefusesOneOf (payloads : List (List ℕ)) (old : MuxState) (fault : MuxFault) : Type 0 where
  pub done : List (List ℕ)
  pub payload : List ℕ
  pub rest : List (List ℕ)
  pub mid : MuxState
  pub all : payloads ≡ done ++ payload ∷ rest
  pub takes : ReceivesAll done old mid
  pub new : MuxState
  pub refused : IsRefused (payload_fault payload mid.side) fault (new ≡ mid)
