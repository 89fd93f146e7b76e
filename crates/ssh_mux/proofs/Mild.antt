-- A message that comes is never refused as a call is.
use Rattle.std.proofs.Common.{◌≡◌, ℕ, Bool, true, false, if◌then◌else◌, List, Option, Some, None, Result, Ok, Err, IfErr, slice_get, refl, ap, ◌∙◌}
use Rattle.ssh_channels.specs.Asking.{IsRefused, excess, fault_in, message_fault_at, packet_fault_to, payload_fault, payload_fault_in}
use Rattle.ssh_channels.specs.Formats.{Bad, Other, PacketFault, packet_of}
use Rattle.ssh_channels.specs.Muxes.{Channel, Mux, Packet}
use Rattle.ssh_channels.specs.Phases.{Adjust, Close, Confirmation, Data, Eof, Failure, Message, Open, next}
use Rattle.ssh_channels.specs.declared.end.End.{End}
use Rattle.ssh_channels.specs.declared.end.Phase.{Phase}
use Rattle.ssh_channels.specs.declared.fault.MuxFault.{MuxFault}
use Rattle.ssh_mux.specs.Running.{is_call_fault}

-- no call is refused so
abbrev pub IsMild : Option MuxFault → Type 0
IsMild None = Unit {0}
IsMild (Some due) = is_call_fault due ≡ false

none_mild : IsMild None
none_mild = tt

either_mild : (b : Bool) (due : MuxFault) → is_call_fault due ≡ false → IsMild (if b then Some due else None)
either_mild true due mild = mild
either_mild false due mild = tt

answered_mild : (due : Option MuxFault) (f : MuxFault) (U : Type 0) → IsMild due → IsRefused due f U → is_call_fault f ≡ false
answered_mild None f U mild e = ap is_call_fault e
answered_mild (Some due) f U mild (e, u) = ap is_call_fault e ∙ mild

excess_mild : (m : Message) (own : ℕ) (e : End) → IsMild (excess m own e)
excess_mild (Open w n) own e = none_mild
excess_mild (Confirmation w n) own e = none_mild
excess_mild Failure own e = none_mild
excess_mild (Adjust n) own e = either_mild _ _ refl
excess_mild (Data bytes) own e = either_mild _ _ refl
excess_mild Eof own e = none_mild
excess_mild Close own e = none_mild

phase_mild : (phase : Option Phase) (m : Message) (own : ℕ) (e : End) → IsMild (fault_in phase m own e)
phase_mild None m own e = refl
phase_mild (Some phase) m own e = excess_mild m own e

channel_mild : (m : Message) (own : ℕ) (c : Option Channel) → IsMild (message_fault_at m own c)
channel_mild m own None = refl
channel_mild m own (Some c) = phase_mild (next c.started c.end.heard m) m own c.end

to_mild : (to : Option ℕ) (m : Message) (side : Mux) → IsMild (packet_fault_to to m side)
to_mild None m side = none_mild
to_mild (Some own) m side = channel_mild m own (slice_get side.channels own)

packet_mild : (read : Result Packet PacketFault) (side : Mux) → IsMild (payload_fault_in read side)
packet_mild (Ok p) side = to_mild p.to p.message side
packet_mild (Err (Bad fault)) side = refl
packet_mild (Err (Other message_type)) side = refl

pub no_call_refused : {A : Type 0} (r : Result A MuxFault) (payload : List ℕ) (side : Mux) (U : Type 0) → IfErr r (λ f. IsRefused (payload_fault payload side) f U) → IfErr r (λ f. is_call_fault f ≡ false)
no_call_refused (Ok x) payload side U h = tt
no_call_refused (Err f) payload side U h = answered_mild (payload_fault payload side) f U (packet_mild (packet_of payload) side) h
