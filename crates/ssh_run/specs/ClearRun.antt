-- A run of a clear link: two id lines and clear packets, carried in pieces.
use Rattle.std.specs.Prelude.{◌≡◌, ℕ, ◌+◌, ◌-◌, nat_le, if◌then◌else◌, List, [], ◌∷◌, ◌++◌, length, map, min, replicate, Option, Some, None, ◌⊎◌}
use Rattle.ssh_wire.specs.Lines.{id_line, id_text, id_of, Id}
use Rattle.ssh_wire.specs.Sides.{same_side, other_side}
use Rattle.ssh_wire.specs.declared.error.Error.{Error}
use Rattle.ssh_wire.specs.declared.error.Error.TheVariants.{PacketSize, Memory}
use Rattle.ssh_wire.specs.declared.side.Side.{Side}
use Rattle.ssh_wire.specs.declared.side.Side.TheVariants.{Client, Server}
use Rattle.ssh_wire.specs.declared.ssh_id.SshId.{SshId}
use Rattle.ssh_packet.specs.Sealing.{Item, Clear, padding_length}
use Rattle.ssh_packet.specs.Stream.{packets}
use Rattle.ssh_rules.specs.Valid.{is_bad_size}
use Rattle.ssh_script.specs.declared.report.ClearReport.{ClearReport}
use Rattle.ssh_script.specs.declared.report.ClearSide.{ClearSide}
use Rattle.ssh_script.specs.declared.step.ClearStep.{ClearStep}
use Rattle.ssh_script.specs.declared.step.ClearStep.TheVariants.{Submit, Deliver}

-- an id whose line is one id line, whole (RFC 4253 section 4.2)
abbrev pub IsWholeLine : SshId → Type 0
IsWholeLine id = id_of 0 (id_line id) ≡ Id (id_text id) (length (id_line id))

-- the packet of a payload before any exchange: its padding is zeros (RFC 4253 section 6)
abbrev pub clear_item : List ℕ → Item
clear_item payload = record { payload = payload; padding = replicate (padding_length Clear (length payload)) 0 }

-- how many bytes that packet has
abbrev pub packet_size : List ℕ → ℕ
packet_size payload = 5 + length payload + padding_length Clear (length payload)

-- what a side sends that submits these payloads: its id line, and a clear packet for each, numbered from 0
abbrev pub clear_wire : SshId → List (List ℕ) → List ℕ
clear_wire id payloads = id_line id ++ packets Clear 0 (map clear_item payloads)

-- the payloads that a side submits in these steps
abbrev pub submitted_payloads : Side → List ClearStep → List (List ℕ)
submitted_payloads side [] = []
submitted_payloads side (Submit s payload ∷ steps) = if same_side s side then payload ∷ submitted_payloads side steps else submitted_payloads side steps
submitted_payloads side (Deliver s n ∷ steps) = submitted_payloads side steps

-- how many bytes a side takes in these steps, where so many wait for it: the smaller of what it is told and what waits
abbrev pub taken_in : Side → ℕ → List ClearStep → ℕ
taken_in side waiting [] = 0
taken_in side waiting (Submit s payload ∷ steps) = if same_side s side then taken_in side waiting steps else taken_in side (waiting + packet_size payload) steps
taken_in side waiting (Deliver s n ∷ steps) =
    if same_side s side then min n waiting + taken_in side (waiting - min n waiting) steps else taken_in side waiting steps

-- the payloads whose packets lie whole in the first n bytes
abbrev pub whole_in : ℕ → List (List ℕ) → List (List ℕ)
whole_in n [] = []
whole_in n (payload ∷ payloads) = if nat_le (packet_size payload) n then payload ∷ whole_in (n - packet_size payload) payloads else []

-- one side's part of the report
pub record IsClearSide (own other : SshId) (side : Side) (steps : List ClearStep) (report : ClearSide) : Type 0 where
  pub wire : report.wire ≡ clear_wire own (submitted_payloads side steps)
  pub taken : report.taken ≡ taken_in side (length (id_line other)) steps
  pub delivered : report.delivered ≡ whole_in (report.taken - length (id_line other)) (submitted_payloads (other_side side) steps)

pub record IsClearRun (client_id server_id : SshId) (steps : List ClearStep) (report : ClearReport) : Type 0 where
  pub client : IsClearSide client_id server_id Client steps report.client
  pub server : IsClearSide server_id client_id Server steps report.server

-- the size of the first payload that isn't sent
abbrev pub first_refused : List ClearStep → Option ℕ
first_refused [] = None
first_refused (Submit s payload ∷ steps) = if is_bad_size (length payload) then Some (length payload) else first_refused steps
first_refused (Deliver s n ∷ steps) = first_refused steps

-- a refusal that names the size of the first payload that isn't sent
abbrev pub IsRefusedSize : List ClearStep → Error → Type 0
IsRefusedSize steps error = (n : ℕ) × (first_refused steps ≡ Some n) × (error ≡ PacketSize n)

-- why a run is refused: a payload's size, or want of memory
abbrev pub IsRefusedRun : List ClearStep → Error → Type 0
IsRefusedRun steps error = (error ≡ Memory) ⊎ IsRefusedSize steps error
