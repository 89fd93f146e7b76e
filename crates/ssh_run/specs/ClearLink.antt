-- One step of a clear link, on both sides.
use Rattle.std.specs.Prelude.{◌≡◌, ℕ, ◌+◌, ◌-◌, ◌≤◌, true, false, List, [], ◌++◌, length, take, drop, min, ◌⊎◌}
use Rattle.ssh_wire.specs.Lines.{id_line}
use Rattle.ssh_wire.specs.Reading.{Waiting}
use Rattle.ssh_wire.specs.declared.error.Error.{Error}
use Rattle.ssh_wire.specs.declared.error.Error.TheVariants.{PacketSize, Memory}
use Rattle.ssh_wire.specs.declared.side.Side.TheVariants.{Client, Server}
use Rattle.ssh_wire.specs.declared.ssh_id.SshId.{SshId}
use Rattle.ssh_packet.specs.Sealing.{Clear, sealed_packet, next_number, IsAdmissible}
use Rattle.ssh_rules.specs.Valid.{is_bad_size}
use Rattle.ssh_run.specs.ClearRun.{clear_item}
use Rattle.ssh_run.specs.Receiving.{TakesPiece, CannotTake}
use Rattle.ssh_run.specs.declared.clear_link.ClearEnd.{ClearEnd}
use Rattle.ssh_run.specs.declared.clear_link.ClearLink.{ClearLink}
use Rattle.ssh_script.specs.declared.step.ClearStep.{ClearStep}
use Rattle.ssh_script.specs.declared.step.ClearStep.TheVariants.{Submit, Deliver}

-- a side that has sent its id line and taken nothing
pub record IsFresh (id : SshId) (side : ClearEnd) : Type 0 where
  pub output : side.writer.output ≡ id_line id
  pub number : side.writer.number ≡ 0
  pub sealing : side.writer.sealing ≡ Clear
  pub line : side.receiver.id ≡ Waiting [] 0
  pub reader : side.receiver.reader ≡ record { waiting = []; spent = 0; number = 0; count = 0; failed = false; handed = []; window = 0 }
  pub delivered : side.receiver.delivered.items ≡ []
  pub taken : side.taken ≡ 0

-- a payload was sealed behind what the side sent before
pub record Submits (old : ClearEnd) (payload : List ℕ) (new : ClearEnd) : Type 0 where
  pub output : new.writer.output ≡ old.writer.output ++ sealed_packet Clear old.writer.number (clear_item payload)
  pub number : new.writer.number ≡ next_number old.writer.number
  pub sealing : new.writer.sealing ≡ Clear
  pub receiver : new.receiver ≡ old.receiver
  pub taken : new.taken ≡ old.taken
  pub admissible : IsAdmissible Clear (clear_item payload)
  pub size : is_bad_size (length payload) ≡ false

-- why a payload isn't sent
abbrev pub CannotSubmit : List ℕ → Error → Type 0
CannotSubmit payload error = ((is_bad_size (length payload) ≡ true) × (error ≡ PacketSize (length payload)))
    ⊎ (error ≡ Memory)

-- the next n bytes of the other's wire, or all that wait
abbrev pub next_piece : List ℕ → ℕ → ℕ → List ℕ
next_piece wire taken n = take (min n (length wire - taken)) (drop taken wire)

pub record Delivers (old : ClearEnd) (wire : List ℕ) (n : ℕ) (new : ClearEnd) : Type 0 where
  pub taken : new.taken ≡ old.taken + min n (length wire - old.taken)
  pub receiver : TakesPiece old.receiver (next_piece wire old.taken n) new.receiver
  pub writer : new.writer ≡ old.writer

abbrev pub CannotDeliver : ClearEnd → List ℕ → ℕ → Error → Type 0
CannotDeliver old wire n error = CannotTake old.receiver (next_piece wire old.taken n) error

-- a step of the link
abbrev pub StepsOn : ClearLink → ClearStep → ClearLink → Type 0
StepsOn old (Submit Client payload) new = Submits old.client payload new.client × (new.server ≡ old.server)
StepsOn old (Submit Server payload) new = Submits old.server payload new.server × (new.client ≡ old.client)
StepsOn old (Deliver Client n) new = Delivers old.client old.server.writer.output n new.client
    × (new.server ≡ old.server)
StepsOn old (Deliver Server n) new = Delivers old.server old.client.writer.output n new.server
    × (new.client ≡ old.client)

-- why a step of the link is refused
abbrev pub CannotStep : ClearLink → ClearStep → Error → Type 0
CannotStep old (Submit Client payload) error = CannotSubmit payload error
CannotStep old (Submit Server payload) error = CannotSubmit payload error
CannotStep old (Deliver Client n) error = CannotDeliver old.client old.server.writer.output n error
CannotStep old (Deliver Server n) error = CannotDeliver old.server old.client.writer.output n error

-- no side took more than the other sent
pub record TakesWithin (link : ClearLink) : Type 0 where
  pub client : link.client.taken ≤ length link.server.writer.output
  pub server : link.server.taken ≤ length link.client.writer.output
  pub client_sealing : link.client.writer.sealing ≡ Clear
  pub server_sealing : link.server.writer.sealing ≡ Clear
