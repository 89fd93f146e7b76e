-- What holds of a connection between calls.
use Rattle.std.specs.Prelude.{◌≡◌, ◌+◌, ◌<◌, ◌≤◌, ◌^◌, false, length}
use Rattle.ssh_wire.specs.Reading.{Failed, IsShort, waiting_length}
use Rattle.ssh_packet.specs.Reading.{window_length}
use Rattle.ssh_transport.specs.Handling.{IsOpen}
use Rattle.ssh_transport.specs.Saying.{AreGood, IsSettled}
use Rattle.ssh_transport.specs.States.{CanBegin}
use Rattle.ssh_transport.specs.declared.connection.Connection.{Connection}

-- of one that goes on
pub record IsLive (c : Connection) : Type 0 where
  pub begins : CanBegin c.session
  pub settled : IsSettled c.session c.reader.count
  pub good : AreGood c.session.held.items
  pub opened : IsOpen c.session
  pub numbered : c.reader.number < 2 ^ 32
  pub short : IsShort c.session.line
  pub heeds : c.session.line ≡ Failed → ⊥
  pub unbroken : c.reader.failed ≡ false
  pub windowed : c.reader.window ≡ window_length

-- of every one
pub record IsKept (c : Connection) : Type 0 where
  pub begins : CanBegin c.session
  pub heeds : c.session.line ≡ Failed → ⊥
  pub within : waiting_length c.session.line + length c.reader.waiting ≤ window_length
  pub live : c.failed ≡ false → IsLive c
