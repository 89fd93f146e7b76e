-- A writer and a reader with nothing between them.
use Rattle.std.specs.Prelude.{◌≡◌, [], false}
use Rattle.ssh_packet.specs.Reading.{Reader}
use Rattle.ssh_packet.specs.Sealing.{Sealing}
use Rattle.ssh_packet.specs.Writing.{Writer}

-- what the writer seals next, the reader opens next
pub record IsInStep (writer : Writer) (reader : Reader) (opening : Sealing) : Type 0 where
  pub key : writer.sealing ≡ opening
  pub number : writer.number ≡ reader.number
  pub sent : writer.output ≡ []
  pub waiting : reader.waiting ≡ []
  pub live : reader.failed ≡ false
