use Rattle.std.proofs.Common.{[], Some}
use Rattle.ssh_packet.specs.Stream.{first_place}
use Rattle.ssh_packet.proofs.Streams.{one_reading_by}
use Rattle.ssh_packet.proofs.laws.one_reading.Goals as goal

pub returns : goal.returns
returns c ends_by openings bytes x y a b h k =
    one_reading_by ends_by [] (Some (first_place openings)) a b bytes x y h.reads k.reads h.no_more k.no_more
