use Rattle.std.proofs.Common.{[], Some, refl}
use Rattle.ssh_packet.specs.Stream.{first_place}
use Rattle.ssh_packet.proofs.Streams.{read_same_by}
use Rattle.ssh_packet.proofs.laws.reads_what_was_written.Goals as goal

pub returns : goal.returns
returns c ends_by k read written a b fed rest wire more plain agree reads writes joined =
    read_same_by ends_by [] (Some k) (Some (first_place read)) (Some (first_place written)) a b fed rest wire more plain
    (record { sealing = refl; number = refl; openings = agree }) reads writes joined
