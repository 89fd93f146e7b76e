use Rattle.std.proofs.Common.{[], Some, subst}
use Rattle.ssh_packet.specs.Stream.{first_place, IsEnd}
use Rattle.ssh_packet.proofs.Streams.{plain_reads, plain_behind}
use Rattle.ssh_packet.proofs.laws.plain_reading.Goals as goal

pub returns : goal.returns
returns c ends_by openings bytes x a plain h = record {
  reads = plain_reads ends_by [] (Some (first_place openings)) a bytes x plain h.reads;
  no_more = subst (λ q. IsEnd q x) (plain_behind ends_by [] (Some (first_place openings)) a plain) h.no_more;
}
