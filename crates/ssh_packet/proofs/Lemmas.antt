-- What proofs above cite.
pub use Rattle.ssh_packet.proofs.Fronts.{front_whole, front_stays_whole, front_stays_refused, opens_again, states_agree}
pub use Rattle.ssh_packet.proofs.Lent.{never_memory}
pub use Rattle.ssh_packet.proofs.Padding.{padding_fills}
pub use Rattle.ssh_packet.proofs.Shapes.{one_packet, cut_alike, u32_injective, length_framed, length_sealed, length_take4}
pub use Rattle.ssh_packet.proofs.Sound.{front_sound, moved_sound}
pub use Rattle.ssh_packet.proofs.Streams.{one_reading_by, plain_reads, plain_behind, plain_by_type, read_same_by, reads_by_type, reads_more, reads_split}
