-- What crates above cite. Declares nothing.
pub use Rattle.ssh_talks.proofs.Talking.{channels_are_talks}
pub use Rattle.ssh_talks.proofs.Flowing.{channels_come, channels_end, channels_finish, channels_flow, no_packet_refused}
pub use Rattle.ssh_talks.proofs.Reading.{no_payload_refused}
pub use Rattle.ssh_talks.proofs.Making.{asking_adds, hearing_lowers}
