-- What crates above cite: the lemmas of the laws, and lemmas on lists of bytes. Declares nothing.
pub use Rattle.ssh_aes.proofs.Closing.{closes_well}
pub use Rattle.ssh_aes.proofs.Fronts.{fronts_kept}
pub use Rattle.ssh_aes.proofs.Inverses.{AreOctets-append, AreOctets-cons, AreOctets-four, AreOctets-nil, blocks_undone}
pub use Rattle.ssh_aes.proofs.Redone.{blocks_redone}
pub use Rattle.ssh_aes.proofs.Running.{AreOctets-drop, length-masked_text, opens_well, runs_well, streams_undone}
pub use Rattle.ssh_aes.proofs.Sealing.{gcm_closes_well, gcm_well}
pub use Rattle.ssh_aes.proofs.Spelling.{number_spelled, twelve_bytes}
