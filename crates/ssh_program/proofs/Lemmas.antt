-- What crates above cite: how one status is told from another. Declares nothing.
pub use Rattle.ssh_program.proofs.OneStatus.{one_of, one_to_none, one_to_script}
