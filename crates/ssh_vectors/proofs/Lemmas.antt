-- What crates above cite. Declares nothing.
pub use Rattle.ssh_vectors.proofs.Presented.{hosts_trusted}
