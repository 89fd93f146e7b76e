-- What crates above cite. Declares nothing.
pub use Rattle.ssh_modp.proofs.Taken.{modp_taken}
