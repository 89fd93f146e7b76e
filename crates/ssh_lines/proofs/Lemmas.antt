-- What crates above cite: what is left of a text behind a line. Declares nothing.
pub use Rattle.ssh_lines.proofs.LinesLeft.{size_left}
