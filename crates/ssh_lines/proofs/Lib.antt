pub mod Cutting
pub mod Names
pub mod Numbers
pub mod LinesLeft
pub mod Lemmas
