pub mod Tallies
pub mod Effects
pub mod Standing
pub mod Marking
