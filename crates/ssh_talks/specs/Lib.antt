pub mod Talks
pub mod Making
