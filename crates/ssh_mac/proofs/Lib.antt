pub mod Filling
pub mod BlockKey
pub mod Differing
pub mod TagLaws
pub mod Lemmas
