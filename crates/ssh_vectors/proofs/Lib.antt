pub mod Lemmas
pub mod Presented
pub mod Signing
