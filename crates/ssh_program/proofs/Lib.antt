pub mod Taking
pub mod Answering
pub mod OneWords
pub mod OneStatus
pub mod Lemmas
