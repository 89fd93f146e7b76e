pub mod Recordings
pub mod Exchanges
pub mod Packets
pub mod Runs
pub mod Answers
pub mod Links
pub mod Laws
pub mod Growing
