pub mod GeneratedTurns
pub mod GivenBlobs
pub mod Judging
pub mod Names
pub mod Texts
pub mod ExchangeLines
pub mod SummaryLines
pub mod SmallGroups
