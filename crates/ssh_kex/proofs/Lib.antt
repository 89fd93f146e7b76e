pub mod Signatures
pub mod Presenting
pub mod Taking
pub mod KeyBytes
pub mod Stretching
pub mod Rooms
pub mod Sizes
pub mod Refused
pub mod Drawn
pub mod Ended
pub mod BitSizes
pub mod Parting
pub mod Secrets
pub mod Meeting
mod Opened
pub mod Lemmas
mod ReadAgain
mod Excluding
mod Uncounted
