pub mod Forms
pub mod Submits
pub mod Judging
pub mod Blocks
