pub mod Report
pub mod Script
pub mod Plans
pub mod RunReport
pub mod Generated
pub mod Summary
pub mod RunScript
pub mod GivenBlobs
