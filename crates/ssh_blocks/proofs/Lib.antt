pub mod Spelled
pub mod Forming
pub mod Formed
pub mod Placing
pub mod Taking
pub mod Seen
pub mod Holding
pub mod Shown
