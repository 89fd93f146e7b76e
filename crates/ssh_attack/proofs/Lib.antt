pub mod Leaving
pub mod Lifting
pub mod Feeding
pub mod Running
pub mod Starting
