mod MuxEnds
pub mod Carrying
pub mod Breaking
pub mod Linking
pub mod Refusing
pub mod Mild
pub mod OnTime
pub mod Honesty
pub mod Settling
pub mod Doing
pub mod Turning
pub mod Good
pub mod Stopping
pub mod Finishing
pub mod Obliging
pub mod DefaultSides
