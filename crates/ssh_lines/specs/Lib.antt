pub mod Lines
pub mod OverLong
pub mod Fields
pub mod LineFaults
pub mod Printed
