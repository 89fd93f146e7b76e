pub mod Asking
pub mod Auditing
