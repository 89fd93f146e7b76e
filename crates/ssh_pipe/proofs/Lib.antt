pub mod Ways
pub mod Telling
pub mod Known
pub mod Replies
