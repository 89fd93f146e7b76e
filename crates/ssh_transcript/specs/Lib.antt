pub mod Making
pub mod Choosing
pub mod Ends
pub mod Reading
pub mod Alike
