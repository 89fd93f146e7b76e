pub mod Reading
pub mod ClientViews
pub mod ClientRows
pub mod Agreed
