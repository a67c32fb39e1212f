pub mod Ending
pub mod Unique
