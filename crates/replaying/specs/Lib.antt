pub mod Turns
pub mod Course
