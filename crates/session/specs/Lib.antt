pub mod Turned
pub mod Walked
